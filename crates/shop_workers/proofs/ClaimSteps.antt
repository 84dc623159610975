-- A claim is one swap of a flag, which keeps a board lawful.
use Rattle.std.proofs.Common.{◌≡◌, ◌≢◌, ◌⊎◌, ℕ, ◌<◌, List, [], length, set, Bool, true, false, refl, sym, subst, ⊎_elim}
use Rattle.std.proofs.{Common.arith, lemmas.List.{length-set, get_or-set_same, get_or-set_other}}
use Rattle.std.specs.Prelude.{slice_index}
use mathlib.Core.Option.{none}
use native.Mathlib.Decide.{ℕ_discrete}
use Rattle.atomic_table.specs.Table.{step, Me, Allows, keeps}
use Rattle.shop_workers.specs.{declared.views.View.View, Views.has, Moves.{with_mine, with_seen, IsTold}}
use Rattle.shop_workers.specs.{Moments.{hit_word, IsLive, IsClaimed, Knows, IsLawful}, inner.Steps.Claims}
use Rattle.shop_workers.specs.Winners.{IsDecided}
use Rattle.shop_workers.proofs.{Numbers.{has_cons, has_head, has_tail, has_same, is_false, once_cons}, Words.same_word}
use Rattle.shop_workers.proofs.LawfulSteps.{Moment, Risen, Step, still_knows, stepped_lawful, quiet}

module _ (hits : List Bool) (s : Moment) (id : ℕ) (v : View) (i : ℕ) (law : IsLawful hits s) (at : IsLive s.views id v)
    (inside : i < length hits) where
  flagged : List ℕ
  flagged = set s.words i 1

  flag_set : slice_index flagged i ≡ 1
  unfolding flagged
  flag_set = let size = law.size in get_or-set_same s.words i 1 0 (omega arith)

  flag_else : (n : ℕ) → n ≢ i → slice_index flagged n ≡ slice_index s.words n
  unfolding flagged
  flag_else n ne = get_or-set_other s.words i n 1 0 ne

  same_hit : hit_word hits flagged ≡ hit_word hits s.words
  same_hit = flag_else (length hits) (λ e. omega arith)

  risen : Risen hits flagged s.words
  risen = grind (arith, ℕ_discrete, flag_set, flag_else)

  is_flag : (n : ℕ) → n < length hits → (slice_index flagged n ≡ 0) ⊎ (slice_index flagged n ≡ 1)
  is_flag n below = grind (arith, ℕ_discrete, flag_set, flag_else)

  claimed_by_me : (n : ℕ) → i ≡ n → IsClaimed hits flagged n
  claimed_by_me n e = subst (IsClaimed hits flagged) e (inside, flag_set)

  -- where the flag was 0
  module _ (zero_found : slice_index s.words i ≡ 0) where
    pub not_mine : has v.mine i ≡ false
    not_mine = is_false (has v.mine i) (λ m. let o = ((law.knows id v at).mine i m).1 in absurd (omega arith))

    won_knows : Knows hits flagged (with_mine v i)
    won_knows = let k = still_knows hits flagged s.words v risen (law.knows id v at) in record {
      same = k.same;
      mine = λ n m. ⊎_elim (λ (e : i ≡ n). claimed_by_me n e) (λ old. k.mine n old) (has_cons i n v.mine m);
      seen = k.seen;
      single = once_cons i v.mine (λ m. let o = ((law.knows id v at).mine i m).1 in absurd (omega arith)) k.single;
      low = k.low;
      below = k.below;
      done = λ n m. let t = k.done n m in (has_tail i n v.mine t.0, t.1, t.2, t.3);
    }

    pub claim_won : Step hits s.words (set s.words i 1) v (with_mine v i)
    unfolding flagged
    claim_won =
        grind (
          arith,
          length-set,
          risen,
          is_flag,
          ℕ_discrete,
          has_same,
          flag_else,
          same_hit,
          has_tail,
          won_knows,
          has_cons,
        )

  -- where it was 1
  module _ (one_found : slice_index s.words i ≡ 1) where
    lost_knows : Knows hits s.words (with_seen v i)
    lost_knows = let k = law.knows id v at in record {
      same = k.same;
      mine = k.mine;
      seen = λ n m. grind (arith, has_cons);
      single = k.single;
      low = k.low;
      below = k.below;
      done = k.done;
    }

    pub claim_lost : Step hits s.words (set s.words i 1) v (with_seen v i)
    claim_lost = grind (arith, same_word, quiet, lost_knows)

claims_at : (hits : List Bool) (slots id : ℕ) (v : View) (i : ℕ) → v.live ≡ true → i < length hits
    → Allows (IsLawful hits) slots id (v, []) i (λ _. 1) (Claims (step slots i 1 0 none) (v, []))
claims_at hits slots id v i live inside s law _ at _ = ⊎_elim (λ (z : slice_index s.words i ≡ 0). (
  with_mine v i,
  keeps,
  tt,
  stepped_lawful hits s id v (with_mine v i) (set s.words i 1) law (at, live)
      (claim_won hits s id v i law (at, live) inside z),
  (refl, rw z (refl, not_mine hits s id v i law (at, live) inside z)),
)) (λ (o : slice_index s.words i ≡ 1). (
  with_seen v i,
  keeps,
  tt,
  stepped_lawful hits s id v (with_seen v i) (set s.words i 1) law (at, live)
      (claim_lost hits s id v i law (at, live) inside o),
  (refl, rw o refl),
)) (law.flag i inside)

-- the same at a seat that holds no slot
pub claims : (hits : List Bool) (slots id : ℕ) (me : Me (Unit {0}) View) (i : ℕ) → me.1 ≡ [] → me.0.live ≡ true
    → i < length hits → Allows (IsLawful hits) slots id me i (λ _. 1) (Claims (step slots i 1 0 none) me)
claims hits slots id me i bare live inside =
    subst (λ (m : Me (Unit {0}) View). Allows (IsLawful hits) slots id m i (λ _. 1) (Claims (step slots i 1 0 none) m))
    (λ j. (me.0, sym bare j)) (claims_at hits slots id me.0 i live inside)

-- a claim that was won or lost says who has won the piece
pub decided : (hits : List Bool) (won : Bool) (n : ℕ) (v w : View) → IsTold won n v w → IsDecided won hits n w
decided hits true n v w t = λ s seat other u law at there theirs.
    law.apart other seat u w n there at theirs (subst (λ (x : View). has x.mine n ≡ true) (sym t.0) (has_head n v.mine))
decided hits false n v w e = λ s seat law at.
    law.won n ((law.knows seat w at).seen n (subst (λ (x : View). has x.seen n ≡ true) (sym e) (has_head n v.seen)))
