-- A child that is kept stays so without its state, and each state has room for a word.
use Rattle.std.proofs.Common.{◌≡◌, ℕ, ◌+◌, ◌-◌, ◌≤◌, ◌<◌, List, ◌++◌, ◌∷◌, [], length, map, get_or, set, inl, inr, All}
use Rattle.std.proofs.{Common.{None, Some, Option, refl, sym, ◌∙◌, ap, subst, arith}, Math.Seq.map-set_same}
use Rattle.std.proofs.lemmas.List.{get_or-append-add, get_or-map, length-append, length-map, map-set, set-append_right}
use Rattle.std.{proofs.lemmas.List.Elements.All-set, specs.{Global.Box, List.insert, Prelude.OnSome}}
use Rattle.shop_nodes.specs.Halts.{word_at}
use Rattle.shop_tree.specs.{declared.held.Held.Held, inner.Held.{IsHeldOf, IsKept, Kept, held, opens_in}}
use Rattle.shop_tree.specs.inner.Tried.{AreRoomsFrom, HasPutTried, HasStripped}
use Rattle.shop_tree.proofs.TrialLemmas.{IsTrying, tried_child, turn_kept}
use Rattle.shop_states.specs.{States.TellsBoundBelow, declared.states.Candidate.Candidate}
use Rattle.shop_model.specs.{Shop.Shop, Word.IsWord}
use Rattle.shop_bound.specs.Bound.{lb}

held_room : {S : Type 0} (is : List ℕ → S → Type 0) (room : S → Type 0) → ((w : List ℕ) (s : S) → is w s → room s)
    → (w : List ℕ) (state : Option (Box S)) → IsHeldOf is w state → IsHeldOf (λ v s. room s) [] state
held_room is room law w None of = tt
held_room is room law w (Some b) of = law w b.value of

-- the children on top of a stack
module _ {S : Type 0} (below : List (Held S)) (kids : List (Kept S)) (from : ℕ) (e : from ≡ length below)
    (stack : List (Held S)) (top : stack ≡ below ++ map held kids) where
  pub many : length stack ≡ from + length kids
  many = grind (arith, length-append, length-map)

  pub at_kid : (i : ℕ) → from ≤ i → i < length stack → (d : Held S) (k : Kept S)
      → get_or stack i d ≡ held (get_or kids (i - from) k)
  at_kid i low high d k =
      let n = i - from in let long = many
      in let there : get_or stack i d ≡ get_or (below ++ map held kids) (length below + n) d =
      ap (λ (xs : List (Held S)). get_or xs i d) top
      ∙ ap (λ (m : ℕ). get_or (below ++ map held kids) m d) (omega arith)
      in there ∙ (get_or-append-add below (map held kids) n d ∙ get_or-map (held {S = S}) kids n k d (omega arith))

  module _ (is : List ℕ → S → Type 0) (word : List ℕ) (each : All (IsKept is word) kids) where
    pub are_rooms : (room : S → Type 0) → ((w : List ℕ) (s : S) → is w s → room s) → AreRoomsFrom room from stack
    are_rooms room law i d low high =
        let k : Kept S = record { «open» = record { depth = 0; job = 0; bound = 0 }; state = None }
        in let long = many
        in let own = get_or kids (i - from) k
        in subst (λ (h : Held S). IsHeldOf (λ v s. room s) [] h.state) (sym (at_kid i low high d k))
        (held_room is room law (word_at word own.open) own.state (each (i - from) k (omega arith)))

    -- the same children, of which one has no state any more
    pub record AreStripped (new : List (Held S)) : Type 0 where
      pub left : List (Kept S)
      pub put : new ≡ below ++ map held left
      pub opens : opens_in left ≡ opens_in kids
      pub states : All (IsKept is word) left

    pub stripped : (new : List (Held S)) (state : Option (Box S)) → HasStripped from stack new state → AreStripped new
    stripped new state (inl same) = record { left = kids; put = same.0 ∙ top; opens = refl; states = each }
    stripped new state (inr (i, (h, at))) =
        let n = i - from
        in let k : Kept S = record { «open» = record { depth = 0; job = 0; bound = 0 }; state = None }
        in let own = get_or kids n k
        in let bare : Kept S = record { «open» = own.open; state = None }
        in let low = at.low in let high = at.within
        in let is_own : h ≡ held own = at.is ∙ at_kid i low high h k
        in let wrote : new ≡ set stack i (held bare) =
        at.stripped ∙ ap (λ (x : Held S). set stack i (record { pending = x.pending; state = None })) is_own
        in record {
          left = set kids n bare;
          put = wrote ∙ (ap (λ (xs : List (Held S)). set xs i (held bare)) top
              ∙ (set-append_right below (map held kids) from i (held bare) (sym e) low
              ∙ ap (λ (xs : List (Held S)). below ++ xs) (sym (map-set (held {S = S}) kids n bare))));
          opens = map-set_same (λ (p : Kept S). p.open) kids n bare k refl;
          states = All-set (IsKept is word) kids n bare tt each;
        }

-- the child that was tried lies among the others
pub record HasKept {S : Type 0} (is : List ℕ → S → Type 0) (of : Candidate → Type 0) (shop : Shop) (limit : ℕ)
    (word : List ℕ) (cs : List Candidate) (i others : ℕ) (current : S) (below new : List (Held S)) : Type 0 where
  pub kids : List (Kept S)
  pub stack : new ≡ below ++ map held kids
  pub trying : IsTrying is of shop limit word cs i kids others current

module _ {S : Type 0} {is : List ℕ → S → Type 0} {of : Candidate → Type 0} {shop : Shop} {limit : ℕ} {word : List ℕ}
    {cs : List Candidate} {i : ℕ} (some : 0 < i) {kids : List (Kept S)} {others : ℕ} {current : S}
    (t : IsTrying is of shop limit word cs i kids others current) where
  abbrev job : ℕ
  job = (get_or cs (i - 1) (record { job = 0; own = 0 })).job

  still_trying : (left : List (Kept S)) → opens_in left ≡ opens_in kids → All (IsKept is word) left
      → IsTrying is of shop limit word cs i left others current
  still_trying left opens states = grind arith

  pub tried_kept : {from b : ℕ} {told : Option ℕ} {trial : S} {below old new : List (Held S)} → from ≡ length below
      → old ≡ below ++ map held kids
      → HasPutTried from (record { depth = length word; job = job; bound = b }) trial old new → told ≡ Some b
      → TellsBoundBelow limit (lb shop (word ++ job ∷ [])) told → OnSome told (is (word ++ job ∷ []) trial)
      → IsWord shop word → (now : S) → (0 < i - 1 → is word now)
      → HasKept is of shop limit word cs (i - 1) others now below new
  tried_kept {from} {b} {told} {trial} {below} {old} e stack put some_b tells of_trial is_word now wanted =
      let less = stripped below kids from e old stack is word t.states put.mid put.room.0 put.room.1
      in let child = tried_child is shop word limit job b told trial put.state some_b tells of_trial put.taken
      in let lies = put.put below less.left e less.put
      in record {
        kids = insert less.left lies.at
            (record { «open» = record { depth = length word; job = job; bound = b }; state = put.state });
        stack = lies.put;
        trying = turn_kept some (still_trying less.left less.opens less.states) now is_word child lies wanted;
      }
