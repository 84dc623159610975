-- What was seen of heads is seen still, raise by raise.
use Rattle.std.proofs.Common.{rules, ◌≡◌, ℕ, ◌≤◌, ◌<◌, inl, inr, List, length, get_or, set, refl, sym, ◌∙◌, ap, arith}
use Rattle.std.proofs.lemmas.{Bool.cases_eq, Grind.get_or-set_at, List.{get_or-set_other, length-set}}
use Rattle.shop_states.specs.inner.{LaneRaises.{Raise, raise_of, widened}, Raises.IsPosition}
use Rattle.shop_states.specs.inner.Watchers.{AreSeen, IsSeenAt, Notes, Sees, Watches, floor_on, no_floor}
use Rattle.shop_states.proofs.LaneBoundTurns.{raise_from, raise_here, raise_to, up_to_turn}

module _ (floors : ℕ → ℕ) (ms : List ℕ) where
  pub watch_none : (heads : List ℕ) (raises : List Raise) → Watches floors ms heads heads raises raises
  watch_none heads raises = record { long = refl; seen = λ was so. so; up_to = λ top small up_to. up_to }

  pub watch_both : (a b c : List ℕ) {r s t : List Raise} → ((q : ℕ) → get_or b q 0 ≤ get_or c q 0)
      → Watches floors ms a b r s → Watches floors ms b c s t → Watches floors ms a c r t
  watch_both a b c rises x y = record {
    long = y.long ∙ x.long;
    seen = λ was so. y.seen was (x.seen was so);
    up_to = λ top small up_to. grind arith;
  }

  -- one head was raised to the end, which is seen already
  pub seen_first : (old new : List ℕ) (raises : List Raise) (p end : ℕ) → new ≡ set old p end → p < length old
      → (was : List ℕ) → IsSeenAt (raise_of raises (get_or ms p 0)) (floors (get_or ms p 0)) (get_or was p 0) end
      → AreSeen floors ms raises was old → AreSeen floors ms raises was new
  seen_first old new raises p end wrote within was here so q = grind (arith, cases_eq, get_or-set_at, get_or-set_other)

  -- what follows is added to the raise of its machine
  pub watch_next : (old new : List ℕ) (before after : List Raise) (p v h m : ℕ) → new ≡ set old p v
      → p < length old → h ≡ get_or old p 0 → m ≡ get_or ms p 0 → m < length before
      → after ≡ set before m (widened (raise_of before m) h v) → Watches floors ms old new before after
  watch_next old new before after p v h m wrote within read on known saw = record {
    long = ap (λ (rs : List Raise). length rs) saw ∙ length-set before m (widened (raise_of before m) h v);
    seen = grind (arith, raise_from, raise_to, cases_eq, raise_here, get_or-set_at, get_or-set_other);
    up_to = λ top small up_to. up_to_turn before m h v known after saw top
        (let s = small p in let now : get_or new p 0 ≡ v =
        ap (λ (xs : List ℕ). get_or xs p 0) wrote ∙ get_or-set_at old p p v 0 refl within in omega arith) up_to;
  }

-- as a raise follows a route
module _ {ms : List ℕ} {p end : ℕ} {old now : List ℕ} {before mid : List Raise}
    (so_far : Sees ms (IsPosition p) end old now before mid) where
  pub sees_long : length mid ≡ length before
  sees_long = (so_far.watches (get_or ms p 0) (λ q e. ap (λ (x : ℕ). get_or ms x 0) e)).long

  pub sees_next : {new : List ℕ} {after : List Raise} {q v h m : ℕ} → new ≡ set now q v → q < length now
      → h ≡ get_or now q 0 → h < v → m ≡ get_or ms q 0 → m < length before
      → after ≡ set mid m (widened (raise_of mid m) h v)
      → Sees ms (IsPosition p) end old new before after
  sees_next {new} {after} {q} {v} {h} {m} wrote within read rises at known saw = record {
    watches = λ own on.
        let so = so_far.watches own on in let long = so.long
        in watch_both (floor_on own end) ms old now new
        (λ r. elim (cases_eq r q) [
          | inl e ↦ grind (arith, get_or-set_at)
          | inr ne ↦ grind (arith, get_or-set_other)
        ]) so (watch_next (floor_on own end) ms now new mid after q v h m wrote within read at (omega arith) saw);
  }

pub sees_first : {ms : List ℕ} {p end : ℕ} {old new : List ℕ} {raises : List Raise}
    → new ≡ set old p end → p < length old → Sees ms (IsPosition p) end old new raises raises
sees_first {ms} {p} {end} {old} {new} {raises} wrote within = search rules

-- the same where what the first head rises to is noted already
pub notes_first : {ms : List ℕ} {p end : ℕ} {old new : List ℕ} {raises : List Raise}
    → new ≡ set old p end → p < length old → Notes ms p end old new raises raises
notes_first {ms} {p} {end} {old} {new} {raises} wrote within =
    record { seen = seen_first no_floor ms old new raises p end wrote within }

pub notes_next : {ms : List ℕ} {p end : ℕ} {old now new : List ℕ} {before mid after : List Raise} {q h m : ℕ} (v : ℕ)
    → Notes ms p end old now before mid → length mid ≡ length before → new ≡ set now q v → q < length now
    → h ≡ get_or now q 0 → m ≡ get_or ms q 0 → m < length before
    → after ≡ set mid m (widened (raise_of mid m) h v) → Notes ms p end old new before after
notes_next {ms} {p} {end} {old} {now} {new} {before} {mid} {after} {q} {h} {m} v so_far long wrote within read at
    known saw = record {
      seen = λ was here so. (watch_next no_floor ms now new mid after q v h m wrote within read at (omega arith)
          saw).seen was (so_far.seen was here so);
    }

-- one part after the other
pub sees_both : {ms : List ℕ} (A B C : ℕ → Type 0) {end : ℕ} {a b c : List ℕ} {r s t : List Raise}
    → ((q : ℕ) → A q → C q) → ((q : ℕ) → B q → C q) → ((q : ℕ) → get_or b q 0 ≤ get_or c q 0)
    → Sees ms A end a b r s → Sees ms B end b c s t → Sees ms C end a c r t
sees_both {ms} A B C {end} {a} {b} {c} {r} {s} {t} in_a in_b rises x y = record {
  watches = λ own on. watch_both (floor_on own end) ms a b c rises (x.watches own (λ q here. on q (in_a q here)))
      (y.watches own (λ q here. on q (in_b q here)));
}

pub sees_none : {ms : List ℕ} {A : ℕ → Type 0} {end : ℕ} {a : List ℕ} {r : List Raise}
    → Sees ms A end a a r r
sees_none {ms} {end} {a} {r} = record { watches = λ own on. watch_none (floor_on own end) ms a r }

-- a head is noted first, and then raised with what follows
pub noted_behind : {ms : List ℕ} {p end : ℕ} {old new : List ℕ} {before mid after : List Raise} {h m : ℕ}
    → Notes ms p end old new mid after → Sees ms (IsPosition p) end old new mid after
    → mid ≡ set before m (widened (raise_of before m) h end) → m ≡ get_or ms p 0 → m < length before
    → h ≡ get_or old p 0 → end ≤ get_or new p 0 → Watches no_floor ms old new before after
noted_behind {ms} {p} {end} {old} {new} {before} {mid} {after} {h} {m} noted sees saw at known read reached =
    let rest = sees.watches (get_or ms p 0) (λ q e. ap (λ (x : ℕ). get_or ms x 0) e)
    in record {
      long = grind (arith, length-set);
      seen = λ was so. noted.seen was
          (let here = raise_here before m h end known mid saw (get_or ms p 0) (sym at)
          in let from = ap (λ (r : Raise). r.from) here in let to = ap (λ (r : Raise). r.to) here
          in let same = ap (λ (n : ℕ). (raise_of before n).from) at
          in elim (so p) [
            | inl still ↦ inr (omega arith, omega arith)
            | inr inside ↦ (let f = inside.0 in inr (omega arith, omega arith))
          ])
          (λ q. let low = raise_from before m h end known mid saw (get_or ms q 0)
          in let high = raise_to before m h end known mid saw (get_or ms q 0)
          in elim (so q) [
            | inl still ↦ inl still
            | inr inside ↦ (let f = inside.0 in let t = inside.1 in inr (omega arith, omega arith))
          ]);
      up_to = λ top small up_to. rest.up_to top small
          (up_to_turn before m h end known mid saw top (let s = small p in omega arith) up_to);
    }
