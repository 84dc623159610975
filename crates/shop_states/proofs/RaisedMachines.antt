-- Machines with a raise are listed: one more, and one less.
use Rattle.std.proofs.Common.{◌≡◌, ℕ, ◌≤◌, ◌<◌, ◌⊎◌, inl, inr, List, [], ◌∷◌, length, get_or, set, refl}
use Rattle.std.proofs.{Common.{sym, ◌∙◌, ap, subst, arith}, lemmas.{Bool.{cases_eq, cases_lt}, Grind.get_or-set_at}}
use Rattle.std.proofs.lemmas.List.{get_or-map, get_or-set_same, get_or-set_other, length-map, length-set, map-set}
use Rattle.shop_lanes.{specs.{Rows.Lane, Spans.spans_between}, proofs.LeapTurns.none_between}
use Rattle.shop_states.specs.{declared.lane_raises.LaneRaise.LaneRaise, inner.{JobSets.HasPut, RaiseCalls.CanNote}}
use Rattle.shop_states.specs.inner.LaneRaises.{Raise, no_raise, raise_in, raise_of, raises_in, widened}
use Rattle.shop_states.specs.inner.{MachineRaises.{AreEmpty, AreListed, IsSpanByRaise}, RisingLists.IsIn}
use Rattle.shop_states.specs.inner.Watchers.{AreKnown}

-- raises in lanes: one that is read, and one that is written
module _ {N : Type 0} (value : N → ℕ) where
  pub raise_there : (raises : List (LaneRaise N)) (m : ℕ) (r : LaneRaise N) → m < length raises
      → r ≡ get_or raises m r → raise_in value r ≡ raise_of (raises_in value raises) m
  raise_there raises m r here read = grind (arith, get_or-map)

  pub widened_in : (raises : List (LaneRaise N)) (m a b : ℕ) (r w : LaneRaise N) → m < length raises
      → r ≡ get_or raises m r → raise_in value w ≡ widened (raise_in value r) a b
      → raises_in value (set raises m w)
      ≡ set (raises_in value raises) m (widened (raise_of (raises_in value raises) m) a b)
  widened_in raises m a b r w here read is = grind (arith, map-set, raise_there)

  pub lengths_in : (before after : List (LaneRaise N))
      → length (raises_in value after) ≡ length (raises_in value before) → length after ≡ length before
  lengths_in before after same = sym (length-map after (raise_in value)) ∙ same ∙ length-map before (raise_in value)

-- notes begin with raises at rest and an empty set
pub can_note : {N : Type 0} (value : N → ℕ) {numbers : ℕ} {ms : List ℕ} {raises items : List (LaneRaise N)}
    {old : List Raise} {raised : List ℕ} → raises ≡ items → raises_in value items ≡ old → length items ≤ 128
    → AreEmpty old → AreKnown ms (length old) → raised ≡ [] → 0 < numbers
    → (numbers ≡ 1 → length raises ≤ 64) → CanNote value numbers ms raises raised
can_note value same view most empty known none some small = record {
  some = some;
  known = λ q here. grind (arith, length-map);
  machines_fit = small;
  listed = grind (arith, length-map);
}

-- and go on
pub note_on : {N : Type 0} {value : N → ℕ} {numbers : ℕ} {ms : List ℕ} {raises after : List (LaneRaise N)}
    {raised machines : List ℕ} → CanNote value numbers ms raises raised
    → length (raises_in value after) ≡ length (raises_in value raises) → AreListed (raises_in value after) machines
    → CanNote value numbers ms after machines
note_on {value = value} {raises = raises} {after = after} can same are =
    let long = lengths_in value raises after same
    in record {
      some = can.some;
      known = λ q here. (let is = can.known q here in omega arith);
      machines_fit = λ one. (let few = can.machines_fit one in omega arith);
      listed = are;
    }

-- a raise that was widened, and its machine put into the set
pub listed_more : (raises : List Raise) (machines after : List ℕ) (m a b : ℕ) → AreListed raises machines
    → m < length raises → HasPut m machines after
    → AreListed (set raises m (widened (raise_of raises m) a b)) after
listed_more raises machines after m a b are known put = grind (arith, length-set, cases_eq, get_or-set_other)

-- the first of the list, whose raise is empty now
module _ {raises : List Raise} {machines rest : List ℕ} {m : ℕ} (are : AreListed raises machines)
    (popped : machines ≡ m ∷ rest) where
  pub first_known : m < length raises
  first_known = are.known m (subst (λ (xs : List ℕ). IsIn xs m) (sym popped) (inl refl))

  module _ (empty : Raise) (none : empty.to ≡ 0) where
    pub raise_elsewhere : (n : ℕ) → (n ≡ m → ⊥) → raise_of (set raises m empty) n ≡ raise_of raises n
    raise_elsewhere n ne = get_or-set_other raises m n empty no_raise ne

    pub raise_emptied : (n : ℕ) → n ≡ m → (raise_of (set raises m empty) n).to ≡ 0
    raise_emptied n e = grind (arith, get_or-set_same, first_known)

    pub listed_less : AreListed (set raises m empty) rest
    listed_less =
        let long = length-set raises m empty
        in record {
          few = (let f = are.few in omega arith);
          known = λ n h. (let k = are.known n (subst (λ (xs : List ℕ). IsIn xs n) (sym popped) (inr h))
              in omega arith);
          listed = λ n some. grind (arith, cases_eq, raise_emptied, raise_elsewhere);
        }

-- the raises that are left of old ones, on these machines
pub record AreLeft (old raises : List Raise) (machines : List ℕ) : Type 0 where
  pub are_listed : AreListed raises machines
  pub long : length raises ≡ length old
  pub smaller : (m : ℕ) → (raise_of raises m).to ≤ (raise_of old m).to

pub left_less : {old raises : List Raise} {machines rest : List ℕ} {m : ℕ} → AreLeft old raises machines
    → machines ≡ m ∷ rest → (empty : Raise) → empty.to ≡ 0 → AreLeft old (set raises m empty) rest
left_less {old} {raises} {machines} {rest} {m} left popped empty none =
    let are = left.are_listed
    in record {
      are_listed = listed_less are popped empty none;
      long = length-set raises m empty ∙ left.long;
      smaller = λ n. elim (cases_eq n m) [
        | inl e ↦ (let z = raise_emptied are popped empty none n e in omega arith)
        | inr ne ↦ (let f = ap (λ (r : Raise). r.to) (raise_elsewhere are popped empty none n ne)
            in let s = left.smaller n in omega arith)
      ];
    }

-- where nothing is listed, all raises are empty
pub all_empty : (raises : List Raise) → AreListed raises [] → AreEmpty raises
all_empty raises are m = grind (arith, cases_lt)

-- what begins within the raises before, but for those that are left, is bounded
pub record IsTakenSo (least limit : ℕ) (old : List Raise) (on : ℕ → List Lane) (raises : List Raise)
    (machines : List ℕ) (bound : ℕ) : Type 0 where
  pub left : AreLeft old raises machines
  pub low : least ≤ bound
  pub covers : bound < limit → (m : ℕ) → (raise_of old m ≡ raise_of raises m)
      ⊎ (spans_between (raise_of old m).from (raise_of old m).to (on m) ≤ bound)
  pub within : (c : ℕ) → least ≤ c
      → ((m above upto : ℕ) → m < length old → spans_between above upto (on m) ≤ c) → bound ≤ c

module _ {least limit : ℕ} {old : List Raise} {on : ℕ → List Lane} where
  pub taken_more : {raises : List Raise} {machines rest : List ℕ} {bound : ℕ}
      → IsTakenSo least limit old on raises machines bound → {m : ℕ} → machines ≡ m ∷ rest
      → (empty : Raise) → empty.to ≡ 0 → {b : ℕ} → IsSpanByRaise (raise_of raises m) (on m) limit bound b
      → IsTakenSo least limit old on (set raises m empty) rest b
  taken_more {raises} {machines} {rest} so {m} popped empty none turn =
      let are = so.left.are_listed in let low = so.low in let more = turn.low in let long = so.left.long
      in let known = first_known are popped
      in record {
        left = left_less so.left popped empty none;
        low = omega arith;
        covers = λ under n. elim (so.covers (omega arith) n) [
          | inl same ↦ elim (cases_eq n m) [
            | inl e ↦ inr (rw (same, e) (turn.covers under))
            | inr ne ↦ inl (same ∙ sym (raise_elsewhere are popped empty none n ne))
          ]
          | inr done ↦ inr (omega arith)
        ];
        within = λ c above each. turn.within c (so.within c above each) (λ x y. each m x y (omega arith));
      }

  -- a machine is passed whose spans were bounded before
  pub taken_passed : {raises : List Raise} {machines rest : List ℕ} {bound : ℕ}
      → IsTakenSo least limit old on raises machines bound → {m : ℕ} → machines ≡ m ∷ rest
      → (empty : Raise) → empty.to ≡ 0
      → spans_between (raise_of old m).from (raise_of old m).to (on m) ≤ bound
      → IsTakenSo least limit old on (set raises m empty) rest bound
  taken_passed {raises} {machines} {rest} so {m} popped empty none under =
      let are = so.left.are_listed
      in record {
        left = left_less so.left popped empty none;
        low = so.low;
        covers = λ below n. elim (so.covers below n) [
          | inl same ↦ elim (cases_eq n m) [
            | inl e ↦ inr (rw e under)
            | inr ne ↦ inl (same ∙ sym (raise_elsewhere are popped empty none n ne))
          ]
          | inr done ↦ inr done
        ];
        within = so.within;
      }

  pub taken_all : {raises : List Raise} {machines : List ℕ} {bound : ℕ} → machines ≡ []
      → IsTakenSo least limit old on raises machines bound
      → AreEmpty raises × (bound < limit → (m : ℕ)
      → spans_between (raise_of old m).from (raise_of old m).to (on m) ≤ bound)
  taken_all {raises} none so = grind (arith, all_empty, none_between)

-- what begins within the raises before, but for those that are left, is no more than a number for each machine
pub record IsFoundSo (least : ℕ) (old : List Raise) (on : ℕ → List Lane) (raises : List Raise)
    (machines cs : List ℕ) (greatest : ℕ) : Type 0 where
  pub left : AreLeft old raises machines
  pub low : least ≤ greatest
  pub least_of : (m : ℕ) → m < length cs → least ≤ get_or cs m 0
  pub covers : (m : ℕ) → m < length cs → (raise_of old m ≡ raise_of raises m)
      ⊎ (spans_between (raise_of old m).from (raise_of old m).to (on m) ≤ get_or cs m 0)
  pub most : (m : ℕ) → m < length cs → get_or cs m 0 ≤ greatest

module _ {least : ℕ} {old : List Raise} {on : ℕ → List Lane} where
  pub found_begins : {raises : List Raise} {machines cs : List ℕ} → raises ≡ old → AreListed old machines
      → ((m : ℕ) → m < length cs → get_or cs m 0 ≡ least) → IsFoundSo least old on raises machines cs least
  found_begins {raises} {machines} {cs} same are full =
      subst (λ (rs : List Raise). IsFoundSo least old on rs machines cs least) (sym same) (record {
        left = record { are_listed = are; long = refl; smaller = λ m. omega arith };
        low = omega arith;
        least_of = λ m here. (let e = full m here in omega arith);
        covers = λ m here. inl refl;
        most = λ m here. (let e = full m here in omega arith);
      })

  pub found_more : {raises : List Raise} {machines rest cs cs' : List ℕ} {greatest : ℕ}
      → IsFoundSo least old on raises machines cs greatest → {m : ℕ} → machines ≡ m ∷ rest
      → (empty : Raise) → empty.to ≡ 0 → (c : ℕ) → cs' ≡ set cs m c → m < length cs
      → spans_between (raise_of raises m).from (raise_of raises m).to (on m) ≤ c
      → get_or cs m 0 ≤ c
      → {now : ℕ} → greatest ≤ now → c ≤ now
      → IsFoundSo least old on (set raises m empty) rest cs' now
  found_more {raises} {machines} {rest} {cs} {cs'} so {m} popped empty none c wrote here spans above more kept =
      let are = so.left.are_listed
      in let many = ap length wrote ∙ length-set cs m c
      in record {
        left = left_less so.left popped empty none;
        low = (let a = so.low in omega arith);
        least_of = λ n there. grind (arith, cases_eq, at_m, elsewhere);
        covers = λ n there. elim (cases_eq n m) [
          | inl e ↦ (let a = at_m n e in elim (so.covers n (omega arith)) [
            | inl same ↦ inr (rw (same, e) (let b = at_m m refl in omega arith))
            | inr done ↦ inr (let b = ap (λ (k : ℕ). get_or cs k 0) e in omega arith)
          ])
          | inr ne ↦ (let a = elsewhere n ne in elim (so.covers n (omega arith)) [
            | inl same ↦ inl (same ∙ sym (raise_elsewhere are popped empty none n ne))
            | inr done ↦ inr (omega arith)
          ])
        ];
        most = λ n there. grind (arith, cases_eq, at_m, elsewhere);
      }
    where
      at_m : (n : ℕ) → n ≡ m → get_or cs' n 0 ≡ c
      at_m n e = ap (λ (xs : List ℕ). get_or xs n 0) wrote ∙ get_or-set_at cs m n c 0 e here

      elsewhere : (n : ℕ) → (n ≡ m → ⊥) → get_or cs' n 0 ≡ get_or cs n 0
      elsewhere n ne = ap (λ (xs : List ℕ). get_or xs n 0) wrote ∙ get_or-set_other cs m n c 0 ne

  pub found_all : {raises : List Raise} {machines cs : List ℕ} {greatest : ℕ} → machines ≡ []
      → IsFoundSo least old on raises machines cs greatest
      → AreEmpty raises × ((m : ℕ) → m < length cs
      → spans_between (raise_of old m).from (raise_of old m).to (on m) ≤ get_or cs m 0)
  found_all {raises} none so = grind (arith, all_empty, none_between)
