-- Raises one after another.
use Rattle.std.proofs.Common.{rules, ◌≡◌, ℕ, ◌≤◌, ◌<◌, ◌⊎◌, inl, inr, List, [], ◌∷◌, length, get_or, refl, sym}
use Rattle.std.proofs.{Common.{◌∙◌, subst, arith}, lemmas.{Bool.{cases_eq, cases_lt}, List.get_or_past}}
use Rattle.shop_lanes.specs.Rows.{Rows}
use Rattle.shop_layout.specs.Positions.{LayoutState}
use Rattle.shop_states.specs.inner.RisingLists.{IsIn, Rises}
use Rattle.shop_states.specs.inner.Raises.{at_in, AreInRouteOrder, IsRaised, IsLeastRaise, IsRaisable}
use Rattle.shop_states.specs.inner.Raises.{AreWaiting, Raises, IsIndexed, IsPosition}
use Rattle.shop_states.proofs.AskedHeads.{asks_less}

pub weaker : {l : LayoutState} (A B : ℕ → Type 0) {asks : ℕ → ℕ → ℕ → Type 0} {old new : ℕ → ℕ} → ((q : ℕ) → B q → A q)
    → IsRaised l A asks old new → IsRaised l B asks old new
weaker A B part r = asks_less r (λ p q v here. r.reach p q v (part p here))

-- what waits after a raise waited before
pub was_waiting : {l : LayoutState} {A : ℕ → Type 0} {asks : ℕ → ℕ → ℕ → Type 0} {a b : List ℕ}
    → IsLeastRaise l A asks a b → (q : ℕ) → 0 < get_or b q 0 → 0 < get_or a q 0
was_waiting {a = a} x q waits = elim (cases_lt 0 (get_or a q 0)) [
  | inl some ↦ some
  | inr none ↦ (let rests = x.raised.rests q (omega arith) in omega arith)
]

-- what was to come is still to come, and no less
pub go_on : {l : LayoutState} (A B C : ℕ → Type 0) {asks : ℕ → ℕ → ℕ → Type 0} {a b : List ℕ} (other : ℕ → ℕ)
    → IsLeastRaise l A asks a b → ((q : ℕ) → A q → C q) → ((q : ℕ) → B q → C q) → IsRaised l C asks (at_in a) other
    → IsRaised l B asks (at_in b) other
go_on A B C other least in_a in_b raised = record {
  rises = least.least other (weaker C A in_a raised);
  rests = λ q none. raised.rests q (let x = least.raised.rises q in omega arith);
  order = raised.order;
  reach = λ p q v here asked waits. raised.reach p q v (in_b p here) asked (was_waiting least p waits);
}

pub then_least : {l : LayoutState} {A B C : ℕ → Type 0} {asks : ℕ → ℕ → ℕ → Type 0} {a b c : List ℕ}
    → IsLeastRaise l A asks a b → IsLeastRaise l B asks b c → ((q : ℕ) → C q → A q ⊎ B q) → ((q : ℕ) → A q → C q)
    → ((q : ℕ) → B q → C q) → IsLeastRaise l C asks a c
then_least {A = A} {B} {C} x y split in_a in_b = record {
  positions = y.positions ∙ x.positions;
  raised = grind arith;
  least = λ other raised. y.least other (go_on A B C other x in_a in_b raised);
}

pub then_raises : {greatest : ℕ} {l : LayoutState} {nexts : List ℕ} {A B : ℕ → Type 0} (C : ℕ → Type 0)
    {asks : ℕ → ℕ → ℕ → Type 0} {a b c : Rows} → Raises greatest l nexts A asks a b → Raises greatest l nexts B asks b c
    → ((q : ℕ) → C q → A q ⊎ B q) → ((q : ℕ) → A q → C q) → ((q : ℕ) → B q → C q)
    → Raises greatest l nexts C asks a c
then_raises C x y split in_a in_b = record {
  raised = then_least x.raised y.raised split in_a in_b;
  times = y.times ∙ x.times;
  tails = y.tails ∙ x.tails;
  ends = grind arith;
}

-- nothing more is raised where all that is asked for is so already
pub raises_none : (greatest : ℕ) (l : LayoutState) (nexts : List ℕ) (A : ℕ → Type 0) (asks : ℕ → ℕ → ℕ → Type 0)
    (a : Rows) → AreInRouteOrder l (at_in a.heads)
    → ((p q v : ℕ) → A p → asks p q v → 0 < get_or a.heads p 0 → v ≤ get_or a.heads q 0)
    → Raises greatest l nexts A asks a a
raises_none greatest l nexts A asks a order enough = grind arith

-- what reaches more than was asked for is the least raise for that, too
pub raises_more : {greatest : ℕ} {l : LayoutState} {nexts : List ℕ} {A B : ℕ → Type 0}
    {asks more : ℕ → ℕ → ℕ → Type 0} {a b : Rows} → Raises greatest l nexts A asks a b
    → ((other : ℕ → ℕ) → IsRaised l B more (at_in a.heads) other → IsRaised l A asks (at_in a.heads) other)
    → ((p q v : ℕ) → B p → more p q v → 0 < get_or a.heads p 0 → v ≤ get_or b.heads q 0)
    → Raises greatest l nexts B more a b
raises_more x less enough = record {
  raised = record {
    positions = x.raised.positions;
    raised = asks_less x.raised.raised enough;
    least = λ other raised. x.raised.least other (less other raised);
  };
  times = x.times;
  tails = x.tails;
  ends = x.ends;
}

-- what is left to be raised can still be raised
pub still_raisable : {greatest : ℕ} {l : LayoutState} {nexts : List ℕ} {A B C : ℕ → Type 0}
    {asks less more : ℕ → ℕ → ℕ → Type 0} {a b : Rows} → IsRaisable greatest l nexts a C more
    → Raises greatest l nexts A asks a b
    → ((other : ℕ → ℕ) → IsRaised l C more (at_in a.heads) other → IsRaised l B less (at_in b.heads) other)
    → IsRaisable greatest l nexts b B less
still_raisable {l = l} can x left = record {
  firsts = grind arith;
  ends = (let y = x.ends.long in let z = can.ends in omega arith);
  indexed = subst (λ (k : ℕ). IsIndexed l k) (sym x.raised.positions) can.indexed;
  machines = can.machines ∙ sym x.raised.positions;
  times = x.times ∙ can.times;
  timed = can.timed ∙ sym x.raised.positions;
  at_steps = λ q waits. can.at_steps q (was_waiting x.raised q waits);
  order = x.raised.raised.order;
  other = can.other;
  raised = left can.other can.raised;
  fits = can.fits;
  computable = can.computable;
}

pub raisable_less : {greatest : ℕ} {l : LayoutState} {nexts : List ℕ} {B C : ℕ → Type 0}
    {less more : ℕ → ℕ → ℕ → Type 0} {a : Rows} → IsRaisable greatest l nexts a C more
    → ((other : ℕ → ℕ) → IsRaised l C more (at_in a.heads) other → IsRaised l B less (at_in a.heads) other)
    → IsRaisable greatest l nexts a B less
raisable_less {greatest} {l} {nexts} {less = less} {a = a} can =
    still_raisable can (raises_none greatest l nexts (λ q. ⊥) less a can.order (λ p q v none. absurd none))

-- those marked that are no longer to come
abbrev pub IsDone : List ℕ → List ℕ → ℕ → Type 0
IsDone marks todo q = IsIn marks q × (IsIn todo q → ⊥)

-- the positions to come, in order, at which something waits
pub record AreToCome (marks todo : List ℕ) (heads : List ℕ) : Type 0 where
  pub waits : (q : ℕ) → IsIn todo q → IsIn marks q × (0 < get_or heads q 0)
  pub rises : Rises todo

pub record AreMarksRaised (greatest : ℕ) (l : LayoutState) (nexts marks : List ℕ) (asks : ℕ → ℕ → ℕ → Type 0)
    (todo : List ℕ) (old now : Rows) : Type 0 where
  pub raises : Raises greatest l nexts (IsDone marks todo) asks old now
  pub to_come : AreToCome marks todo old.heads

module _ {greatest : ℕ} {l : LayoutState} {nexts marks : List ℕ} {asks : ℕ → ℕ → ℕ → Type 0}
    {old : Rows} (can : IsRaisable greatest l nexts old (IsIn marks) asks) where
  pub marks_begin : AreWaiting old.heads marks → AreMarksRaised greatest l nexts marks asks marks old old
  marks_begin are = grind (arith, raises_none)

  module _ {todo : List ℕ} {now : Rows} (so_far : AreMarksRaised greatest l nexts marks asks todo old now) {q : ℕ}
      {rest : List ℕ} (popped : todo ≡ q ∷ rest) where
    is_in : IsIn todo q
    is_in = subst (λ (xs : List ℕ). IsIn xs q) (sym popped) (inl refl)

    pub popped_waits : 0 < get_or now.heads q 0
    popped_waits = grind (arith, is_in)

    pub popped_within : q < length now.heads
    popped_within = grind (arith, cases_lt, get_or_past, popped_waits)

    pub popped_here : IsIn marks q
    popped_here = (so_far.to_come.waits q is_in).0

    popped_to_come : AreToCome marks rest old.heads
    popped_to_come = grind arith

    still_done : (r : ℕ) → IsDone marks todo r → IsDone marks rest r
    still_done r d = (d.0, λ h. d.1 (subst (λ (xs : List ℕ). IsIn xs r) (sym popped) (inr h)))

    more_done : (r : ℕ) → IsDone marks rest r → IsDone marks todo r ⊎ (r ≡ q)
    more_done r d = elim (cases_eq r q) [
      | inl f ↦ inr f
      | inr ne ↦ inl (
        d.0,
        λ h. elim (subst (λ (xs : List ℕ). IsIn xs r) popped h) [
          | inl f ↦ ne f
          | inr g ↦ d.1 g
        ],
      )
    ]

    here_done : (r : ℕ) → r ≡ q → IsDone marks rest r
    here_done r f = grind arith

    pub popped_raisable : IsRaisable greatest l nexts now (IsPosition q) asks
    popped_raisable =
        still_raisable can so_far.raises (λ other. go_on (IsDone marks todo) (IsPosition q) (IsIn marks) other
        so_far.raises.raised (λ r d. d.0) (λ r f. (here_done r f).0))

    pub marks_on : {new : Rows} → Raises greatest l nexts (IsPosition q) asks now new
        → AreMarksRaised greatest l nexts marks asks rest old new
    marks_on {new} raised = search (rules, then_raises, more_done, still_done, here_done, popped_to_come)

    pub marks_past : ((r v : ℕ) → asks q r v → v ≤ get_or now.heads r 0)
        → AreMarksRaised greatest l nexts marks asks rest old now
    marks_past enough = marks_on
        (raises_none greatest l nexts (IsPosition q) asks now so_far.raises.raised.raised.order
        (λ p r v f asked _. enough r v (subst (λ (x : ℕ). asks x r v) f asked)))

  pub marks_end : {todo : List ℕ} {now : Rows} → todo ≡ []
      → AreMarksRaised greatest l nexts marks asks todo old now
      → Raises greatest l nexts (IsIn marks) asks old now
  marks_end {todo} none so_far = raises_more so_far.raises
      (λ other. weaker (IsIn marks) (IsDone marks todo) (λ q d. d.0))
      (λ p q v here. so_far.raises.raised.raised.reach p q v
      (here, subst (λ (xs : List ℕ). IsIn xs p → ⊥) (sym none) (λ h. h)))
