-- The raises of machines whose slice is written: they are those that it was given with, and then what was written, no
-- more than before.
use Rattle.std.proofs.Common.{◌≡◌, ℕ, ◌+◌, ◌-◌, ◌≤◌, ◌<◌, ◌∙◌, List, ◌++◌, ap, arith, drop, length, subst, sym, take}
use Rattle.std.specs.{Prelude.Vec, declared.alloc.Global.Global}
use Rattle.shop_lanes.specs.Rows.{Rows}
use Rattle.shop_layout.{proofs.Written.written_vec, specs.Positions.LayoutState}
use Rattle.shop_states.specs.{declared.lane_raises.LaneRaise.LaneRaise, inner.LaneRaises.{Raise, raises_in}}
use Rattle.shop_states.specs.inner.{MachineRaises.{CanTakeSpansUnder, TakesSpans}, RaiseCalls.HasRaised}
use Rattle.shop_states.{specs.inner.Siblings.{BoundsRaises, HasRaisedBehind}, proofs.RaisedMachines.lengths_in}

pub long_given : {N : Type 0} (value : N → ℕ) {given items : List (LaneRaise N)} {old : List Raise} → given ≡ items
    → raises_in value items ≡ old → (new : List Raise) → length new ≡ length old
    → length new ≡ length (raises_in value given)
long_given value is view new long = long ∙ ap length (sym (ap (raises_in value) is ∙ view))

pub spans_given : {N : Type 0} (value : N → ℕ) {given items : List (LaneRaise N)} {old : List Raise} → given ≡ items
    → raises_in value items ≡ old → {greatest least : ℕ} {ceilings raised : List ℕ} {l : LayoutState} {rows : Rows}
    → CanTakeSpansUnder greatest ceilings old raised l rows least
    → CanTakeSpansUnder greatest ceilings (raises_in value given) raised l rows least
spans_given value is view {greatest} {least} {ceilings} {raised} {l} {rows} can =
    subst (λ (xs : List Raise). CanTakeSpansUnder greatest ceilings xs raised l rows least)
    (sym (ap (raises_in value) is ∙ view)) can

module _ {N : Type 0} (value : N → ℕ) (v : Vec (LaneRaise N) Global) {given : List (LaneRaise N)}
    (new : List (LaneRaise N)) (is : given ≡ v.items) where
  abbrev pub written : List (LaneRaise N)
  written = take v.len (new ++ drop (length new) v.items)

  module _ (long : length (raises_in value new) ≡ length (raises_in value given)) where
    written_is : written ≡ new
    written_is = written_vec v given new is (lengths_in value given new long)

    pub few_written : (each : ℕ) → (length v.items ≤ 128) × (0 < each → length v.items ≤ 64)
        → (length written ≤ 128) × (0 < each → length written ≤ 64)
    few_written each few =
        let same : length written ≡ length v.items = ap length written_is
        ∙ lengths_in value given new long ∙ ap length is
        in let most = few.0
        in (omega arith, λ some. (let less = few.1 some in omega arith))

    -- and the bound is passed on with one less
    pub bounds_written : {l : LayoutState} {rows : Rows} {old : List Raise} {cs : List ℕ} {least b : ℕ}
        → BoundsRaises l rows old (raises_in value new) cs least b → 0 < least
        → BoundsRaises l rows old (raises_in value written) cs least (b - 1 + 1)
    bounds_written {l} {rows} {old} {cs} {least} {b} done some =
        let low = done.low in let same : b - 1 + 1 ≡ b = omega arith
        in rw (same, written_is) done

    both : {old : List Raise} → raises_in value v.items ≡ old → (R : List Raise → List Raise → Type 0)
        → R (raises_in value given) (raises_in value new) → R old (raises_in value written)
    both view R holds = subst (λ (xs : List Raise). R xs (raises_in value written)) (ap (raises_in value) is ∙ view)
        (subst (λ (xs : List (LaneRaise N)). R (raises_in value given) (raises_in value xs)) (sym written_is) holds)

  module _ {old : List Raise} (view : raises_in value v.items ≡ old) {l : LayoutState} {rows : Rows} where
    pub raised_written : {greatest e : ℕ} {nexts machines : List ℕ} {among : ℕ → Type 0} {now : Rows}
        → HasRaised greatest l nexts among e rows now (raises_in value given) (raises_in value new) machines
        → HasRaised greatest l nexts among e rows now old (raises_in value written) machines
    raised_written {greatest} {e} {nexts} {machines} {among} {now} done = both done.machines view
        (λ a b. HasRaised greatest l nexts among e rows now a b machines) done

    pub behind_written : {greatest : ℕ} {among : ℕ → Type 0} {free : ℕ → ℕ} {now : Rows} {machines : List ℕ}
        → HasRaisedBehind greatest l among free rows now (raises_in value given) (raises_in value new) machines
        → HasRaisedBehind greatest l among free rows now old (raises_in value written) machines
    behind_written {greatest} {among} {free} {now} {machines} done = both done.noted.long view
        (λ a b. HasRaisedBehind greatest l among free rows now a b machines) done

    -- and the bound is passed on with one less
    pub spans_written : {least limit b : ℕ}
        → TakesSpans l rows (raises_in value given) (raises_in value new) least limit b → 0 < least
        → TakesSpans l rows old (raises_in value written) least limit (b - 1 + 1)
    spans_written {least} {limit} {b} done some =
        let low = done.low in let same : b ≡ b - 1 + 1 = omega arith
        in subst (λ (n : ℕ). TakesSpans l rows old (raises_in value written) least limit n) same
        (both done.long view (λ x y. TakesSpans l rows x y least limit b) done)
