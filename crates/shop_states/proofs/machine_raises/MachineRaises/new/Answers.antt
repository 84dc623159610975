use Rattle.std.proofs.Common.{◌≡◌, ℕ, ◌+◌, List, [], ◌∷◌, ◌++◌, length, replicate, arith, ap, ◌∙◌}
use Rattle.std.proofs.lemmas.{Bool.cases_lt, List.{get_or-replicate, get_or_past, length-replicate, map-append}}
use Rattle.std.proofs.lemmas.List.{replicate_more}
use Rattle.shop_states.specs.{declared.lane_raises.LaneRaise.LaneRaise, inner.MachineRaises.AreEmpty}
use Rattle.shop_states.specs.inner.LaneRaises.{Raise, nothing_raised, raise_in, raises_in}
use Rattle.shop_states.proofs.machine_raises.MachineRaises.new.Goals as goal

-- one more empty raise
empty_more : {N : Type 0} (value : N → ℕ) (greatest count : ℕ) (items : List (LaneRaise N))
    {after : List (LaneRaise N)} {r : LaneRaise N}
    → raises_in value items ≡ replicate count (nothing_raised greatest) → after ≡ items ++ r ∷ []
    → raise_in value r ≡ nothing_raised greatest
    → raises_in value after ≡ replicate (count + 1) (nothing_raised greatest)
empty_more value greatest count items none pushed is = grind (arith, map-append, replicate_more)

all_empty : (greatest : ℕ) {raises : List Raise} {count machines : ℕ}
    → raises ≡ replicate count (nothing_raised greatest) → count ≡ machines
    → (length raises ≡ machines) × AreEmpty raises
all_empty greatest are all = (
  grind (arith, length-replicate),
  λ m. grind (arith, cases_lt, get_or-replicate, get_or_past, length-replicate),
)

pub loop-preserved : goal.loop-preserved
loop-preserved g c =
    let pushed = c.push.ensures
    in record {
      none = empty_more g.L.StateLanes.value g.L.StateLanes.GREATEST c.loop.counter c.loop.raises.items
          c.loop.invariant.none (rw c.unwrap.ensures at pushed.items) c.no_raise.ensures;
      long = rw c.unwrap.ensures at pushed.len ∙ ap (λ (n : ℕ). n + 1) c.loop.invariant.long;
      room = omega (arith, c.loop.invariant.room, pushed.capacity);
    }

pub invariant_of-result : goal.invariant_of-result
invariant_of-result g c =
    let ok = c.loop.raises.ok.0 in let long = c.loop.invariant.long
    in let most = c.requires.most in let end = c.loop.auto.counter-end
    in (omega arith, λ each. (let few = c.requires.few each in omega arith))

pub returns : goal.returns
returns g c =
    let end = c.loop.auto.counter-end in let past = c.loop-test.false
    in all_empty g.L.StateLanes.GREATEST c.loop.invariant.none (omega arith)
