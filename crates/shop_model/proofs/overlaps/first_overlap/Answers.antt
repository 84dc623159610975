use Rattle.std.proofs.{Common.{◌≡◌, ℕ, ◌<◌, arith, inl, inr}, lemmas.Bool.cases_lt}
use Rattle.shop_model.specs.Checking.{IsFirstOverlap, starts_of}
use Rattle.shop_model.specs.{inner.FirstFaults.{IsFirstOverlapOf, IsJobApart}, Shop.{Shop, Starts}}
use Rattle.shop_model.proofs.overlaps.first_overlap.Goals as goal

first_of_job : (shop : Shop) (starts : Starts) {j k i l : ℕ} → IsFirstOverlapOf shop starts j k i l
    → ((a : ℕ) → a < j → IsJobApart shop starts a) → IsFirstOverlap shop starts j k i l
first_of_job shop starts first apart = grind arith

pub returns-in-Some : goal.returns-in-Some
returns-in-Some c = first_of_job c.args.instance.now (starts_of c.args.table.now) c.in-Some.ensures c.loop-j.invariant

pub loop-j-preserved : goal.loop-j-preserved
loop-j-preserved c i below k a l = elim (cases_lt i c.loop-j.j) [
  | inl h ↦ c.loop-j.invariant i h k a l
  | inr h ↦ (let same : i ≡ c.loop-j.j = omega arith in rw same (c.in_default.ensures k a l))
]
