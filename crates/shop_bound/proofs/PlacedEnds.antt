-- The greatest of the placed ends: it is when the last machine is free, and it never gets less.
use Rattle.std.proofs.{Common.{◌≡◌, ℕ, ◌≤◌, ◌<◌, List, length, arith}, lemmas.Bool.cases_eq}
use Rattle.shop_model.specs.{Limits.IsWithinLimits, Shop.{Shop, machine_of, finish_of, greatest_below}}
use Rattle.shop_model.specs.Word.{Placing, count_of, IsWord, placing, place_next}
use Rattle.shop_model.proofs.{Ends.IsOperation-job, Greatest.{le-greatest_below, greatest_below-le}}
use Rattle.shop_model.proofs.{Placings.{IsNext, place_next-is, steps_grow}, WordLemmas.{snoc_induct, IsWord-init}}
use Rattle.shop_model.proofs.Unders.{after_word, next_operation, placing-snoc}
use Rattle.shop_bound.specs.Bound.{placed_end}

-- what is placed ends by then
pub le-placed_end : (shop : Shop) (p : Placing) (j k : ℕ) → j < length shop.jobs → k < p.steps j
    → finish_of shop p.begins j k ≤ placed_end shop p
le-placed_end shop p j k job step =
    let a = le-greatest_below (λ l. finish_of shop p.begins j l) (p.steps j) k step
    in let b = le-greatest_below (λ i. greatest_below (p.steps i) (λ l. finish_of shop p.begins i l))
    (length shop.jobs) j job
    in omega arith

-- and where each placed operation ends by b, so does the last one
pub placed_end-le : (shop : Shop) (p : Placing) (b : ℕ)
    → ((j k : ℕ) → j < length shop.jobs → k < p.steps j → finish_of shop p.begins j k ≤ b) → placed_end shop p ≤ b
placed_end-le shop p b h = grind (arith, greatest_below-le)

pub placed_end-grows : (shop : Shop) (p : Placing) (j : ℕ) (q : Placing) → IsNext shop p j q
    → placed_end shop p ≤ placed_end shop q
placed_end-grows shop p j q n = grind (arith, placed_end-le, le-placed_end, steps_grow)

-- no machine is free later than the last placed end
next_free : (shop : Shop) (p : Placing) (j : ℕ) (q : Placing) → IsNext shop p j q → j < length shop.jobs
    → ((m : ℕ) → p.free m ≤ placed_end shop p) → (m : ℕ) → q.free m ≤ placed_end shop q
next_free shop p j q n job before m = grind (arith, cases_eq, le-placed_end, placed_end-grows)

pub free-le : (shop : Shop) (w : List ℕ) → IsWord shop w → (m : ℕ)
    → (placing shop w).free m ≤ placed_end shop (placing shop w)
free-le shop = snoc_induct (λ w. IsWord shop w → (m : ℕ) → (placing shop w).free m ≤ placed_end shop (placing shop w))
    (λ _ m. omega arith)
    (λ w j before word. rw placing-snoc
    (next_free shop (placing shop w) j (place_next shop (placing shop w) j) (place_next-is shop (placing shop w) j)
    (IsOperation-job shop j (count_of j w) (next_operation shop w j word)) (before (IsWord-init shop w j word))))

-- the last placed end is when the last machine is free
pub placed_end-free : (shop : Shop) (w : List ℕ) → IsWithinLimits shop → IsWord shop w
    → placed_end shop (placing shop w) ≡ greatest_below shop.machines (placing shop w).free
placed_end-free shop w limits word =
    let p = placing shop w
    in let a = placed_end-le shop p (greatest_below shop.machines p.free)
    (λ j k job step. let b = (after_word shop w word).sound.free j k step
    in let c = le-greatest_below p.free shop.machines (machine_of shop j k)
    (limits.on_machines j k) in omega arith)
    in let b = greatest_below-le p.free shop.machines (placed_end shop p) (λ m _. free-le shop w word m)
    in omega arith
