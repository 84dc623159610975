-- The start word, job by job.
use Rattle.std.proofs.{Common.{arith, ◌≡◌, ℕ, ◌+◌, ◌≤◌, List, ◌++◌, length, take, replicate}, lemmas.List.take_all}
use Rattle.std.specs.List.{range_with_len, flat_map}
use Rattle.shop_model.proofs.Ranges.{flat_map_more_part}

pub start_more : (f : ℕ → List ℕ) (old new : List ℕ) (j len n : ℕ) → old ≡ flat_map f (range_with_len 0 j)
    → length old ≤ len → f j ≡ replicate n j → new ≡ take len old ++ replicate n j
    → new ≡ flat_map f (range_with_len 0 (j + 1))
start_more f old new j len n before fits each is = grind (arith, flat_map_more_part, take_all)
