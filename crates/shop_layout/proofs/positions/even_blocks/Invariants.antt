use Rattle.std.proofs.Common.{◌≡◌, ℕ, ◌*◌, ◌^◌, ◌<◌, get_or}
use Rattle.shop_layout.proofs.positions.even_blocks.Given as goal

abbrev pub invariant-loop-m : goal.invariant-loop-m
invariant-loop-m l = record {
  first : l.first ≡ l.each * l.m;
  at : (k : ℕ) → k < l.m → get_or l.blocks k 0 ≡ l.each * k;
  small : (k : ℕ) → k < l.m → l.each * k < 2 ^ 32;
}
