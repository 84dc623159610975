use Rattle.std.proofs.Common.{ℕ, ◌<◌, ◌≤◌, length}
use Rattle.shop_model.specs.{Shop.route_of, Word.count_of}
use Rattle.shop_model.proofs.words.fits.Given as goal

abbrev pub invariant-loop-j : goal.invariant-loop-j
invariant-loop-j l = (i : ℕ) → i < l.j → count_of i l.word ≤ length (route_of l.instance i)
