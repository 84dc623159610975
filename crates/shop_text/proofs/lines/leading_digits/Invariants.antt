use Rattle.std.proofs.Common.{◌≡◌, ℕ, ◌<◌, ◌^◌, List, true, take}
use Rattle.shop_text.specs.{Lines.{is_number, value_of}, inner.LineReading.capped}
use Rattle.shop_text.proofs.lines.leading_digits.Given as goal

pub record IsReadTo (text : List ℕ) (i value : ℕ) : Type 0 where
  pub digits : is_number (take i text) ≡ true
  pub is : value ≡ value_of (take i text)
  pub fits : value < 10 ^ i

abbrev pub invariant-loop-i : goal.invariant-loop-i
invariant-loop-i l = IsReadTo l.text l.i l.value

abbrev pub invariant-loop-i-2 : goal.invariant-loop-i-2
invariant-loop-i-2 l = record {
  digits : is_number (take l.i l.text) ≡ true;
  is : l.value ≡ capped (value_of (take l.i l.text));
}
