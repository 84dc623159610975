use Rattle.std.proofs.Common.{◌≡◌, take, string_bytes}
use Rattle.shop_text.specs.{Names.shops_of, Writing.list_text}
use Rattle.shop_text.proofs.printing.listing.Given as goal

abbrev pub invariant-loop-one : goal.invariant-loop-one
invariant-loop-one l = string_bytes l.out ≡ list_text (shops_of (take l.one-index l.named))
