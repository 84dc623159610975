use Rattle.std.proofs.Common.{arith, ◌≡◌, List, ℕ, ◌++◌, ◌-◌, length, take, drop, rules, take-append-drop, append_assoc}
use Rattle.std.proofs.{lemmas.List.take_rest, KnownBytes.Appends-trans}
use Rattle.shop_engine.proofs.devices.write_all.Goals as goal

cut_more : (text gone rest : List ℕ) (n : ℕ) → text ≡ gone ++ rest
    → text ≡ gone ++ take n rest ++ take (length rest - n) (drop n rest)
cut_more text gone rest n cut = grind (arith, take_rest, take-append-drop, append_assoc)

-- what went out so far, and what the sink took now
pub loop-rest-preserved : goal.loop-rest-preserved
loop-rest-preserved g c =
    let gone = c.loop-rest.invariant.gone
    in let rest = c.loop-rest.rest.now
    in let count = c.in-Ok.count
    in record {
      gone = gone ++ take count rest;
      cut = cut_more c.args.text.now gone rest count c.loop-rest.invariant.cut;
      took = Appends-trans _ _ _ gone (take count rest) c.loop-rest.invariant.took c.in-Ok.ensures.bytes;
      worked = search rules;
    }
