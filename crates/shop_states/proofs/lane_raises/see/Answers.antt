use Rattle.std.proofs.{Common.{List, sym, subst, arith}, lemmas.List.length-map}
use Rattle.shop_states.specs.inner.{LaneRaises.{Raise, raise_in, raises_in}, MachineRaises.AreListed}
use Rattle.shop_states.proofs.RaisedMachines.{listed_more, widened_in}
use Rattle.shop_states.proofs.lane_raises.see.Goals as goal

pub put-requires-clause-known : goal.put-requires-clause-known
put-requires-clause-known g c = grind (arith, length-map)

pub returns-clause-raises : goal.returns-clause-raises
returns-clause-raises g c = λ some. grind (arith, widened_in)

pub returns-clause-listed : goal.returns-clause-listed
returns-clause-listed g c = λ some.
    let many = length-map c.args.raises.now (raise_in g.L.StateLanes.value) in let known = c.requires.known some
    in subst (λ (rs : List Raise). AreListed rs c.put.new.self) (sym (returns-clause-raises g c some))
    (listed_more (raises_in g.L.StateLanes.value c.args.raises.now) c.args.raised.now c.put.new.self c.args.machine
    c.args.before c.args.after (c.requires.listed some) (omega arith) c.put.ensures)
