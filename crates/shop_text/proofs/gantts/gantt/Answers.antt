use Rattle.std.proofs.Common.{arith, ◌≡◌, ◌++◌, ◌∙◌, ◌≤◌, ◌*◌, ap, map, ℕ, List}
use Rattle.std.specs.{Prelude.codes, List.range_with_len, Int.div_ceil}
use Rattle.shop_model.{specs.{Shop.finish_of, Checking.starts_of}, proofs.Ends.le-end_of}
use Rattle.shop_text.specs.Writing.{unit_of, shown_at, columns, number_line, machine_line, cells_line, printed_line}
use Rattle.shop_text.proofs.{CellLemmas.ceil_mono, TextLemmas.line_more}
use Rattle.shop_text.proofs.gantts.gantt.Goals as goal

pub show_machine-requires-clause-within : goal.show_machine-requires-clause-within
show_machine-requires-clause-within c j k operation =
    let shop = c.args.instance.now
    in let starts = starts_of c.args.table.now
    in let unit = c.unit-unit.result
    in let ends : div_ceil (finish_of c.args.instance.now (starts_of c.args.table.now) j k)
    c.unit-unit.result ≤ div_ceil c.makespan-makespan.result c.unit-unit.result =
    ceil_mono (finish_of shop starts j k) c.makespan-makespan.result unit c.unit-unit.ensures.some
    (omega (arith, le-end_of shop starts j k operation, c.makespan-makespan.ensures))
    in omega (arith, ends, c.loop-machine.invariant.columns)

pub loop-machine-preserved : goal.loop-machine-preserved
loop-machine-preserved c =
    let shop = c.args.instance.now
    in let starts = starts_of c.args.table.now
    in let machine = c.loop-machine.machine
    in let makespan = c.makespan-makespan.result
    in let unit = c.unit-unit.result
    in let shown : c.show_machine.new.cells ≡ columns c.args.instance.now (starts_of c.args.table.now)
    c.loop-machine.machine =
    c.show_machine.ensures
    ∙ ap (λ (n : ℕ). map (λ (column : ℕ). shown_at shop starts machine (column * unit)) (range_with_len 0 n))
    c.loop-machine.invariant.columns ∙ ap (λ (u : ℕ). map (λ (column : ℕ). shown_at shop starts machine (column * u))
    (range_with_len 0 (div_ceil makespan u))) c.unit-unit.ensures.unit
    ∙ ap (λ (m : ℕ). map (λ (column : ℕ). shown_at shop starts machine (column * unit_of m))
    (range_with_len 0 (div_ceil m (unit_of m)))) c.makespan-makespan.ensures
    in record {
      written = line_more c.loop-machine.out.items c.write_machine.new.out.items (number_line (codes "unit") unit)
          (machine_line shop starts) machine c.loop-machine.invariant.written (c.in_ok-write_machine.ensures
          ∙ ap (λ (cells : List ℕ). c.loop-machine.out.items
          ++ printed_line (cells_line c.loop-machine.machine cells)) shown);
      columns = c.show_machine.auto.cells ∙ c.loop-machine.invariant.columns;
    }
