use Rattle.std.{proofs.Common.{◌≡◌, ◌∷◌, length, map}, specs.{Prelude.codes, List.range_with_len, Int.div_ceil}}
use Rattle.shop_model.specs.Checking.{starts_of}
use Rattle.shop_text.specs.Writing.{text_of, number_line, machine_line}
use Rattle.shop_text.proofs.gantts.gantt.Given as goal

abbrev pub invariant-loop-machine : goal.invariant-loop-machine
invariant-loop-machine l = record {
  written : l.out.items ≡ text_of (number_line (codes "unit") l.unit
      ∷ map (machine_line l.instance (starts_of l.table)) (range_with_len 0 l.machine));
  columns : length l.cells ≡ div_ceil l.makespan l.unit;
}
