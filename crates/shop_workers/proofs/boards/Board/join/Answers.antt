use Rattle.std.proofs.Common.{ap, ◌∙◌, arith}
use Rattle.atomic_table.specs.Table.{Me}
use Rattle.shop_workers.{specs.declared.views.View.View, proofs.{Numbers.once_apart, JoinedSeats.{joins, recalls}}}
use Rattle.shop_workers.proofs.boards.Board.join.Goals as goal

pub join_seat-requires : goal.join_seat-requires
join_seat-requires c = grind (arith, joins)

pub load-requires : goal.load-requires
load-requires c =
    let words = c.args.self.now.words in
    let e = c.join_seat.ensures in
    let now = c.join_seat.new.seat in (
      e.0 ∙ c.requires.first.0,
      omega arith,
      recalls _ _ now.id now.me 0 (ap (λ (m : Me (Unit {0}) View). m.1) e.2 ∙ c.args.seat.holds_no_slot)
          (ap (λ (m : Me (Unit {0}) View). m.0.live) e.2 ∙ c.args.seat.live),
    )

pub returns-clause-apart : goal.returns-clause-apart
returns-clause-apart c = grind (arith, once_apart)
