use Rattle.std.proofs.Common.{rules, arith}
use Rattle.shop_states.proofs.LaneChoices.{gathered_below, gathered_with, have_all, marked_within, more_gathered}
use Rattle.shop_states.proofs.lane_choices.conflict_set.Goals as goal

pub gather_marked-requires : goal.gather_marked-requires
gather_marked-requires g c =
    let are = c.requires.blocks in let last = are.last in let high = are.within in let many = c.requires.jobs.many
    in let heads = g.L.StateLanes.heads c.args.lanes.now
    in let within = marked_within heads c.args.blocks.from c.args.blocks.to c.args.blocks.end are.ordered (omega arith)
    are.marks
    in (search rules, (λ q h. let here = within q h in omega arith, have_all c.requires.jobs))

pub loop-from-init : goal.loop-from-init
loop-from-init g c = grind (arith, gathered_below)

pub gather_marked-requires-in-loop-from : goal.gather_marked-requires-in-loop-from
gather_marked-requires-in-loop-from g c =
    let a = c.marks_end-to.ensures in let d = c.loop-from-test.true in let many = c.requires.jobs.many
    in let high = c.requires.blocks.within in let heads = g.L.StateLanes.heads c.args.lanes.now
    in let within = marked_within heads c.loop-from.from c.marks_end-to.result c.args.blocks.end
    (omega arith) (omega arith) c.below-below.ensures
    in (search rules, (λ q h. let here = within q h in omega arith, have_all c.requires.jobs))

pub loop-from-preserved : goal.loop-from-preserved
loop-from-preserved g c =
    let a = c.marks_end-to.ensures in let d = c.loop-from-test.true in let high = c.requires.blocks.within
    in let now = c.loop-from.invariant.1
    in let low = now.ordered
    in let heads = g.L.StateLanes.heads c.args.lanes.now
    in (
      c.loop-from.invariant.0,
      record {
        put = now.put;
        ordered = omega arith;
        within = omega arith;
        gathered = more_gathered c.args.grid.now heads c.args.blocks.end c.args.blocks.from c.loop-from.from
            c.marks_end-to.result c.loop-from.invariant.0 c.loop-from.jobs
            c.gather_marked-in-loop-from.new.jobs low (omega arith) now.gathered (gathered_below heads c.loop-from.from
            c.marks_end-to.result c.args.blocks.end (omega arith) (omega arith) c.below-below.ensures
            c.gather_marked-in-loop-from.ensures);
      },
    )

pub returns : goal.returns
returns g c = grind (arith, gathered_with)
