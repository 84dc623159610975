use Rattle.std.proofs.Common.{◌≡◌, ℕ, List, [], ◌∙◌, arith, length, replicate, sym, subst, take}
use Rattle.std.proofs.lemmas.List.{get_or-replicate, length-map, length-replicate, take_all}
use Rattle.shop_model.specs.{Shop.Shop, Word.{Placing, none_placed, placing}, Placements.IsPlacement}
use Rattle.shop_model.proofs.{PlacedTables.placed_by, PlacementLemmas.{job_of_next, next_of_job, placing-job}}
use Rattle.shop_model.proofs.{StartRows.{HasRows, rows_next, rows_starts, rows_are}, WordLemmas.full_is_word}
use Rattle.shop_model.proofs.placing.place.Goals as goal

rows_begin : (shop : Shop) {rows : List (List ℕ)} → rows ≡ replicate (length shop.jobs) []
    → HasRows shop (none_placed shop) rows
rows_begin shop is = grind (arith, length-replicate, get_or-replicate)

pub index_mut-requires : goal.index_mut-requires
index_mut-requires c =
    let shop = c.args.instance.now
    in let w = c.args.word.now
    in let job = job_of_next shop _ c.loop-index.placement
    (next_of_job shop w (full_is_word shop w c.requires) c.loop-index.index c.len-index-end.result c.job-j.result
    c.loop-index-test.true c.len-index-end.ensures c.job-j.ensures c.loop-index.placement c.loop-index.invariant.0)
    in let rows = c.loop-index.invariant.1.rows_length in let full = c.loop-index.rows.ok.0
    in let each = length-map c.loop-index.rows.items (λ r. r.items) in omega arith

pub loop-index-preserved : goal.loop-index-preserved
loop-index-preserved c =
    let shop = c.args.instance.now
    in let w = c.args.word.now
    in let job = job_of_next shop _ c.loop-index.placement
    (next_of_job shop w (full_is_word shop w c.requires) c.loop-index.index c.len-index-end.result c.job-j.result
    c.loop-index-test.true c.len-index-end.ensures c.job-j.ensures c.loop-index.placement c.loop-index.invariant.0)
    in let p = placing shop (take c.loop-index.index w)
    in let more = placing-job shop w c.loop-index.index c.len-index-end.result c.job-j.result
    c.loop-index-test.true c.len-index-end.ensures c.job-j.ensures
    in (
      subst (λ (q : Placing). IsPlacement shop q c.place_next-start.new.self) (sym more)
          (c.place_next-start.ensures.placed p c.loop-index.invariant.0),
      rows_next shop p _ _ _ _ _ _ more c.loop-index.invariant.1 job c.index_mut.ensures.value
          (c.place_next-start.ensures.start p c.loop-index.invariant.0) c.in_ok-push.ensures.items,
    )

pub of_checked-requires : goal.of_checked-requires
of_checked-requires c =
    let w = c.args.word.now
    in let all = c.len-index-end.ensures in let done = c.loop-index-test.false
    in rows_starts c.args.instance.now w _ c.keeps_limits.ensures (full_is_word c.args.instance.now w c.requires)
    (rw (take_all c.loop-index.index w (omega arith)) at c.loop-index.invariant.1)

pub returns-clause-table : goal.returns-clause-table
returns-clause-table c =
    let w = c.args.word.now
    in let all = c.len-index-end.ensures in let done = c.loop-index-test.false
    in let stands = rw (take_all c.loop-index.index w (omega arith)) at c.loop-index.invariant.1
    in c.of_checked.ensures ∙ rows_are c.args.instance.now w _ c.requires stands

pub returns-clause-law : goal.returns-clause-law
returns-clause-law c = rw (returns-clause-table c) (placed_by c.args.instance.now c.args.word.now c.requires)

pub returns-clause-ends : goal.returns-clause-ends
returns-clause-ends c j k = grind (arith, take_all, rows_starts, full_is_word)

pub place_next-start-requires : goal.place_next-start-requires
place_next-start-requires c =
    let w = c.args.word.now
    in next_of_job c.args.instance.now w (full_is_word c.args.instance.now w c.requires) c.loop-index.index
    c.len-index-end.result c.job-j.result c.loop-index-test.true c.len-index-end.ensures c.job-j.ensures
    c.loop-index.placement c.loop-index.invariant.0

pub loop-index-init : goal.loop-index-init
loop-index-init c = (c.in_ok-placement.ensures, rows_begin c.args.instance.now c.in_ok-rows.ensures)
