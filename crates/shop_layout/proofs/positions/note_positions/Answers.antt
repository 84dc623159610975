use Rattle.std.proofs.Common.{◌≡◌, ℕ, ◌+◌, ◌<◌, List, [], length, get_or, set, map, refl, arith}
use Rattle.std.proofs.lemmas.{Grind.common_steps, List.{map-set, get_or-map, length-map}}
use Rattle.std.specs.{Prelude.Vec, Vec.with_item, declared.alloc.Global.Global}
use Rattle.shop_lanes.specs.Rows.{index_at_rank}
use Rattle.shop_layout.{specs.inner.Layings.no_slot, proofs.NotedPositions.noted_more}
use Rattle.shop_layout.proofs.positions.note_positions.Goals as goal

items_set : (now : List (Vec ℕ Global)) (j k x : ℕ) (d : Vec ℕ Global) → j < length now
    → map (λ v. v.items) (set now j (with_item (get_or now j d) k x))
    ≡ set (map (λ v. v.items) now) j (set (get_or (map (λ v. v.items) now) j []) k x)
items_set now j k x d here = grind (arith, map-set, get_or-map)

pub loop-rank-preserved : goal.loop-rank-preserved
loop-rank-preserved c =
    let s = get_or c.args.slots.now c.loop-rank.rank no_slot
    in let x = c.args.first + index_at_rank c.args.count c.loop-rank.rank
    in noted_more c.loop-rank.rank c.args.first c.args.count c.args.slots.now
    (map (λ v. v.items) c.args.step_positions.now)
    (map (λ v. v.items) c.loop-rank.step_positions) _ c.loop-rank.invariant c.loop-rank-test.true c.requires.apart
    c.requires.rows x refl
    (items_set c.loop-rank.step_positions s.job s.step x c.index-step_positions-slot.result
    (let a = (c.requires.rows c.loop-rank.rank no_slot c.loop-rank-test.true).job in let b = c.loop-rank.invariant.long
    in omega (
      arith,
      length-map c.loop-rank.step_positions (λ v. v.items),
      length-map c.args.step_positions.now (λ v. v.items),
    )))

pub offset_bounds-step_positions-slot : goal.offset_bounds-step_positions-slot
offset_bounds-step_positions-slot c = grind (arith, common_steps)
