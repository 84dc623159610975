use Rattle.std.proofs.Common.{◌≡◌, ℕ, ◌-◌, ◌∙◌, ◌+◌, List, arith, ap, sym, subst, map, drop, take, length}
use Rattle.std.proofs.lemmas.List.{drop-map, get_or-take, length-drop, length-take, take_all}
use Rattle.shop_lanes.{specs.Ends.IsFirstLeast, proofs.Padding.first_least_seen}
use Rattle.shop_lanes.proofs.block_lanes.BlockLanesStateLanes.first_least_end.Goals as goal

behind_all : {A : Type 0} (n : ℕ) {lent row : List A} → lent ≡ row → take (length lent - n) (drop n lent) ≡ drop n row
behind_all n {lent} e = take_all (length lent - n) (drop n lent) (omega (arith, length-drop n lent)) ∙ ap (drop n) e

pub first_least-requires : goal.first_least-requires
first_least-requires g c = rw (behind_all (c.args.self.now.positions + 8) c.deref.ensures.value) (record {
  whole_blocks = grind (arith, length-drop);
  room = grind (arith, length-drop);
  some = grind (arith, length-drop);
  fits = λ k. grind (arith, drop-map);
})

pub returns-clause-job : goal.returns-clause-job
returns-clause-job g c =
    let self = c.args.self.now
    in let same = ap (map g.B.Block.value) (behind_all (self.positions + 8) c.deref.ensures.value)
    ∙ sym (drop-map g.B.Block.value (self.positions + 8) self.row.items)
    in first_least_seen g.B.Block.GREATEST self.jobs (drop (self.positions + 8) (map g.B.Block.value self.row.items))
    c.first_least.result.0 self.ends_are_padded c.requires
    (subst (λ l. IsFirstLeast l c.first_least.result.0) same c.first_least.ensures.first)

pub returns-clause-end : goal.returns-clause-end
returns-clause-end g c = grind (arith, (returns-clause-job g c), behind_all, length-take, get_or-take, drop-map)
