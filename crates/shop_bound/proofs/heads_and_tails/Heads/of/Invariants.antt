use Rattle.std.{proofs.Common.{◌≡◌, ◌≤◌, length, map, vec_len, vec_capacity}, specs.List.range_with_len}
use Rattle.shop_model.specs.Word.{placing}
use Rattle.shop_bound.specs.inner.HeadRows.{heads_of}
use Rattle.shop_bound.proofs.heads_and_tails.Heads.of.Given as goal

abbrev pub invariant-loop-j : goal.invariant-loop-j
invariant-loop-j l = record {
  filled : map (λ row. row.items) l.rows.items
      ≡ map (heads_of l.instance (placing l.instance l.word)) (range_with_len 0 l.j);
  long : vec_len l.rows ≡ l.j;
  room : length l.instance.jobs ≤ vec_capacity l.rows;
}
