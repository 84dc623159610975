-- Where the passes for own spans begin, down the columns and back.
use Rattle.std.proofs.Common.{◌≡◌, ℕ, ◌+◌, ◌*◌, List, take, get_or, refl, ap, sym, ◌∙◌, arith, rules}
use Rattle.shop_lanes.specs.{Eights.added, Folds.{greatest_before, maxima_behind, sums_before}, Rows.Lane, Spans.span}
use Rattle.shop_lanes.specs.{inner.OwnSpans.AreLoadsBehind, inner.Passes.{clock_after, eight}}
use Rattle.shop_lanes.proofs.Maxima.{greatest_before-get, maxima_behind-get}
use Rattle.shop_lanes.proofs.ColumnScan.{begin, work, load, finish, begin_next, ends_before, ends_behind, begins_eight}
use Rattle.shop_lanes.proofs.{ColumnScan.{ends_eight, next_column}, ColumnTurns.{AreColumnsOf, as_eight, eight_same}}

module _ {count : ℕ} {hs ts qs : List ℕ} {all : List Lane} (cols : AreColumnsOf count hs ts qs all)
    {works begins : List ℕ} (works_are : works ≡ eight (work 1 cols)) (begins_told : begins ≡ sums_before 0 works)
  where
    pub first_clocks : begins ≡ eight (λ k. clock_after 1 0 (take (k * count + 0) all))
    first_clocks = grind (arith, begins_eight, eight_same, begin)

    pub last_clocks : {clocks : List ℕ} → clocks ≡ added begins works
        → clocks ≡ eight (λ k. clock_after 1 0 (take (k * count + count) all))
    last_clocks clocks_are =
        clocks_are
        ∙ ap (λ l. added l works) (begins_eight 1 cols works_are begins_told)
        ∙ ap (added (eight (begin 1 cols))) works_are
        ∙ eight_same (λ k. begin 1 cols k + work 1 cols k) (λ k. clock_after 1 0 (take (k * count + count) all))
        (λ k lt. sym (begin_next 1 cols k) ∙ ap (λ n. clock_after 1 0 (take n all)) (next_column k count))

    module _ {most ends : List ℕ} (most_are : most ≡ eight (load 1 cols)) (ends_told : ends ≡ added begins most) where
      ends_are : ends ≡ eight (finish 1 cols)
      ends_are = ends_eight 1 cols works_are begins_told most_are ends_told

      pub first_loads : {before : List ℕ} → before ≡ greatest_before 0 ends
          → before ≡ eight (λ k. span 1 0 (take (k * count) all))
      first_loads before_is =
          before_is ∙ ap (greatest_before 0) ends_are
          ∙ as_eight (greatest_before 0 (eight (finish 1 cols))) refl
          ∙ eight_same (λ k. get_or (greatest_before 0 (eight (finish 1 cols))) k 0)
          (λ k. span 1 0 (take (k * count) all))
          (λ k lt.
          let got = greatest_before-get 0 (eight (finish 1 cols)) k (omega (arith, lt))
          in let before_k = ends_before 1 cols k (omega (arith, lt))
          in omega (arith, got, before_k))

      pub last_loads : {B : Type 0} (numbers : B → List ℕ) (behind : B) → numbers behind ≡ maxima_behind 0 ends
          → AreLoadsBehind numbers count all count behind
      last_loads numbers behind behind_is =
          search (rules, finish, ends_are, maxima_behind-get, ends_behind, next_column)
