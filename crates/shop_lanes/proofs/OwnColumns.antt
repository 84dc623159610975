-- The passes for own spans: down the columns, and back.
use Rattle.std.proofs.Common.{◌≡◌, ℕ, suc, ◌+◌, ◌-◌, ◌*◌, ◌<◌, ◌≤◌, max, cond, leb, List, ◌∷◌, length, take}
use Rattle.std.proofs.Common.{drop, set, get_or, ap, sym, ◌∙◌, arith, subst, replicate, inl, inr, length-set, ◌%◌, ◌/◌}
use Rattle.std.proofs.{Math.Seq.{drop-cons, take-add}, lemmas.Bool.cases_lt}
use Rattle.std.proofs.lemmas.Simd.{get_or-zip2, length-zip2, length-put_chunk, get_or-put_chunk_below}
use Rattle.std.proofs.lemmas.Simd.{get_or-put_chunk_at, get_or-put_chunk_above}
use lib.Lanes.{zip2, put_chunk}
use Rattle.shop_lanes.specs.{Eights.{added, lessened, waiting, AddsFit}, Rows.{Lane, lanes, by_columns}, Spans.span}
use Rattle.shop_lanes.specs.{Spans.FitOwnSpans, inner.OwnSpans.{rank_of, IsLoadBehind, own_span_at}}
use Rattle.shop_lanes.{specs.inner.Passes.{clock_after, eight}, proofs.Columns.{rank_fits, rank_below, rank_of_parts}}
use Rattle.shop_lanes.proofs.Columns.{by_columns-of, by_columns-set, length-by_columns, lanes-by_columns}
use Rattle.shop_lanes.proofs.ColumnTurns.{AreColumnsOf, IsServedTo, front_of, fronts, part_of, as_eight, eight_same}
use Rattle.shop_lanes.proofs.ColumnTurns.{in_eight, eight_fit, block_eight, work_next, work_small, tail_small}
use Rattle.shop_lanes.proofs.{LaneLists.lane_at, Loads.{span_from_start, load-append, work-append, load_le}}
use Rattle.shop_lanes.proofs.{SpanParts.greatest_part, OwnPositions.{own_in_order, own_fits, own_at}}

-- what stands at an index, in order of rank
module _ {count : ℕ} {hs ts qs : List ℕ} {all : List Lane} (cols : AreColumnsOf count hs ts qs all) where
  abbrev ranked : List ℕ → List ℕ
  ranked xs = by_columns count xs

  same : lanes (ranked hs) (ranked ts) (ranked qs) ≡ all
  same = grind (arith, lanes-by_columns)

  heads_long : length (ranked hs) ≡ 8 * count
  heads_long = length-by_columns count hs cols.heads_long

  times_long : length (ranked ts) ≡ length (ranked hs)
  times_long = length-by_columns count ts cols.times_long ∙ sym heads_long

  tails_long : length (ranked qs) ≡ length (ranked hs)
  tails_long = length-by_columns count qs cols.tails_long ∙ sym heads_long

  module _ (p : ℕ) (lt : p < 8 * count) where
    abbrev rank : ℕ
    rank = rank_of count p

    inside : rank < length (ranked hs)
    inside = let fits = rank_fits count p lt in omega (arith, fits, heads_long)

    head_is : get_or (ranked hs) rank 0 ≡ get_or hs p 0
    head_is = by_columns-of count hs cols.heads_long p 0 lt

    time_is : get_or (ranked ts) rank 0 ≡ get_or ts p 0
    time_is = by_columns-of count ts cols.times_long p 0 lt

    own_same : own_in_order (ranked hs) (ranked ts) (ranked qs) rank ≡ own_span_at count hs ts qs p
    own_same =
        let end : get_or (ranked hs) rank 0 + get_or (ranked ts) rank 0 ≡ get_or hs p 0 + get_or ts p 0 =
        omega (arith, head_is, time_is)
        in let written : length (set hs p 0) ≡ 8 * count = length-set hs p 0 ∙ cols.heads_long
        in let others : lanes (set (ranked hs) rank 0) (ranked ts) (ranked qs)
        ≡ by_columns count (lanes (set hs p 0) ts qs) =
        ap (λ l. lanes l (ranked ts) (ranked qs)) (sym (by_columns-set count hs cols.heads_long p 0 lt))
        ∙ lanes-by_columns count (set hs p 0) ts qs written (cols.times_long ∙ sym written)
        (cols.tails_long ∙ sym written)
        in ap (λ e. max e (span 1 e (lanes (set (ranked hs) rank 0) (ranked ts) (ranked qs)))) end
        ∙ ap (λ l. max (get_or hs p 0 + get_or ts p 0) (span 1 (get_or hs p 0 + get_or ts p 0) l)) others

    module _ (before behind : ℕ) (before_is : before ≡ span 1 0 (take rank all))
        (behind_is : IsLoadBehind all (suc rank) behind) where
      before_ranked : before ≡ span 1 0 (take rank (lanes (ranked hs) (ranked ts) (ranked qs)))
      before_ranked = before_is ∙ ap (λ l. span 1 0 (take rank l)) (sym same)

      behind_ranked : IsLoadBehind (lanes (ranked hs) (ranked ts) (ranked qs)) (suc rank) behind
      behind_ranked = subst (λ l. IsLoadBehind l (suc rank) behind) (sym same) behind_is

      pub own_fits_at : (limit : ℕ) → FitOwnSpans limit all
          → (get_or hs p 0 + get_or ts p 0 ≤ limit)
          × (get_or hs p 0 + get_or ts p 0 + max before (behind - get_or ts p 0) ≤ limit)
      own_fits_at limit fits =
          let both = own_fits (ranked hs) (ranked ts) (ranked qs) times_long tails_long rank inside before behind
          before_ranked behind_ranked limit (subst (FitOwnSpans limit) (sym same) fits)
          in grind (arith, both, time_is, head_is)

      pub own_is_at : 0 < get_or hs p 0
          → get_or hs p 0 + get_or ts p 0 + max before (behind - get_or ts p 0) ≡ own_span_at count hs ts qs p
      own_is_at waits =
          grind (
            arith,
            own_at,
            times_long,
            tails_long,
            inside,
            before_ranked,
            behind_ranked,
            head_is,
            time_is,
            own_same,
          )

-- an index of a row is one of the block that is written, or of what stands before or behind it
module _ (n : ℕ) (owns v new : List ℕ) (eight_long : length v ≡ 8) (room : 8 * (n + 1) ≤ length owns)
    (new_is : new ≡ put_chunk (8 * n) owns v) where
  pub stored_long : length new ≡ length owns
  stored_long = ap length new_is ∙ length-put_chunk (8 * n) owns v

  pub stored_before : (k : ℕ) → k < 8 * n → get_or new k 0 ≡ get_or owns k 0
  stored_before k lt = ap (λ l. get_or l k 0) new_is ∙ get_or-put_chunk_below (8 * n) owns v k 0 lt

  pub stored_at : (j : ℕ) → j < 8 → get_or new (8 * n + j) 0 ≡ get_or v j 0
  stored_at j lt = grind (arith, get_or-put_chunk_at)

-- the way down as far as block j
pub record IsNotedTo (count : ℕ) (all : List Lane) (j : ℕ) (clocks most owns : List ℕ) : Type 0 where
  pub long : length owns ≡ 8 * count
  pub served : IsServedTo 1 (part_of count all) j clocks most
  pub noted : (p : ℕ) → p < 8 * j → get_or owns p 0 ≡ span 1 0 (part_of count all (p % 8) (p / 8))

pub note_more : {count : ℕ} {all : List Lane} {j : ℕ} → j < count → {clocks most owns after later new : List ℕ}
    → IsNotedTo count all j clocks most owns → new ≡ put_chunk (8 * j) owns most
    → IsServedTo 1 (part_of count all) (j + 1) after later → IsNotedTo count all (j + 1) after later new
note_more {count} {all} {j} lt {clocks} {most} {owns} {after} {later} {new} so_far new_is served =
    let eight_long : length most ≡ 8 = ap length so_far.served.most_are
    in let room : 8 * (j + 1) ≤ length owns = omega (arith, so_far.long, lt)
    in record {
      long = stored_long j owns most new eight_long room new_is ∙ so_far.long;
      served = served;
      noted = λ p p_lt. elim (cases_lt p (8 * j)) [
        | inl before ↦
            stored_before j owns most new eight_long room new_is p before ∙ so_far.noted p before
        | inr from ↦
            let k : ℕ = p - 8 * j
            in let is : 8 * j + k ≡ p = omega (arith, from)
            in let k_lt : k < 8 = omega (arith, from, p_lt)
            in ap (λ n. get_or new n 0) (sym is)
            ∙ stored_at j owns most new eight_long room new_is k k_lt
            ∙ ap (λ l. get_or l k 0) so_far.served.most_are
            ∙ in_eight (λ i. span 1 0 (part_of count all i j)) k k_lt
            ∙ ap (λ i. span 1 0 (part_of count all i j)) (omega (arith, is, k_lt))
            ∙ ap (λ i. span 1 0 (part_of count all (p % 8) i)) (omega (arith, is, k_lt))
      ];
    }

-- the way back as far as block j
pub record IsBackTo (count : ℕ) (hs ts qs : List ℕ) (all : List Lane) (j : ℕ) (clocks behind owns : List ℕ)
    : Type 0 where
  pub within : j ≤ count
  pub long : length owns ≡ 8 * count
  pub clocks_are : clocks ≡ eight (λ k. clock_after 1 0 (front_of count all k j))
  pub behind_long : length behind ≡ 8
  pub behind_are : (k : ℕ) → k < 8 → IsLoadBehind all (k * count + j) (get_or behind k 0)
  pub noted : (p : ℕ) → p < 8 * j → get_or owns p 0 ≡ span 1 0 (part_of count all (p % 8) (p / 8))
  pub done : (p : ℕ) → 8 * j ≤ p → p < 8 * count → 0 < get_or hs p 0
      → get_or owns p 0 ≡ own_span_at count hs ts qs p

module _ {count : ℕ} {hs ts qs : List ℕ} {rows : List Lane} (cols : AreColumnsOf count hs ts qs rows) {limit : ℕ}
    (fits : FitOwnSpans limit rows) where
  -- block j, as it is read and bounded
  module _ (j : ℕ) {n : ℕ} (next : n ≡ j + 1) {clocks behind owns : List ℕ}
      (so_far_n : IsBackTo count hs ts qs rows n clocks behind owns) {heads times tails noted one : List ℕ}
      (heads_are : heads ≡ take 8 (drop (8 * j) hs)) (times_are : times ≡ take 8 (drop (8 * j) ts))
      (tails_are : tails ≡ take 8 (drop (8 * j) qs)) (noted_is : noted ≡ take 8 (drop (8 * j) owns))
      (one_is : one ≡ replicate 8 1) {begins before : List ℕ}
      (begins_are : begins ≡ eight (λ k. clock_after 1 0 (take (k * count + 0) rows)))
      (before_are : before ≡ eight (λ k. span 1 0 (take (k * count) rows))) where
    so_far : IsBackTo count hs ts qs rows (j + 1) clocks behind owns
    so_far = subst (λ m. IsBackTo count hs ts qs rows m clocks behind owns) next so_far_n

    j_lt : j < count
    j_lt = let w = so_far.within in omega (arith, w)

    heads_eight : heads ≡ eight (λ k. get_or hs (8 * j + k) 0)
    heads_eight = heads_are ∙ block_eight j hs (omega (arith, cols.heads_long, j_lt))

    times_eight : times ≡ eight (λ k. get_or ts (8 * j + k) 0)
    times_eight = times_are ∙ block_eight j ts (omega (arith, cols.times_long, j_lt))

    tails_eight : tails ≡ eight (λ k. get_or qs (8 * j + k) 0)
    tails_eight = tails_are ∙ block_eight j qs (omega (arith, cols.tails_long, j_lt))

    pub heads_eight_long : length heads ≡ 8
    heads_eight_long = ap length heads_eight

    begins_eight : begins ≡ eight (λ k. clock_after 1 0 (take (k * count) rows))
    begins_eight = grind (arith, eight_same)

    noted_eight : noted ≡ eight (λ k. span 1 0 (part_of count rows k j))
    noted_eight =
        noted_is ∙ block_eight j owns (omega (arith, so_far.long, j_lt))
        ∙ eight_same (λ k. get_or owns (8 * j + k) 0) (λ k. span 1 0 (part_of count rows k j))
        (λ k lt.
        so_far.noted (8 * j + k) (omega (arith, lt))
        ∙ ap (λ i. span 1 0 (part_of count rows i ((8 * j + k) / 8))) (omega (arith, lt))
        ∙ ap (λ i. span 1 0 (part_of count rows k i)) (omega (arith, lt)))

    -- the clock of the columns before, and what is served of this one
    front_work : (k : ℕ) → clock_after 1 0 (front_of count rows k j)
        ≡ clock_after 1 0 (take (k * count) rows) + clock_after 1 0 (part_of count rows k j)
    front_work k = grind (arith, take-add, work-append, part_of)

    front_load : (k : ℕ) → span 1 0 (front_of count rows k j)
        ≡ max (span 1 0 (take (k * count) rows))
        (clock_after 1 0 (take (k * count) rows) + span 1 0 (part_of count rows k j))
    front_load k = grind (arith, take-add, load-append, part_of)

    pub noted_fit : AddsFit limit begins noted
    noted_fit =
        subst (λ l. AddsFit limit l noted) (sym begins_eight)
        (subst (AddsFit limit (eight (λ k. clock_after 1 0 (take (k * count) rows)))) (sym noted_eight)
        (eight_fit limit (λ k. clock_after 1 0 (take (k * count) rows)) (λ k. span 1 0 (part_of count rows k j))
        (λ k lt.
        let work = front_work k
        in let small = work_small cols (fronts cols) 1 limit fits.whole k j
        in let load = load_le 1 (part_of count rows k j)
        in let tail = greatest_part (λ x. x.tail) j (k * count) rows
        in omega (arith, work, small, load, tail))))

    pub begun_long : {begun : List ℕ} → begun ≡ added begins noted → length begun ≡ 8
    begun_long told = grind (arith, noted, begins_eight, noted_eight)

    module _ {begun first : List ℕ} (begun_is : begun ≡ added begins noted) (first_is : first ≡ zip2 max before begun)
      where
        behind_eight : behind ≡ eight (λ k. get_or behind k 0)
        behind_eight = as_eight behind so_far.behind_long

        first_fronts : first ≡ eight (λ k. span 1 0 (front_of count rows k j))
        first_fronts = grind (arith, noted, begins_eight, noted_eight, part_of, eight_same, front_of, front_load)

        first_long : length first ≡ 8
        first_long = ap length first_fronts

        first_eight : first ≡ eight (λ k. get_or first k 0)
        first_eight = as_eight first first_long

        first_here : (k : ℕ) → k < 8 → get_or first k 0 ≡ span 1 0 (take (rank_of count (8 * j + k)) rows)
        first_here k lt =
            ap (λ l. get_or l k 0) first_fronts
            ∙ (in_eight (λ k. span 1 0 (front_of count rows k j)) k lt
            ∙ ap (λ n. span 1 0 (take n rows)) (sym (rank_of_parts count k j lt)))

        behind_here : (k : ℕ) → k < 8 → IsLoadBehind rows (suc (rank_of count (8 * j + k))) (get_or behind k 0)
        behind_here k lt =
            let r = rank_of_parts count k j lt
            in let on : k * count + (j + 1) ≡ suc (rank_of count (8 * j + k)) = omega (arith, r)
            in subst (λ n. IsLoadBehind rows n (get_or behind k 0)) on (so_far.behind_are k lt)

        here_fits : (k : ℕ) → k < 8
            → (get_or hs (8 * j + k) 0 + get_or ts (8 * j + k) 0 ≤ limit)
            × (get_or hs (8 * j + k) 0 + get_or ts (8 * j + k) 0
            + max (get_or first k 0) (get_or behind k 0 - get_or ts (8 * j + k) 0) ≤ limit)
        here_fits k lt =
            own_fits_at cols (8 * j + k) (omega (arith, lt, j_lt))
            (get_or first k 0) (get_or behind k 0) (first_here k lt) (behind_here k lt) limit fits

        pub begins_fit : AddsFit limit heads times
        begins_fit = grind (arith, heads_eight, times_eight, eight_fit, here_fits)

        own_rest : zip2 max first (lessened behind times)
            ≡ eight (λ k. max (get_or first k 0) (get_or behind k 0 - get_or ts (8 * j + k) 0))
        own_rest = grind (arith, first_eight, behind_eight, times_eight)

        own_begins : added heads times ≡ eight (λ k. get_or hs (8 * j + k) 0 + get_or ts (8 * j + k) 0)
        own_begins = grind (arith, heads_eight, times_eight)

        pub rest_long : {less : List ℕ} → less ≡ lessened behind times → length first ≡ length less
        rest_long told = grind (arith, first_long, behind_eight, times_eight)

        pub ends_fit : AddsFit limit (added heads times) (zip2 max first (lessened behind times))
        ends_fit = grind (arith, own_begins, own_rest, eight_fit, here_fits)

        front_next : (k : ℕ) → k < 8
            → clock_after 1 0 (front_of count rows k (suc j))
            ≡ clock_after 1 0 (front_of count rows k j)
            + cond (leb 1 (get_or hs (8 * j + k) 0)) (get_or ts (8 * j + k) 0) 0
        front_next k lt = work_next cols (fronts cols) 1 k j lt j_lt

        clocks_eight : clocks ≡ eight (λ k. clock_after 1 0 (front_of count rows k (suc j)))
        clocks_eight = grind arith

        one_at : get_or one 0 0 ≡ 1
        one_at = ap (λ l. get_or l 0 0) one_is

        abbrev served_tails : List ℕ
        served_tails = waiting (get_or one 0 0) heads tails

        served_tails_eight : served_tails
            ≡ eight (λ k. cond (leb 1 (get_or hs (8 * j + k) 0)) (get_or qs (8 * j + k) 0) 0)
        served_tails_eight = grind (arith, one_at, heads_eight, tails_eight)

        pub tails_fit : {waits : List ℕ} → waits ≡ served_tails → AddsFit limit clocks waits
        tails_fit waits_are =
            subst (AddsFit limit clocks) (sym waits_are) (subst (λ l. AddsFit limit l served_tails) (sym clocks_eight)
            (subst (AddsFit limit (eight (λ k. clock_after 1 0 (front_of count rows k (suc j)))))
            (sym served_tails_eight)
            (eight_fit limit (λ k. clock_after 1 0 (front_of count rows k (suc j)))
            (λ k. cond (leb 1 (get_or hs (8 * j + k) 0)) (get_or qs (8 * j + k) 0) 0)
            (λ k lt.
            let small = work_small cols (fronts cols) 1 limit fits.whole k (suc j)
            in let tail = tail_small cols k j lt j_lt
            in grind (arith, small, tail)))))

        abbrev own_of : ℕ → ℕ
        own_of k = get_or hs (8 * j + k) 0 + get_or ts (8 * j + k) 0
            + max (get_or first k 0) (get_or behind k 0 - get_or ts (8 * j + k) 0)

        pub own_eight : {own : List ℕ} → own ≡ added (added heads times) (zip2 max first (lessened behind times))
            → own ≡ eight own_of
        own_eight told = grind (arith, own_begins, own_rest)

        pub late_eight : {waits late : List ℕ} → waits ≡ served_tails → late ≡ added clocks waits
            → late ≡ eight (λ k. clock_after 1 0 (front_of count rows k (suc j))
            + cond (leb 1 (get_or hs (8 * j + k) 0)) (get_or qs (8 * j + k) 0) 0)
        late_eight waits_are late_is = grind (arith, clocks_eight, front_of, served_tails_eight)

        pub served_eight : {served : List ℕ} → served ≡ waiting (get_or one 0 0) heads times
            → served ≡ eight (λ k. cond (leb 1 (get_or hs (8 * j + k) 0)) (get_or ts (8 * j + k) 0) 0)
        served_eight told = grind (arith, one_at, heads_eight, times_eight)

        module _ {own : List ℕ} (own_told : own ≡ added (added heads times) (zip2 max first (lessened behind times)))
            {waits late : List ℕ} (waits_are : waits ≡ served_tails) (late_is : late ≡ added clocks waits)
            {served : List ℕ} (served_is : served ≡ waiting (get_or one 0 0) heads times)
            {new more less : List ℕ} (new_is : new ≡ put_chunk (8 * j) owns own) (more_is : more ≡ zip2 max behind late)
            (less_is : less ≡ lessened clocks served) where
          own_long : length own ≡ 8
          own_long = ap length (own_eight own_told)

          late_long : length late ≡ 8
          late_long = ap length (late_eight waits_are late_is)

          less_eight : less ≡ eight (λ k. clock_after 1 0 (front_of count rows k j))
          less_eight =
              less_is
              ∙ ap (λ l. lessened l served) clocks_eight
              ∙ ap (lessened (eight (λ k. clock_after 1 0 (front_of count rows k (suc j))))) (served_eight served_is)
              ∙ eight_same
              (λ k. clock_after 1 0 (front_of count rows k (suc j))
              - cond (leb 1 (get_or hs (8 * j + k) 0)) (get_or ts (8 * j + k) 0) 0)
              (λ k. clock_after 1 0 (front_of count rows k j))
              (λ k lt. let next = front_next k lt in omega (arith, next))

          behind_next : (k : ℕ) → k < 8 → IsLoadBehind rows (k * count + j) (get_or more k 0)
          behind_next k lt =
              let r = k * count + j
              in let below = rank_below count k j lt j_lt
              in let x = lane_at hs ts qs (8 * j + k)
              in let on : k * count + (j + 1) ≡ suc r = omega arith
              in let front_on : k * count + suc j ≡ suc r = omega arith
              in let split : drop r rows ≡ x ∷ drop (suc r) rows =
              drop-cons rows r x (omega (arith, below, cols.long))
              ∙ ap (λ y. y ∷ drop (suc r) rows) (cols.at k j lt j_lt x)
              in let number : get_or more k 0 ≡ max (get_or behind k 0) (clock_after 1 0 (take (suc r) rows)
              + cond (leb 1 (get_or hs (8 * j + k) 0)) (get_or qs (8 * j + k) 0) 0) =
              ap (λ l. get_or l k 0) more_is
              ∙ get_or-zip2 max behind late k 0 0 0 (omega (arith, lt, so_far.behind_long))
              (omega (arith, lt, late_long))
              ∙ ap (λ l. max (get_or behind k 0) (get_or l k 0)) (late_eight waits_are late_is)
              ∙ ap (max (get_or behind k 0)) (in_eight (λ i. clock_after 1 0 (front_of count rows i (suc j))
              + cond (leb 1 (get_or hs (8 * j + i) 0)) (get_or qs (8 * j + i) 0) 0) k lt)
              ∙ ap (λ n. max (get_or behind k 0) (clock_after 1 0 (take n rows)
              + cond (leb 1 (get_or hs (8 * j + k) 0)) (get_or qs (8 * j + k) 0) 0)) front_on
              in let clock : clock_after 1 0 (take r rows)
              + cond (leb 1 (get_or hs (8 * j + k) 0)) (get_or ts (8 * j + k) 0) 0
              ≡ clock_after 1 0 (take (suc r) rows) =
              sym (front_next k lt) ∙ ap (λ n. clock_after 1 0 (take n rows)) front_on
              in let later = span_from_start 1 (0 + get_or ts (8 * j + k) 0) (drop (suc r) rows)
              in let behind_is : IsLoadBehind rows (suc r) (get_or behind k 0) =
              subst (λ n. IsLoadBehind rows n (get_or behind k 0)) on (so_far.behind_are k lt)
              in grind (arith, r, below, x, on, front_on, split, number, clock, later, behind_is)

          pub back_more : IsBackTo count hs ts qs rows j less more new
          back_more =
              let room : 8 * (j + 1) ≤ length owns = omega (arith, so_far.long, j_lt)
              in record {
                within = omega (arith, j_lt);
                long = stored_long j owns own new own_long room new_is ∙ so_far.long;
                clocks_are = less_eight;
                behind_long = grind (arith, length-zip2, so_far, late_long);
                behind_are = behind_next;
                noted = λ p lt. grind (arith, stored_before, own_long, so_far);
                done = λ p from lt waits. elim (cases_lt p (8 * (j + 1))) [
                  | inl within ↦
                      let k : ℕ = p - 8 * j
                      in let is : 8 * j + k ≡ p = omega (arith, from)
                      in let k_lt : k < 8 = omega (arith, from, within)
                      in let own_here = own_is_at cols (8 * j + k)
                      (omega (arith, k_lt, j_lt)) (get_or first k 0) (get_or behind k 0)
                      (first_here k k_lt) (behind_here k k_lt)
                      (subst (λ n. 0 < get_or hs n 0) (sym is) waits)
                      in ap (λ n. get_or new n 0) (sym is)
                      ∙ stored_at j owns own new own_long room new_is k k_lt
                      ∙ ap (λ l. get_or l k 0) (own_eight own_told)
                      ∙ in_eight own_of k k_lt
                      ∙ own_here
                      ∙ ap (own_span_at count hs ts qs) is
                  | inr past ↦ grind (arith, own_long, so_far, get_or-put_chunk_above)
                ];
              }
