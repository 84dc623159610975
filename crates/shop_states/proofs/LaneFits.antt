-- Where lanes hold the loads of all machines, they hold the spans of any word.
use Rattle.std.proofs.Common.{◌≡◌, ℕ, ◌+◌, ◌-◌, ◌*◌, ◌≤◌, ◌<◌, List, [], ◌∷◌, length, get_or, refl, sym, ◌∙◌, ap, arith}
use Rattle.std.{proofs.lemmas.List.Sums.sum_by-cons, specs.List.sum_by}
use Rattle.shop_lanes.specs.{Rows.{Rows, Lane, lanes, blocks, AreBlocks}, Spans.{greatest_by, FitsSpan}}
use Rattle.shop_lanes.proofs.{AnyOrder.greatest-by_columns, LaneLists.{lanes-blocks, length-blocks, length-lanes}}
use Rattle.shop_model.specs.{Limits.IsWithinLimits, Shop.Shop}
use Rattle.shop_bound.specs.OneMachine.{greatest_of}
use Rattle.shop_layout.specs.{HeadLimits.{latest_end, FitsLanes}, Lanes.lanes_on, Positions.{LayoutState, IsLaidOut}}
use Rattle.shop_layout.{specs.Positions.first_position, proofs.{ColumnSums.sum_by_columns, LaidPositions.machines_rise}}

-- each machine has its blocks, and a span from `top` on at the latest fits
pub record AreSpansFit (greatest top machines : ℕ) (l : LayoutState) (rows : Rows) : Type 0 where
  pub known : length l.blocks ≡ machines + 1
  pub blocks : (m : ℕ) → m < machines → AreBlocks rows (get_or l.blocks m 0) (get_or l.blocks (m + 1) 0)
  pub below : (m : ℕ) → m < machines → top < greatest
  pub fits : (m : ℕ) → m < machines → FitsSpan greatest top (lanes_on rows l m)

-- what the lanes of rows add up to
lanes_times : (hs ts qs : List ℕ) → length ts ≡ length hs → length qs ≡ length hs
    → sum_by (λ x. x.time) (lanes hs ts qs) ≡ sum_by (λ t. t) ts
lanes_times [] [] qs a b = refl
lanes_times [] (t ∷ ts) qs a b = absurd (omega arith)
lanes_times (h ∷ hs) [] qs a b = absurd (omega arith)
lanes_times (h ∷ hs) (t ∷ ts) [] a b = absurd (omega arith)
lanes_times (h ∷ hs) (t ∷ ts) (q ∷ qs) a b =
    let rest = lanes_times hs ts qs (omega arith) (omega arith)
    in let c = sum_by-cons (λ (x : Lane). x.time) (record { head = h; time = t; tail = q }) (lanes hs ts qs)
    in let d = sum_by-cons (λ (x : ℕ). x) t ts in omega arith

lanes_tails : (hs ts qs : List ℕ) → length ts ≡ length hs → length qs ≡ length hs
    → greatest_by (λ x. x.tail) (lanes hs ts qs) ≡ greatest_of (λ t. t) qs
lanes_tails [] ts [] a b = refl
lanes_tails [] ts (q ∷ qs) a b = absurd (omega arith)
lanes_tails (h ∷ hs) [] qs a b = absurd (omega arith)
lanes_tails (h ∷ hs) (t ∷ ts) [] a b = absurd (omega arith)
lanes_tails (h ∷ hs) (t ∷ ts) (q ∷ qs) a b = grind (arith, lanes_tails hs ts qs (omega arith) (omega arith))

module _ {shop : Shop} (limits : IsWithinLimits shop) {l : LayoutState} (laid : IsLaidOut shop l) where
  within : (m : ℕ) → m < shop.machines → first_position l (m + 1) ≤ first_position l shop.machines
  within m known = machines_rise shop limits l laid (m + 1) shop.machines (omega arith) (omega arith)

  pub spans_fit : (greatest : ℕ) → FitsLanes greatest shop l → (rows : Rows) → rows.times ≡ l.times
      → rows.tails ≡ l.tails
      → length rows.heads ≡ first_position l shop.machines
      → AreSpansFit greatest (latest_end shop + 1) shop.machines l rows
  spans_fit greatest fits rows times tails long = record {
    known = laid.machines;
    blocks = λ m known. grind (arith, within);
    below = λ m known. (let f = fits m known in omega arith);
    fits = λ m known. (let from = get_or l.blocks m 0 in let to = get_or l.blocks (m + 1) 0
        in let b = within m known
        in let ts = laid.positions.times in let qs = laid.positions.tails
        in let et : length rows.times ≡ length rows.heads = (let x = ap length times in omega arith)
        in let eq : length rows.tails ≡ length rows.heads = (let x = ap length tails in omega arith)
        in let hl = length-blocks from to rows.heads (omega arith)
        in let tl = length-blocks from to rows.times (omega arith)
        in let ql = length-blocks from to rows.tails (omega arith)
        in let same = lanes-blocks rows.heads rows.times rows.tails from to et eq
        in let t = lanes_times (blocks from to rows.heads) (blocks from to rows.times) (blocks from to rows.tails)
        (omega arith) (omega arith)
        in let q = lanes_tails (blocks from to rows.heads) (blocks from to rows.times) (blocks from to rows.tails)
        (omega arith) (omega arith)
        in let its : List Lane = blocks from to (lanes rows.heads rows.times rows.tails)
        in let whole : length its ≡ 8 * (to - from) =
        (let a = length-lanes rows.heads rows.times rows.tails et eq
        in length-blocks from to (lanes rows.heads rows.times rows.tails) (omega arith) ∙ omega arith)
        in let f = fits m known
        in let lt : sum_by (λ (x : Lane). x.time) (lanes_on rows l m) ≡ sum_by (λ (n : ℕ). n) (blocks from to l.times) =
        sum_by_columns (λ (x : Lane). x.time) (to - from) its whole
        ∙ (ap (λ (xs : List Lane). sum_by (λ x. x.time) xs) (sym same)
        ∙ (t ∙ ap (λ (xs : List ℕ). sum_by (λ n. n) (blocks from to xs)) times))
        in let lq : greatest_by (λ (x : Lane). x.tail) its
        ≡ greatest_of (λ (n : ℕ). n) (blocks from to l.tails) =
        ap (λ (xs : List Lane). greatest_by (λ x. x.tail) xs) (sym same)
        ∙ (q ∙ ap (λ (xs : List ℕ). greatest_of (λ n. n) (blocks from to xs)) tails)
        in let most = greatest-by_columns (to - from) its whole (λ (x : Lane). x.tail)
        in omega (arith, lt, lq, most, f));
  }
