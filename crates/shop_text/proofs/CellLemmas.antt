-- The columns of a Gantt text.
use Rattle.std.proofs.{lemmas.Grind.{common_steps, div_ceil_times}, Math.Bool.or-false}
use Rattle.std.proofs.Common.{◌≡◌, ℕ, zero, suc, ◌+◌, ◌*◌, ◌<◌, ◌≤◌, Bool, ◌&&◌, ◌||◌, leb, ltb, List, [], ◌∷◌, ◌++◌}
use Rattle.std.proofs.{Common.{length, get_or, sym, ap, ◌∙◌, arith, add-one}, lemmas.List.Folds.list_any-append}
use Rattle.std.proofs.lemmas.Bool.{cases_lt, eq-eqb, leb-true, le-leb, ltb-true, lt-ltb}
use Rattle.std.specs.{List.{range_with_len, list_any}, Int.div_ceil}
use Rattle.shop_model.specs.{declared.ops.Op.Op, Shop.{Shop, Starts, no_op, route_of, machine_of, finish_of}}
use Rattle.shop_model.specs.Checking.{starts_of}
use Rattle.shop_text.specs.{Writing.is_served, inner.Cells.{serves_below, ShowsWhere}}

-- ---- the columns of an interval

le_ceil : (a u c : ℕ) → 0 < u → a ≤ c * u → div_ceil a u ≤ c
le_ceil a u c some h = grind (arith, common_steps, div_ceil_times)

-- a column is not before an instant just where its own instant is not
pub from_column : (a u c : ℕ) → 0 < u → leb (div_ceil a u) c ≡ leb a (c * u)
from_column a u c some = grind (arith, common_steps, le-leb, leb-true, le_ceil)

pub to_column : (a u c : ℕ) → 0 < u → ltb c (div_ceil a u) ≡ ltb (c * u) a
to_column a u c some = grind (arith, common_steps, lt-ltb, ltb-true, cases_lt, le_ceil)

pub ceil_mono : (a b u : ℕ) → 0 < u → a ≤ b → div_ceil a u ≤ div_ceil b u
ceil_mono a b u some h = le_ceil a u (div_ceil b u) some (omega (arith, (div_ceil_times b u some).0))

-- ---- what is shown

pub shown_both : (old new newer : List ℕ) (character : ℕ) (first second both : ℕ → Bool)
    → ShowsWhere old new character first → ShowsWhere new newer character second → length new ≡ length old
    → ((c : ℕ) → both c ≡ (first c || second c)) → ShowsWhere old newer character both
shown_both old new newer character first second both f g same either c h = grind (arith, common_steps)

-- ---- one more step

range_push : (a n : ℕ) → range_with_len a (n + 1) ≡ range_with_len a n ++ (a + n) ∷ []
range_push a zero = ap (λ (i : ℕ). i ∷ []) (omega arith)
range_push a (suc n) = grind (arith, common_steps, add-one, range_push (a + 1) n)

any_more : (p : ℕ → Bool) (a n : ℕ) → list_any p (range_with_len a (n + 1))
    ≡ (list_any p (range_with_len a n) || p (a + n))
any_more p a n = grind (arith, common_steps, range_push, list_any-append, or-false)

step_more : (shop : Shop) (starts : Starts) (machine instant j k : ℕ)
    → serves_below shop starts machine instant j (k + 1)
    ≡ (serves_below shop starts machine instant j k || is_served shop starts machine instant j k)
step_more shop starts machine instant j k = grind (arith, common_steps, any_more)

-- a step on the machine is shown in its columns
shown_step : (shop : Shop) (starts : Starts) (machine unit c j k : ℕ) → 0 < unit → machine_of shop j k ≡ machine
    → is_served shop starts machine (c * unit) j k ≡ (leb (div_ceil (starts j k) unit) c
    && ltb c (div_ceil (finish_of shop starts j k) unit))
shown_step shop starts machine unit c j k some same = grind (arith, common_steps, eq-eqb, from_column, to_column)

-- a route and a row of starts are those of job j
pub record AreOfJob (shop : Shop) (rows : List (List ℕ)) (j : ℕ) (route : List Op) (row : List ℕ) : Type 0 where
  pub route_is : route ≡ route_of shop j
  pub row_is : row ≡ get_or rows j []

module _ (shop : Shop) (rows : List (List ℕ)) (j : ℕ) (route : List Op) (row : List ℕ)
    (own : AreOfJob shop rows j route row) where
  machine_is : (k : ℕ) → (get_or route k no_op).machine ≡ machine_of shop j k
  machine_is k = ap (λ (os : List Op). (get_or os k no_op).machine) own.route_is

  begins_at : (k : ℕ) → get_or row k 0 ≡ starts_of rows j k
  begins_at k = ap (λ (ss : List ℕ). get_or ss k 0) own.row_is

  ends_at : (k : ℕ) → get_or row k 0 + (get_or route k no_op).time ≡ finish_of shop (starts_of rows) j k
  ends_at k = let a = begins_at k in let b = ap (λ (os : List Op). (get_or os k no_op).time) own.route_is in omega arith

  pub step_shown : (old cells newer : List ℕ) (machine unit character k from to : ℕ)
      → 0 < unit → length cells ≡ length old
      → ShowsWhere old cells character (λ c. serves_below shop (starts_of rows) machine (c * unit) j k)
      → (get_or route k no_op).machine ≡ machine
      → from ≡ div_ceil (get_or row k 0) unit → to ≡ div_ceil (get_or row k 0 + (get_or route k no_op).time) unit
      → ShowsWhere cells newer character (λ c. leb from c && ltb c to)
      → ShowsWhere old newer character (λ c. serves_below shop (starts_of rows) machine (c * unit) j (k + 1))
  step_shown old cells newer machine unit character k from to some same so_far on begins ends here =
      let starts = starts_of rows
      in shown_both old cells newer character (λ c. serves_below shop starts machine (c * unit) j k)
      (λ c. leb from c && ltb c to) (λ c. serves_below shop starts machine (c * unit) j (k + 1)) so_far here same
      (λ c. step_more shop starts machine (c * unit) j k
      ∙ ap (λ (b : Bool). serves_below shop starts machine (c * unit) j k || b)
      (shown_step shop starts machine unit c j k some (sym (machine_is k) ∙ on)
      ∙ ap (λ (i : ℕ). leb i c && ltb c (div_ceil (finish_of shop starts j k) unit))
      (sym (begins ∙ ap (λ (i : ℕ). div_ceil i unit) (begins_at k)))
      ∙ ap (λ (i : ℕ). leb from c && ltb c i) (sym (ends ∙ ap (λ (i : ℕ). div_ceil i unit) (ends_at k)))))

  pub step_skipped : (old cells : List ℕ) (machine unit character k : ℕ)
      → ShowsWhere old cells character (λ c. serves_below shop (starts_of rows) machine (c * unit) j k)
      → ((get_or route k no_op).machine ≡ machine → ⊥)
      → ShowsWhere old cells character (λ c. serves_below shop (starts_of rows) machine (c * unit) j (k + 1))
  step_skipped old cells machine unit character k so_far other c h = grind (arith, step_more, machine_is)
