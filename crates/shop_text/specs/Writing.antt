-- The texts that the program prints: reports, Gantt texts, lists of instances, and verdicts.
--     text_of lines
--         each line ends with LF, and its tokens stand one space apart; numbers are `decimal`
--     report_text reported         an answer, and the table of starts
--     gantt_text shop starts       a line of characters for each machine
--     text_with_gantt reported gantt       a report, and its Gantt text where that is asked for
--     list_text named              a line for each instance
--     verdict_text verdict         the line of a verdict
use Rattle.std.specs.Prelude.{◌≡◌, ℕ, zero, suc, ◌-◌, ◌*◌, ◌≤◌, ◌<◌, max, Bool, ◌&&◌, ◌==◌, nat_le, nat_lt, List, []}
use Rattle.std.specs.Prelude.{◌∷◌, ◌++◌, length, map, flat_map, find, slice_index_or, codes, if◌then◌else◌}
use Rattle.std.specs.{List.{range_with_len, enumerate_from, list_any, join_with_byte}, Option.option_map_or}
use Rattle.std.specs.{Int.div_ceil, Fmt.decimal}
use Rattle.shop_model.specs.Shop.{Shop, Starts, route_of, machine_of, IsOperation, IsFeasible, finish_of, end_of}
use Rattle.shop_model.specs.{Checking.starts_of, declared.checking.Verdict.Verdict}
use Rattle.shop_model.specs.declared.checking.Verdict.TheVariants.{Feasible, WrongSize, Unreleased, Early, Overlap}
use Rattle.shop_text.specs.{Texts.NamedShop, Schedules.Tokens}

abbrev pub printed_line : Tokens → List ℕ
printed_line tokens = join_with_byte 32 tokens ++ 10 ∷ []

abbrev pub text_of : List Tokens → List ℕ
text_of lines = flat_map printed_line lines

abbrev pub number_line : List ℕ → ℕ → Tokens
number_line word n = word ∷ decimal n ∷ []

-- ---- reports

-- what a report tells
pub record Reported : Type 0 where
  pub name : List ℕ
  pub shop : Shop
  pub table : List (List ℕ)
  pub makespan : ℕ
  pub bound : ℕ
  pub open_nodes : ℕ
  pub rounds : ℕ
  pub nodes : ℕ

-- optimal where no node is open
abbrev pub status_word : ℕ → List ℕ
status_word zero = codes "optimal"
status_word (suc n) = codes "open"

abbrev pub answer_lines : Reported → List Tokens
answer_lines r =
    (codes "instance" ∷ r.name ∷ [])
    ∷ (codes "size" ∷ decimal (length r.shop.jobs) ∷ decimal r.shop.machines ∷ [])
    ∷ number_line (codes "makespan") r.makespan
    ∷ number_line (codes "bound") r.bound
    ∷ (codes "status" ∷ status_word r.open_nodes ∷ [])
    ∷ number_line (codes "open") r.open_nodes
    ∷ number_line (codes "rounds") r.rounds
    ∷ number_line (codes "nodes") r.nodes
    ∷ []

-- `job j:` and the starts of its steps
abbrev pub job_line : ℕ → List ℕ → Tokens
job_line j starts = codes "job" ∷ (decimal j ++ codes ":") ∷ map decimal starts

abbrev pub job_lines : List (List ℕ) → List Tokens
job_lines rows = map (λ row. job_line row.0 row.1) (enumerate_from 0 rows)

abbrev pub report_lines : Reported → List Tokens
report_lines r = answer_lines r ++ job_lines r.table

abbrev pub report_text : Reported → List ℕ
report_text r = text_of (report_lines r)

-- ---- Gantt texts

-- how much time a column stands for: the least unit such that there are at most 72 columns
abbrev pub unit_of : ℕ → ℕ
unit_of makespan = max 1 (div_ceil makespan 72)

abbrev pub columns_of : ℕ → ℕ
columns_of makespan = div_ceil makespan (unit_of makespan)

-- the character of a job; from job 62 on it is `#`
abbrev pub character_of : ℕ → ℕ
character_of j = slice_index_or (codes
    "0123456789ABCDEFGHIJKLMNOPQRSTUVWXYZabcdefghijklmnopqrstuvwxyz") j 35

-- (j, k) is served on the machine at the instant: from its start on, and no longer at its end
abbrev pub is_served : Shop → Starts → ℕ → ℕ → ℕ → ℕ → Bool
is_served shop starts machine instant j k =
    (machine_of shop j k == machine) && nat_le (starts j k) instant
    && nat_lt instant (finish_of shop starts j k)

-- whether the machine serves job j at the instant
abbrev pub serves : Shop → Starts → ℕ → ℕ → ℕ → Bool
serves shop starts machine instant j =
    list_any (is_served shop starts machine instant j) (range_with_len 0 (length (route_of shop j)))

-- the character of the job that the machine serves at the instant, or a dot
abbrev pub shown_at : Shop → Starts → ℕ → ℕ → ℕ
shown_at shop starts machine instant =
    option_map_or character_of (find (serves shop starts machine instant)
    (range_with_len 0 (length shop.jobs))) 46

-- column c shows the instant c units after 0
abbrev pub shown_cells : Shop → Starts → ℕ → ℕ → ℕ → List ℕ
shown_cells shop starts machine unit count =
    map (λ column. shown_at shop starts machine (column * unit)) (range_with_len 0 count)

abbrev pub columns : Shop → Starts → ℕ → List ℕ
columns shop starts machine =
    shown_cells shop starts machine (unit_of (end_of shop starts)) (columns_of (end_of shop starts))

abbrev pub cells_line : ℕ → List ℕ → Tokens
cells_line machine cells = codes "machine" ∷ decimal machine ∷ (codes "|" ++ cells ++ codes "|") ∷ []

abbrev pub machine_line : Shop → Starts → ℕ → Tokens
machine_line shop starts machine = cells_line machine (columns shop starts machine)

abbrev pub gantt_lines : Shop → Starts → List Tokens
gantt_lines shop starts = number_line (codes "unit") (unit_of (end_of shop starts))
    ∷ map (machine_line shop starts) (range_with_len 0 shop.machines)

abbrev pub gantt_text : Shop → Starts → List ℕ
gantt_text shop starts = text_of (gantt_lines shop starts)

-- a report, and where that is asked for its Gantt text
abbrev pub text_with_gantt : Reported → Bool → List ℕ
text_with_gantt r g = report_text r ++ (if g then gantt_text r.shop (starts_of r.table) else [])

-- In a feasible table the job of an operation is shown at each instant at which its machine serves
-- it, and a dot is shown where a machine serves none.
pub record ShowsTheJob : Type 0 where
  pub served : (shop : Shop) (starts : Starts) → IsFeasible shop starts → (instant j k : ℕ) → IsOperation shop j k
      → starts j k ≤ instant → instant < finish_of shop starts j k
      → shown_at shop starts (machine_of shop j k) instant ≡ character_of j
  pub idle : (shop : Shop) (starts : Starts) (machine instant : ℕ)
      → ((j k : ℕ) → IsOperation shop j k → machine_of shop j k ≡ machine → starts j k ≤ instant
      → finish_of shop starts j k ≤ instant)
      → shown_at shop starts machine instant ≡ 46

-- ---- lists

-- the name, the jobs and the machines of an instance
abbrev pub instance_line : NamedShop → Tokens
instance_line n = n.name ∷ decimal (length n.shop.jobs) ∷ decimal n.shop.machines ∷ []

abbrev pub list_text : List NamedShop → List ℕ
list_text named = text_of (map instance_line named)

-- ---- verdicts

-- (a schedule text gives a table of the instance's shape, so that the program prints no wrong size)
abbrev pub verdict_tokens : Verdict → Tokens
verdict_tokens (Feasible makespan) = number_line (codes "feasible") makespan
verdict_tokens WrongSize = codes "infeasible:" ∷ codes "wrong" ∷ codes "size" ∷ []
verdict_tokens (Unreleased j) =
    codes "infeasible:" ∷ codes "job" ∷ decimal j ∷ codes "step" ∷ codes "0" ∷ codes "begins"
    ∷ codes "before"
    ∷ codes "its" ∷ codes "release" ∷ []
verdict_tokens (Early j k) =
    codes "infeasible:" ∷ codes "job" ∷ decimal j ∷ codes "step" ∷ decimal k
    ∷ codes "begins" ∷ codes "before" ∷ codes "step" ∷ decimal (k - 1) ∷ codes "ends" ∷ []
verdict_tokens (Overlap m p q) =
    codes "infeasible:" ∷ codes "machine" ∷ decimal m ∷ codes "overlap" ∷ codes "of" ∷ codes "job"
    ∷ decimal p.job
    ∷ codes "step" ∷ decimal p.step
    ∷ codes "and" ∷ codes "job" ∷ decimal q.job ∷ codes "step" ∷ decimal q.step ∷ []

abbrev pub verdict_text : Verdict → List ℕ
verdict_text verdict = printed_line (verdict_tokens verdict)
