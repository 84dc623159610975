use Rattle.std.proofs.Common.{◌≡◌, ℕ, ◌≤◌, List, ◌+◌, ◌-◌, ◌++◌, length, map, take}
use Rattle.shop_states.specs.inner.{Candidates.{IsTold, ListsOwn, told_at}, RisingLists.IsIn}
use Rattle.shop_states.proofs.candidate_lists.list_marked.Given as goal

abbrev pub invariant-loop-job : goal.invariant-loop-job
invariant-loop-job g l =
    let own : ℕ → ℕ = told_at l.next l.first (map g.L.StateLanes.value l.owns)
    in (done : List ℕ) × record {
      all : done ++ l.left ≡ l.fn.jobs;
      told : (j : ℕ) → IsIn l.left j → IsTold l.next l.first (length l.owns) j;
      listed : (js : List ℕ) → ListsOwn l.limit own js (take l.fn.before.listed l.fn.list)
          (l.fn.before.seen - l.fn.before.listed) → ListsOwn l.limit own (js ++ done) (take l.tally.listed l.list)
          (l.tally.seen - l.tally.listed);
      tally : l.tally.listed ≤ l.tally.seen;
      seen : l.tally.seen ≡ l.fn.before.seen + length done;
      room : length l.list ≡ length l.fn.list;
    }

abbrev pub decreases-loop-job : goal.decreases-loop-job
decreases-loop-job g l = length l.left
