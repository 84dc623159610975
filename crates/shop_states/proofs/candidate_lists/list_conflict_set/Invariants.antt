use Rattle.std.proofs.Common.{◌≡◌, ℕ, ◌≤◌, List, ◌-◌, ◌*◌, ◌++◌, drop, length, map, take}
use Rattle.shop_states.specs.inner.{Candidates.{ListsOwn, told_at}, JobSets.members}
use Rattle.shop_states.proofs.candidate_lists.list_conflict_set.Given as goal

abbrev pub invariant-loop-index : goal.invariant-loop-index
invariant-loop-index g l =
    let own : ℕ → ℕ = told_at l.next l.first (map g.L.StateLanes.value l.owns)
    in (done : List ℕ) × record {
      all : done ++ members (64 * l.index) (drop l.index l.numbers) ≡ members 0 l.numbers;
      listed : ListsOwn l.limit own done (take l.tally.listed l.list) (l.tally.seen - l.tally.listed);
      tally : l.tally.listed ≤ l.tally.seen;
      seen : l.tally.seen ≡ length done;
      room : length l.list ≡ length l.fn.list;
    }
