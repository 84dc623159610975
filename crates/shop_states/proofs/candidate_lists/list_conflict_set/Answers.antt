use Rattle.std.proofs.Common.{◌≡◌, ◌+◌, ◌*◌, ◌++◌, ◌≤◌, ◌<◌, ℕ, List, [], drop, get_or, length, refl, ap, subst, arith}
use Rattle.std.proofs.lemmas.List.{length-append}
use Rattle.shop_lanes.specs.SetBits.{set_bits}
use Rattle.shop_states.specs.inner.{Candidates.{IsTold, empty}, JobSets.members, RisingLists.IsIn}
use Rattle.shop_states.proofs.JobSets.{all_numbers, few_members, in_number, room_for_number, number_more}
use Rattle.shop_states.proofs.candidate_lists.list_conflict_set.Goals as goal

-- the jobs of one number of the set, behind those of the numbers before
module _ (numbers : List ℕ) {jobs nexts read : List ℕ} {first count : ℕ}
    (told : (j : ℕ) → IsIn jobs j → IsTold nexts first count j)
    (set_is : members 0 numbers ≡ jobs) (read_is : read ≡ nexts) {i : ℕ} (within : i < length numbers) (done : List ℕ)
    (so_far : done ++ members (64 * i) (drop i numbers) ≡ members 0 numbers) {more : List ℕ}
    (more_is : more ≡ set_bits 64 (64 * i) (get_or numbers i 0)) where
  tell : (j : ℕ) → IsIn (members 0 numbers) j → IsTold read first count j
  tell = rw (set_is, read_is) told

  told_more : (j : ℕ) → IsIn more j → IsTold read first count j
  told_more j h = tell j (in_number numbers (length read) (λ k here. (tell k here).job) i done so_far within j
      (subst (λ (js : List ℕ). IsIn js j) more_is h))

  few_more : length done + length more ≤ length nexts
  few_more =
      let all = room_for_number numbers (length read) (λ k here. (tell k here).job) i done so_far (length read) within
      (omega arith)
      in let long = ap length read_is in let marks = ap length more_is in omega arith

pub loop-index-init : goal.loop-index-init
loop-index-init g c =
    ([], record { all = refl; listed = empty; tally = omega arith; seen = refl; room = refl })

pub list_marked-tally-requires-clause-told : goal.list_marked-tally-requires-clause-told
list_marked-tally-requires-clause-told g c =
    told_more c.numbers-numbers.result.now (c.requires.can.told c.conflict_set-set.result c.conflict_set-set.ensures)
    c.numbers-numbers.ensures.members c.as_slice-next.ensures.value c.loop-index-test.true c.loop-index.invariant.0
    c.loop-index.invariant.1.all c.new-jobs.ensures

pub list_marked-tally-requires-clause-few : goal.list_marked-tally-requires-clause-few
list_marked-tally-requires-clause-few g c =
    let all = few_more c.numbers-numbers.result.now
    (c.requires.can.told c.conflict_set-set.result c.conflict_set-set.ensures) c.numbers-numbers.ensures.members
    c.as_slice-next.ensures.value c.loop-index-test.true c.loop-index.invariant.0 c.loop-index.invariant.1.all
    c.new-jobs.ensures
    in let few = c.requires.can.few in let seen = c.loop-index.invariant.1.seen in omega arith

pub list_marked-tally-requires-clause-room : goal.list_marked-tally-requires-clause-room
list_marked-tally-requires-clause-room g c =
    let all = few_more c.numbers-numbers.result.now
    (c.requires.can.told c.conflict_set-set.result c.conflict_set-set.ensures) c.numbers-numbers.ensures.members
    c.as_slice-next.ensures.value c.loop-index-test.true c.loop-index.invariant.0 c.loop-index.invariant.1.all
    c.new-jobs.ensures
    in let room = c.requires.room in let now = c.loop-index.invariant.1 in let seen = now.seen in let long = now.room
    in omega arith

pub loop-index-preserved : goal.loop-index-preserved
loop-index-preserved g c =
    (c.loop-index.invariant.0 ++ c.new-jobs.result, grind (arith, length-append, number_more))

pub returns-clause-listed : goal.returns-clause-listed
returns-clause-listed g c = grind (arith, all_numbers)

pub returns-clause-few : goal.returns-clause-few
returns-clause-few g c =
    let numbers = c.numbers-numbers.result.now
    in let all = all_numbers numbers c.loop-index.index c.loop-index.invariant.0 (let test = c.loop-index-test.false
    in omega arith) c.loop-index.invariant.1.all
    in let few = few_members numbers (length c.args.state.now.next.items) (λ j h.
    (c.requires.can.told c.conflict_set-set.result c.conflict_set-set.ensures j
    (subst (λ (js : List ℕ). IsIn js j) c.numbers-numbers.ensures.members h)).job)
    in let long = ap length all in let seen = c.loop-index.invariant.1.seen in omega arith
