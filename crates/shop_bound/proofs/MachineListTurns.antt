-- The lists of the machines' operations, and their room, as they are filled.
use Rattle.std.proofs.Common.{◌≡◌, ◌≢◌, ℕ, zero, suc, ◌+◌, ◌≤◌, ◌<◌, max, inl, inr, List, [], ◌∷◌, ◌++◌, length, ◌*◌}
use Rattle.std.proofs.Common.{length-take, drop, take, get_or, set, refl, sym, ◌∙◌, ap, arith, eqb, eq-eqb, cond}
use Rattle.std.proofs.{lemmas.Bool.{cases_eq, ne_eqb}, lemmas.List.{map-set, drop_all, append-nil, take_all}}
use Rattle.std.proofs.lemmas.List.{length-append, length-map, length-set, get_or-map, get_or-set_same, get_or-set_other}
use Rattle.std.proofs.lemmas.List.Sums.{sum_by-cons, sum_by-take-drop, sum_by-take-le, sum_by_more, sum_by-drop_more}
use Rattle.std.specs.{List.{flat_map, range_with_len, sum_by}, Prelude.{Vec, vec_capacity}}
use Rattle.std.specs.declared.alloc.Global.{Global}
use Rattle.shop_model.specs.{declared.ops.Op.Op, Limits.IsWithinLimits, Shop.{Shop, no_op, no_job, route_of}}
use Rattle.shop_model.specs.{Placements.{PlacementState, IsPlacement}, Word.Placing}
use Rattle.shop_bound.specs.{declared.triples.Triple.Triple, Bound.{waiting_from, waiting_of, triples_on}}
use Rattle.shop_bound.specs.{Heads.tail_in, inner.Unplaced.{unplaced_from, Adds}}
use Rattle.shop_bound.specs.inner.MachineLists.{visits, rows_in, rooms_in, HaveRoom, HaveRoomFor, KeepRoom}
use Rattle.shop_bound.proofs.UnplacedTurns.{first_on, first_off, added_on, added_off, job_listed}

-- whether an operation is on the machine, as a number
abbrev pub visit : ℕ → Op → ℕ
visit m o = cond {A = ℕ} (eqb o.machine m) 1 0

pub visit_on : (m : ℕ) (o : Op) → o.machine ≡ m → visit m o ≡ 1
visit_on m o e = grind (arith, eq-eqb)

pub visit_off : (m : ℕ) (o : Op) → o.machine ≢ m → visit m o ≡ 0
visit_off m o e = grind (arith, ne_eqb)

-- as many triples are listed as the machine is visited
pub length-triples : (m : ℕ) (free : ℕ → ℕ) (j k ready : ℕ) (os : List Op)
    → length (triples_on m (waiting_from free j k ready os)) ≡ visits m os
length-triples m free j k ready [] = refl
length-triples m free j k ready (o ∷ os) =
    let head = max ready (free o.machine)
    in let rest = length-triples m free j (k + 1) (head + o.time) os
    in let more = sum_by-cons (λ (p : Op). visit m p) o os
    in grind (arith, cases_eq, first_on, visit_on, first_off, visit_off)

-- a list of vectors, at one of which another stands
module _ (lists : List (Vec Triple Global)) (i : ℕ) (now new : Vec Triple Global) (here : i < length lists)
    (read : now ≡ get_or lists i now) where
  pub row_read : get_or (rows_in lists) i [] ≡ now.items
  row_read = get_or-map (λ v. v.items) lists i now [] here ∙ ap (λ v. v.items) (sym read)

  pub room_read : get_or (rooms_in lists) i 0 ≡ vec_capacity now
  room_read = get_or-map (λ v. vec_capacity v) lists i now 0 here ∙ ap (λ v. vec_capacity v) (sym read)

  pub row_written : get_or (rows_in (set lists i new)) i [] ≡ new.items
  row_written = get_or-map (λ v. v.items) (set lists i new) i new [] (omega (arith, length-set lists i new))
      ∙ ap (λ v. v.items) (get_or-set_same lists i new new here)

  pub room_written : get_or (rooms_in (set lists i new)) i 0 ≡ vec_capacity new
  room_written = get_or-map (λ v. vec_capacity v) (set lists i new) i new 0 (omega (arith, length-set lists i new))
      ∙ ap (λ v. vec_capacity v) (get_or-set_same lists i new new here)

  pub row_other : (m : ℕ) → m ≢ i → get_or (rows_in (set lists i new)) m [] ≡ get_or (rows_in lists) m []
  row_other m ne = grind (arith, map-set, get_or-set_other)

  pub keeps_room : vec_capacity now ≤ vec_capacity new → KeepRoom lists (set lists i new)
  keeps_room more m = grind (arith, cases_eq, room_read, room_written, map-set, get_or-set_other)

pub keep_room_both : (a b c : List (Vec Triple Global)) → KeepRoom a b → KeepRoom b c → KeepRoom a c
keep_room_both a b c first second m = let x = first m in let y = second m in omega arith

-- the first k operations of the rest of a route are added, and each list has room for the others
pub record AreAddedTo (old lists : List (Vec Triple Global)) (free : List ℕ) (first ready : ℕ) (rest : List Op) (k : ℕ)
    : Type 0 where
  pub long : length lists ≡ length old
  pub added : (m : ℕ) → m < length old → get_or (rows_in lists) m [] ++ unplaced_from m free ready (drop k rest)
      ≡ get_or (rows_in old) m [] ++ unplaced_from m free first rest
  pub room : HaveRoomFor lists (drop k rest)
  pub kept : KeepRoom old lists

module _ (rest : List Op) (k : ℕ) (below : k < length rest) where
  visits_more : (m : ℕ) → visits m (drop k rest) ≡ visit m (get_or rest k no_op) + visits m (drop (k + 1) rest)
  visits_more m = sum_by-drop_more (λ (p : Op). visit m p) rest k no_op below

  -- there is room for the next operation
  pub has_room : (lists : List (Vec Triple Global)) (i : ℕ) (now : Vec Triple Global) → HaveRoomFor lists (drop k rest)
      → i ≡ (get_or rest k no_op).machine → i < length lists → now ≡ get_or lists i now
      → length now.items < vec_capacity now
  has_room lists i now room on here read = grind (arith, visits_more, visit_on, row_read, room_read)

  -- and it is added
  pub one_added : (old lists : List (Vec Triple Global)) (free : List ℕ) (first ready head tail i : ℕ)
      (now new : Vec Triple Global)
      → AreAddedTo old lists free first ready rest k
      → i ≡ (get_or rest k no_op).machine → i < length lists → now ≡ get_or lists i now
      → head ≡ max ready (get_or free (get_or rest k no_op).machine 0) → tail ≡ tail_in rest k
      → new.items ≡ now.items ++ record { head = head; time = (get_or rest k no_op).time; tail = tail } ∷ []
      → vec_capacity now ≤ vec_capacity new
      → AreAddedTo old (set lists i new) free first (head + (get_or rest k no_op).time) rest (k + 1)
  one_added old lists free first ready head tail i now new before on here read is_head is_tail pushed more =
      let o = get_or rest k no_op
      in let added : List Triple = record { head = head; time = o.time; tail = tail } ∷ []
      in let row : get_or (rows_in (set lists i new)) i [] ≡ get_or (rows_in lists) i [] ++ added =
      row_written lists i now new here read ∙ (pushed ∙ ap (λ (ts : List Triple). ts ++ added)
      (sym (row_read lists i now new here read)))
      in record {
        long = length-set lists i new ∙ before.long;
        added = λ m known. elim (cases_eq o.machine m) [
          | inl e ↦ (let same : m ≡ i = sym (on ∙ e)
              in added_on m free ready rest k below (get_or (rows_in lists) m [])
              (get_or (rows_in (set lists i new)) m [])
              (get_or (rows_in old) m [] ++ unplaced_from m free first rest) head is_head (before.added m known) e tail
              is_tail (rw same row))
          | inr n ↦ added_off m free ready rest k below (get_or (rows_in lists) m [])
              (get_or (rows_in (set lists i new)) m [])
              (get_or (rows_in old) m [] ++ unplaced_from m free first rest) head is_head (before.added m known) n
              (row_other lists i now new here read m (λ e. n (sym on ∙ sym e)))
        ];
        room = λ m known.
            grind (arith, length-set, visits_more, cases_eq, visit_on, length-append, keeps_room, visit_off, row_other);
        kept = keep_room_both old lists (set lists i new) before.kept (keeps_room lists i now new here read more);
      }

-- the first k lists are emptied
pub record AreClearedTo (k : ℕ) (old lists : List (Vec Triple Global)) : Type 0 where
  pub long : length lists ≡ length old
  pub empty : (m : ℕ) → m < k → get_or (rows_in lists) m [] ≡ []
  pub kept : KeepRoom old lists

pub one_cleared : (old lists : List (Vec Triple Global)) (k : ℕ) (now new : Vec Triple Global)
    → AreClearedTo k old lists
    → k < length lists → now ≡ get_or lists k now → new.items ≡ [] → vec_capacity new ≡ vec_capacity now
    → AreClearedTo (k + 1) old (set lists k new)
one_cleared old lists k now new before here read emptied same = record {
  long = length-set lists k new ∙ before.long;
  empty = λ m below. grind (arith, cases_eq m k, row_written lists k now new here read, row_other);
  kept = keep_room_both old lists (set lists k new) before.kept (keeps_room lists k now new here read (omega arith));
}

-- how often the routes of the jobs before n come to machine m
abbrev pub visits_before : Shop → ℕ → ℕ → ℕ
visits_before shop m n = sum_by (λ job. visits m job.route) (take n shop.jobs)

-- what waits of the jobs before n is listed, and each machine's list has room for all of its operations
pub record HaveListed (shop : Shop) (s : PlacementState) (n : ℕ) (lists : List (Vec Triple Global)) : Type 0 where
  pub listed : (p : Placing) → IsPlacement shop p s → (m : ℕ) → m < shop.machines
      → get_or (rows_in lists) m [] ≡ triples_on m (flat_map (λ j. waiting_of shop p j) (range_with_len 0 n))
  pub few : (m : ℕ) → m < shop.machines → length (get_or (rows_in lists) m []) ≤ visits_before shop m n
  pub room : HaveRoom shop lists

pub keep_have_room : (shop : Shop) (old new : List (Vec Triple Global)) → HaveRoom shop old → KeepRoom old new
    → length new ≡ length old → HaveRoom shop new
keep_have_room shop old new before kept long = grind arith

module _ (shop : Shop) (s : PlacementState) (n : ℕ) (old : List (Vec Triple Global)) (before : HaveListed shop s n old)
    (job : n < length shop.jobs) where
  visits_of_rest : (m k : ℕ) (rest : List Op) → rest ≡ drop k (route_of shop n)
      → visits m rest ≤ visits m (route_of shop n)
  visits_of_rest m k rest e =
      grind (arith, sum_by-take-drop (λ (o : Op). visit m o) (route_of shop n) k, ap (λ (os : List Op). visits m os) e)

  visits_to_here : (m : ℕ) → visits_before shop m (n + 1) ≡ visits_before shop m n + visits m (route_of shop n)
  visits_to_here m = sum_by_more (λ j. visits m j.route) shop.jobs n no_job job

  -- there is room for one job more
  pub room_for_rest : (k : ℕ) (rest : List Op) → rest ≡ drop k (route_of shop n) → HaveRoomFor old rest
  room_for_rest k rest e m here = grind (arith, visits_of_rest m k rest e, visits_to_here m, sum_by-take-le)

  -- and it is listed
  pub one_listed : (new : List (Vec Triple Global)) (free : List ℕ) (ready k : ℕ) (rest : List Op)
      → rest ≡ drop k (route_of shop n)
      → ((m : ℕ) (p : Placing) → IsPlacement shop p s
      → unplaced_from m free ready rest ≡ triples_on m (waiting_of shop p n))
      → Adds (rows_in old) (rows_in new) free ready rest → KeepRoom old new → length new ≡ length old
      → HaveListed shop s (n + 1) new
  one_listed new free ready k rest e waits adds kept long =
      let machines = before.room.machines
      in record {
        listed = λ p is m known. job_listed m shop p n (get_or (rows_in old) m []) (get_or (rows_in new) m [])
            (unplaced_from m free ready rest) (before.listed p is m known) (waits m p is) (adds m (known_row m known));
        few = λ m known. grind (arith, visits_of_rest, visits_to_here, known_row, length-append, length-triples);
        room = keep_have_room shop old new before.room kept long;
      }
    where
      known_row : (m : ℕ) → m < shop.machines → m < length (rows_in old)
      known_row m known = let a = before.room.machines in omega (arith, length-map old (λ v. v.items))

pub visits-le : (m : ℕ) (os : List Op) → visits m os ≤ length os
visits-le m [] = omega arith
visits-le m (o ∷ os) = grind (arith, visits-le m os, sum_by-cons (λ (p : Op). visit m p) o os)

pub visits_few : (m : ℕ) (os : List Op) (k : ℕ) → visits m (take k os) ≤ k
visits_few m os k = let a = visits-le m (take k os) in omega (arith, length-take k os)

-- one operation more is counted
pub one_counted : (old counts : List ℕ) (route : List Op) (k : ℕ) → k < length route
    → ((m : ℕ) → m < length old → get_or counts m 0 ≡ get_or old m 0 + visits m (take k route))
    → (get_or route k no_op).machine < length counts
    → (m : ℕ) → m < length old
    → get_or (set counts (get_or route k no_op).machine (get_or counts (get_or route k no_op).machine 0 + 1)) m 0
    ≡ get_or old m 0 + visits m (take (k + 1) route)
one_counted old counts route k below before here m known =
    grind (arith, sum_by_more, cases_eq, visit_on, get_or-set_same, visit_off, get_or-set_other)

pub visits_small : (shop : Shop) → IsWithinLimits shop → (m n : ℕ) → n ≤ length shop.jobs
    → visits_before shop m n ≤ n * 100
visits_small shop limits m zero below = omega arith
visits_small shop limits m (suc n) below =
    let rest = visits_small shop limits m n (omega arith)
    in let more = sum_by_more (λ j. visits m j.route) shop.jobs n no_job (omega arith)
    in let few = visits-le m (route_of shop n) in let short = limits.routes n
    in let e : n + 1 ≡ suc n = omega arith
    in let same = ap (λ (k : ℕ). visits_before shop m k) e in omega arith

-- the counts of one job more, as they are written back
pub job_counted : (shop : Shop) (n : ℕ) → n < length shop.jobs → (route : List Op) → route ≡ route_of shop n
    → (counts : Vec ℕ Global) (given new : List ℕ) → given ≡ counts.items → length new ≡ length given
    → length counts.items ≡ shop.machines
    → ((m : ℕ) → m < shop.machines → get_or counts.items m 0 ≡ visits_before shop m n)
    → ((m : ℕ) → m < length given → get_or new m 0 ≡ get_or given m 0 + visits m route)
    → (m : ℕ) → m < shop.machines → get_or new m 0 ≡ visits_before shop m (n + 1)
job_counted shop n job route is counts given new same long machines before adds m known = grind (arith, sum_by_more)

-- a vector after a slice of all of it was written
pub written_vec : {A : Type 0} (v : Vec A Global) (given new : List A) → given ≡ v.items → length new ≡ length given
    → take v.len (new ++ drop (length new) v.items) ≡ new
written_vec v given new e long = grind (arith, drop_all, append-nil, take_all)
