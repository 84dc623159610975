-- Lists of operations, one for each machine, and their room.
--     visits m route                 how often a route comes to machine m
--     visits_in shop m               how often all routes come to machine m
--     AreVisits shop counts          a number for each machine: how often all routes come to it
--     rows_in lists, rooms_in lists  what stands in each list, and for how many it has room
--     HaveRoom shop lists            each machine has a list, with room for all of its operations
--     HaveRoomFor lists rest         each list has room for the operations of this rest of a route
--     KeepRoom old new               no list has less room than before
use Rattle.std.specs.Prelude.{◌≡◌, ℕ, ◌+◌, ◌≤◌, ◌<◌, ◌==◌, cond, List, [], length, map, sum_by, slice_index_or, Vec}
use Rattle.std.specs.{Prelude.vec_capacity, declared.alloc.Global.Global}
use Rattle.shop_model.specs.{declared.ops.Op.Op, Shop.Shop}
use Rattle.shop_bound.specs.declared.triples.Triple.{Triple}

abbrev pub visits : ℕ → List Op → ℕ
visits m route = sum_by (λ o. cond {A = ℕ} (o.machine == m) 1 0) route

abbrev pub visits_in : Shop → ℕ → ℕ
visits_in shop m = sum_by (λ job. visits m job.route) shop.jobs

pub record AreVisits (shop : Shop) (counts : List ℕ) : Type 0 where
  pub machines : length counts ≡ shop.machines
  pub visits : (m : ℕ) → m < shop.machines → slice_index_or counts m 0 ≡ visits_in shop m

abbrev pub rows_in : List (Vec Triple Global) → List (List Triple)
rows_in lists = map (λ v. v.items) lists

abbrev pub rooms_in : List (Vec Triple Global) → List ℕ
rooms_in lists = map (λ v. vec_capacity v) lists

pub record HaveRoom (shop : Shop) (lists : List (Vec Triple Global)) : Type 0 where
  pub machines : length lists ≡ shop.machines
  pub room : (m : ℕ) → m < shop.machines → visits_in shop m ≤ slice_index_or (rooms_in lists) m 0

abbrev pub HaveRoomFor : List (Vec Triple Global) → List Op → Type 0
HaveRoomFor lists rest = (m : ℕ) → m < length lists
    → length (slice_index_or (rows_in lists) m []) + visits m rest ≤ slice_index_or (rooms_in lists) m 0

abbrev pub KeepRoom : List (Vec Triple Global) → List (Vec Triple Global) → Type 0
KeepRoom old new = (m : ℕ) → slice_index_or (rooms_in old) m 0 ≤ slice_index_or (rooms_in new) m 0
