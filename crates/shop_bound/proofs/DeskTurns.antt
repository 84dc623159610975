-- What a desk's trail says after one more dispatch, and without the last one.
use Rattle.std.proofs.Common.{rules, ◌≡◌, ℕ, ◌≤◌, List, [], ◌∷◌, ◌++◌, length, get_or, refl, arith, vec_capacity}
use Rattle.std.specs.List.{fold}
use Rattle.shop_model.specs.{declared.ops.Op.Op, Shop.{Shop, no_op, route_of}, Placements.{PlacesNext, TakesBack}}
use Rattle.shop_model.{specs.Word.{IsWord, Placing, none_placed, place_next, placing}, proofs.WordLemmas.IsWord-init}
use Rattle.shop_model.proofs.{PlacementLemmas.{IsAboutToPlace, about_to_place}, Unders.placing-snoc}
use Rattle.shop_bound.specs.{declared.desks.Desk.TheInside.Inside, declared.desks.Replaced.Replaced}
use Rattle.shop_bound.specs.inner.Trails.{IsReplaced, AreReplaced, IsDesk}

-- one more job, and what it replaced
pub replaced_more : (shop : Shop) (p : Placing) (js : List ℕ) (rs : List Replaced) (j : ℕ) (r : Replaced)
    → AreReplaced shop p js rs → IsReplaced shop (fold (place_next shop) p js) j r
    → AreReplaced shop p (js ++ j ∷ []) (rs ++ r ∷ [])
replaced_more shop p [] [] j r are is = (is, tt)
replaced_more shop p [] (s ∷ rs) j r are is = absurd are
replaced_more shop p (i ∷ js) [] j r are is = absurd are
replaced_more shop p (i ∷ js) (s ∷ rs) j r are is = (are.0, replaced_more shop (place_next shop p i) js rs j r are.1 is)

-- without the last job, and what that replaced
pub replaced_less : (shop : Shop) (p : Placing) (js : List ℕ) (rs : List Replaced) (j : ℕ) (r : Replaced)
    → AreReplaced shop p (js ++ j ∷ []) (rs ++ r ∷ [])
    → AreReplaced shop p js rs × IsReplaced shop (fold (place_next shop) p js) j r
replaced_less shop p [] [] j r are = (tt, are.0)
replaced_less shop p [] (s ∷ []) j r are = absurd are.1
replaced_less shop p [] (s ∷ t ∷ rs) j r are = absurd are.1
replaced_less shop p (i ∷ []) [] j r are = absurd are.1
replaced_less shop p (i ∷ k ∷ js) [] j r are = absurd are.1
replaced_less shop p (i ∷ js) (s ∷ rs) j r are = grind (arith, replaced_less shop (place_next shop p i) js rs j r are.1)

-- as many of them as jobs
pub replaced_many : (shop : Shop) (p : Placing) (js : List ℕ) (rs : List Replaced) → AreReplaced shop p js rs
    → length rs ≡ length js
replaced_many shop p [] [] are = refl
replaced_many shop p [] (s ∷ rs) are = absurd are
replaced_many shop p (i ∷ js) [] are = absurd are
replaced_many shop p (i ∷ js) (s ∷ rs) are = grind (arith, replaced_many shop (place_next shop p i) js rs are.1)

-- what is dispatched, and the next step of a job that can be
pub can_dispatch : (d : Inside) (j : ℕ) → IsDesk d → IsWord d.instance.now (d.jobs.items ++ j ∷ [])
    → IsAboutToPlace d.instance.now j d.placement
can_dispatch d j is fits = search (rules, about_to_place)

-- when its job and its machine are ready
pub replaced_is : (d : Inside) (j : ℕ) → IsDesk d → IsWord d.instance.now (d.jobs.items ++ j ∷ [])
    → (route : List Op) → route ≡ route_of d.instance.now j → (k : ℕ) → k ≡ get_or d.placement.steps j 0
    → (ready : ℕ) → ready ≡ get_or d.placement.ready j 0
    → (free : ℕ) → free ≡ get_or d.placement.free (get_or route k no_op).machine 0
    → IsReplaced d.instance.now (placing d.instance.now d.jobs.items) j (record { ready = ready; free = free })
replaced_is d j is fits route whole k step ready is_ready free is_free = grind (arith, can_dispatch)

-- one more job is dispatched
pub dispatched : (d : Inside) (j : ℕ) → IsDesk d → IsWord d.instance.now (d.jobs.items ++ j ∷ []) → (e : Inside)
    → e.instance.now ≡ d.instance.now → e.jobs.items ≡ d.jobs.items ++ j ∷ [] → (r : Replaced)
    → e.replaced.items ≡ d.replaced.items ++ r ∷ []
    → IsReplaced d.instance.now (placing d.instance.now d.jobs.items) j r
    → PlacesNext d.instance.now j d.placement e.placement → vec_capacity d.jobs ≤ vec_capacity e.jobs
    → vec_capacity d.replaced ≤ vec_capacity e.replaced → e.room ≡ d.room → IsDesk e
dispatched d j is fits e shop jobs r more replaced places jobs_room replaced_room room =
    let s = d.instance.now in let a = is.jobs_room in let b = is.replaced_room
    in rw shop (record {
      limits = is.limits;
      word = rw jobs fits;
      placed = rw (jobs, placing-snoc s d.jobs.items j) (places (placing s d.jobs.items) is.placed);
      replaced = grind (arith, replaced_more);
      jobs_room = omega arith;
      replaced_room = omega arith;
      room = rw room is.room;
    })

-- the last is taken back
pub taken : (d : Inside) → IsDesk d → (e : Inside) → e.instance.now ≡ d.instance.now → (j : ℕ)
    → d.jobs.items ≡ e.jobs.items ++ j ∷ [] → (r : Replaced) → d.replaced.items ≡ e.replaced.items ++ r ∷ []
    → TakesBack d.instance.now j r.ready r.free d.placement e.placement → vec_capacity e.jobs ≡ vec_capacity d.jobs
    → vec_capacity e.replaced ≡ vec_capacity d.replaced → e.room ≡ d.room → IsDesk e
taken d is e shop j jobs r more back jobs_room replaced_room room =
    let s = d.instance.now in let a = is.jobs_room in let b = is.replaced_room
    in let word = rw jobs at is.word
    in let were = rw (jobs, more) at is.replaced
    in let less = replaced_less s (none_placed s) e.jobs.items e.replaced.items j r were
    in let placed = rw (jobs, placing-snoc s e.jobs.items j) at is.placed
    in rw shop (record {
      limits = is.limits;
      word = IsWord-init s e.jobs.items j word;
      placed = back (placing s e.jobs.items) placed less.1.ready less.1.free;
      replaced = less.0;
      jobs_room = omega arith;
      replaced_room = omega arith;
      room = rw room is.room;
    })
