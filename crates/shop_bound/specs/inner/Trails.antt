-- What a desk keeps of what is dispatched.
use Rattle.std.specs.Prelude.{◌≡◌, ℕ, ◌≤◌, List, [], ◌∷◌, vec_capacity}
use Rattle.shop_model.specs.{Limits.IsWithinLimits, Placements.IsPlacement, Shop.{Shop, machine_of, operation_count}}
use Rattle.shop_model.specs.Word.{IsWord, Placing, none_placed, place_next, placing}
use Rattle.shop_bound.specs.{declared.desks.Replaced.Replaced, declared.desks.Desk.TheInside.Inside}
use Rattle.shop_bound.specs.inner.BoundRooms.{IsRoomFor}

-- when j and the machine of its next step are ready
pub record IsReplaced (shop : Shop) (p : Placing) (j : ℕ) (r : Replaced) : Type 0 where
  pub ready : r.ready ≡ p.ready j
  pub free : r.free ≡ p.free (machine_of shop j (p.steps j))

-- what each of these jobs replaced when it was dispatched, from p on
abbrev pub AreReplaced : Shop → Placing → List ℕ → List Replaced → Type 0
AreReplaced shop p [] [] = Unit {0}
AreReplaced shop p [] (r ∷ rs) = ⊥
AreReplaced shop p (j ∷ js) [] = ⊥
AreReplaced shop p (j ∷ js) (r ∷ rs) = IsReplaced shop p j r × AreReplaced shop (place_next shop p j) js rs

pub record IsDesk (d : Inside) : Type 0 where
  pub limits : IsWithinLimits d.instance.now
  pub word : IsWord d.instance.now d.jobs.items
  pub placed : IsPlacement d.instance.now (placing d.instance.now d.jobs.items) d.placement
  pub replaced : AreReplaced d.instance.now (none_placed d.instance.now) d.jobs.items d.replaced.items
  pub jobs_room : operation_count d.instance.now ≤ vec_capacity d.jobs
  pub replaced_room : operation_count d.instance.now ≤ vec_capacity d.replaced
  pub room : IsRoomFor d.instance.now d.room
