-- The placement of a beginning that words have in common.
--     HasRoomOf shop b               it has room for the words of an instance
--     IsBeginningOf shop l b         its path begins a word, and the rest is what that leaves
--     Begins w b                     the word w begins so
use Rattle.std.specs.Prelude.{◌≡◌, ℕ, ◌≤◌, List, length, take}
use Rattle.shop_model.specs.{Shop.{Shop, operation_count}, Word.placing}
use Rattle.shop_layout.specs.Positions.{LayoutState}
use Rattle.shop_states.specs.{declared.beginnings.Beginning.Beginning, inner.PlacedNexts.IsPlacedAt}

pub record HasRoomOf (shop : Shop) (b : Beginning) : Type 0 where
  pub entries : length b.path.items ≡ operation_count shop
  pub next_jobs : length b.next_legs.items ≡ length shop.jobs
  pub jobs_ready : length b.ready.items ≡ length shop.jobs
  pub machines_free : length b.free.items ≡ shop.machines

pub record IsBeginningOf (shop : Shop) (l : LayoutState) (b : Beginning) : Type 0 where
  pub room : length b.path.items ≡ operation_count shop
  pub within : b.len ≤ length b.path.items
  pub placed : IsPlacedAt shop (placing shop (take b.len b.path.items)) l b.next_legs.items b.ready.items b.free.items

pub record Begins (w : List ℕ) (b : Beginning) : Type 0 where
  pub within : b.len ≤ length w
  pub alike : take b.len w ≡ take b.len b.path.items
