-- What a word leaves, by next legs: their indices, and when jobs are ready and machines free.
--     IsPlacedAt shop p l legs ..    next legs and times are those of placing p
--     IsWordAt shop l legs ..        next legs and times are those of some word
use Rattle.std.specs.{Prelude.{◌≡◌, ℕ, ◌<◌, List, length, slice_index}}
use Rattle.shop_model.specs.{Shop.Shop, Word.{Placing, IsWord, placing}}
use Rattle.shop_layout.specs.{Legs.leg_index, Positions.LayoutState}

pub record IsPlacedAt (shop : Shop) (p : Placing) (l : LayoutState) (legs ready free : List ℕ) : Type 0 where
  pub next_jobs : length legs ≡ length shop.jobs
  pub jobs : length ready ≡ length shop.jobs
  pub machines : length free ≡ shop.machines
  pub next_at : (j : ℕ) → j < length shop.jobs → slice_index legs j ≡ leg_index l j (p.steps j)
  pub ready_at : (j : ℕ) → j < length shop.jobs → slice_index ready j ≡ p.ready j
  pub free_at : (m : ℕ) → m < shop.machines → slice_index free m ≡ p.free m

pub record IsWordAt (shop : Shop) (l : LayoutState) (legs ready free : List ℕ) : Type 0 where
  pub word : List ℕ
  pub fits : IsWord shop word
  pub placed : IsPlacedAt shop (placing shop word) l legs ready free
