-- A beginning that goes on along a word.
use Rattle.std.proofs.{Common.{◌≡◌, ℕ, ◌≤◌, List, length, take, arith}, lemmas.List.with_items_is}
use Rattle.std.specs.Vec.{with_items}
use Rattle.shop_model.specs.{Shop.{Shop, operation_count}, Word.placing}
use Rattle.shop_layout.specs.Positions.{LayoutState}
use Rattle.shop_states.specs.{declared.beginnings.Beginning.Beginning, inner.Beginnings.IsBeginningOf}
use Rattle.shop_states.specs.inner.PlacedNexts.{IsPlacedAt}

pub gone_on : (shop : Shop) (l : LayoutState) (b : Beginning) → IsBeginningOf shop l b → (w row : List ℕ) (n : ℕ)
    → n ≤ operation_count shop → length row ≡ length b.path.items → take n row ≡ take n w
    → (nexts ready free : List ℕ) → IsPlacedAt shop (placing shop (take n w)) l nexts ready free
    → IsBeginningOf shop l (record {
      path = with_items b.path row;
      len = n;
      next_legs = with_items b.next_legs nexts;
      ready = with_items b.ready ready;
      free = with_items b.free free;
    })
gone_on shop l b is w row n fits long same nexts ready free at = grind (arith, with_items_is)
