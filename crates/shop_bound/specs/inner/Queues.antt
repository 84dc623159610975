-- The operations that are not done, by index.
--     IsQueue ws clock q             each operation that is not done is to come or released, once;
--                                    the latter by the clock
--     IsNextRelease cs head          `head` is the least head to come; none where none is to come
--     IsFirst hs i                   i is served next of the released ones; none where there are none
use Rattle.std.specs.Prelude.{◌≡◌, ℕ, ◌+◌, ◌<◌, ◌≤◌, ◌⊎◌, ◌==◌, true, cond, Option, Some, None, List, ◌∷◌, length}
use Rattle.std.specs.Prelude.{sum_by, slice_index_or, All, IsPermutation}
use Rattle.std.specs.BinaryHeap.{heap_items, heap_len, heap_capacity}
use Rattle.shop_bound.specs.{declared.queues.{Queue.Queue, Work.Work}, inner.HeapOrders.{Coming, Released}}
use Rattle.shop_bound.specs.inner.Serving.{work_at, undone_of}

-- the index of an operation to come, and of one that is released
abbrev pub coming_index : Coming → ℕ
coming_index c = c.1

abbrev pub released_index : Released → ℕ
released_index h = h.1.0

-- how often index k stands in a list
unfoldable pub times : {A : Type 0} → (A → ℕ) → ℕ → List A → ℕ
times {A} index k xs = sum_by (λ (x : A). cond {A = ℕ} (index x == k) 1 0) xs

pub record IsToCome (ws : List Work) (c : Coming) : Type 0 where
  pub here : c.1 < length ws
  pub head : c.0.0 ≡ (work_at ws c.1).triple.head

pub record IsReleased (ws : List Work) (clock : ℕ) (h : Released) : Type 0 where
  pub here : h.1.0 < length ws
  pub tail : h.0 ≡ (work_at ws h.1.0).triple.tail
  pub released : (work_at ws h.1.0).triple.head ≤ clock

pub record AreQueued (ws : List Work) (clock : ℕ) (cs : List Coming) (hs : List Released) : Type 0 where
  pub coming : All (IsToCome ws) cs
  pub released : All (IsReleased ws clock) hs
  pub once : (k : ℕ) → k < length ws → times coming_index k cs + times released_index k hs ≡ undone_of (work_at ws k)
  pub passed : (k : ℕ) → k < length ws → (work_at ws k).done ≡ true → (work_at ws k).triple.head ≤ clock

-- IsQueue, with room for all operations to be released
pub record IsQueue (ws : List Work) (clock : ℕ) (q : Queue) : Type 0 where
  pub are : AreQueued ws clock (heap_items q.coming) (heap_items q.released)
  pub room : heap_len q.released + heap_len q.coming ≤ heap_capacity q.released

-- all operations to come are released after the clock
abbrev pub ComeLater : ℕ → List Coming → Type 0
ComeLater clock cs = All (λ c. clock < c.0.0) cs

-- c is on top, and no head is less than c's
pub record IsNext (cs : List Coming) (head : ℕ) (c : Coming) : Type 0 where
  pub some : 0 < length cs
  pub top : c ≡ slice_index_or cs 0 c
  pub is : c.0.0 ≡ head
  pub least : All (λ d. head ≤ d.0.0) cs

abbrev pub IsNextRelease : List Coming → Option ℕ → Type 0
IsNextRelease cs None = length cs ≡ 0
IsNextRelease cs (Some head) = (c : Coming) × IsNext cs head c

-- h has less tail than w, or equal tail and no lower index
abbrev pub IsBehind : Released → Released → Type 0
IsBehind first h = (h.0 < first.0) ⊎ ((h.0 ≡ first.0) × (first.1.0 ≤ h.1.0))

pub record IsServedFirst (hs : List Released) (i : ℕ) (h : Released) : Type 0 where
  pub some : 0 < length hs
  pub top : h ≡ slice_index_or hs 0 h
  pub is : h.1.0 ≡ i
  pub behind : All (IsBehind h) hs

abbrev pub IsFirst : List Released → Option ℕ → Type 0
IsFirst hs None = length hs ≡ 0
IsFirst hs (Some i) = (h : Released) × IsServedFirst hs i h

-- the rest of the heap without its top
abbrev pub IsWithoutFirst : List Released → List Released → Type 0
IsWithoutFirst hs rest = (h : Released) → h ≡ slice_index_or hs 0 h → IsPermutation hs (h ∷ rest)

-- the operation that is taken out is released by the clock; none where all come later
abbrev pub TakesReleased : ℕ → List Coming → List Coming → Option ℕ → Type 0
TakesReleased clock cs rest None = (rest ≡ cs) × ComeLater clock cs
TakesReleased clock cs rest (Some k) = (c : Coming) × IsPermutation cs (c ∷ rest) × (c.0.0 ≤ clock) × (c.1 ≡ k)

-- both heaps have room for n operations
pub record HasRoom (n : ℕ) (q : Queue) : Type 0 where
  pub coming : n ≤ heap_capacity q.coming
  pub released : n ≤ heap_capacity q.released

pub record KeepsRoom (old new : Queue) : Type 0 where
  pub coming : heap_capacity old.coming ≤ heap_capacity new.coming
  pub released : heap_capacity old.released ≤ heap_capacity new.released
