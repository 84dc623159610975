-- What a turn of a schedule does to the operations that are not done.
use Rattle.std.proofs.Common.{rules, ◌≡◌, ◌≢◌, ℕ, zero, suc, ◌+◌, ◌≤◌, ◌<◌, min, inl, inr, true, false, cond, ◌==◌}
use Rattle.std.proofs.Common.{List, [], ◌∷◌, length, get_or, map, Option, Some, None, refl, sym, ◌∙◌, ap, subst, arith}
use Rattle.std.proofs.{Common.eq-eqb, Math.ListN.set, lemmas.Bool.{cases_Bool, cases_lt, cases_eq, ne_eqb, true≢false}}
use Rattle.std.proofs.lemmas.List.{get_or-set_same, get_or-set_other, length-set, length-map, Elements.All-cons}
use Rattle.std.proofs.lemmas.List.{Elements.{All-head, All-tail}, Sums.sum_by-cons, Sorted.All-permutation}
use Rattle.std.{proofs.lemmas.List.Sorted.sum_by-IsPermutation, specs.BinaryHeap.{heap_items, heap_len, heap_capacity}}
use Rattle.std.specs.{List.All, Prelude.IsPermutation, Option.{is_some, unwrap_or}}
use Rattle.shop_bound.specs.{declared.triples.Triple.Triple, declared.queues.Work.Work, inner.Thresholds.no_triple}
use Rattle.shop_bound.specs.inner.Serving.{work_at, fresh, undone_of, IsServable, IsServed, IsStop, IsReady}
use Rattle.shop_bound.specs.{inner.HeapOrders.{Coming, Released}, inner.Queues.KeepsRoom, declared.queues.Queue.Queue}
use Rattle.shop_bound.specs.inner.Queues.{coming_index, released_index, times, IsToCome, IsReleased, AreQueued}
use Rattle.shop_bound.specs.inner.Queues.{ComeLater, IsNextRelease, IsBehind, IsFirst, TakesReleased, IsQueue}
use Rattle.shop_bound.specs.inner.Queues.{IsWithoutFirst}
use Rattle.shop_bound.proofs.{TurnCounts.undone_of-one, WorkSums.{triple_at, fresh-undone}}

-- how often an index stands in a list
module _ {A : Type 0} (index : A → ℕ) where
  pub times-none : (k : ℕ) (xs : List A) → length xs ≡ 0 → times index k xs ≡ 0
  unfolding times
  times-none k [] none = refl
  times-none k (x ∷ xs) none = absurd (omega arith)

  pub times-here : (k : ℕ) (x : A) (xs : List A) → index x ≡ k → times index k (x ∷ xs) ≡ times index k xs + 1
  unfolding times
  times-here k x xs e =
      let a = sum_by-cons (λ (y : A). cond {A = ℕ} (index y == k) 1 0) x xs
      in let b : cond {A = ℕ} (index x == k) 1 0 ≡ 1 = rw (eq-eqb (index x) k e) refl in omega arith

  pub times-other : (k : ℕ) (x : A) (xs : List A) → index x ≢ k → times index k (x ∷ xs) ≡ times index k xs
  unfolding times
  times-other k x xs ne = grind (arith, sum_by-cons, ne_eqb)

  pub times-permutation : (k : ℕ) (xs ys : List A) → IsPermutation xs ys → times index k ys ≡ times index k xs
  unfolding times
  times-permutation k xs ys p = sum_by-IsPermutation (λ (y : A). cond {A = ℕ} (index y == k) 1 0) xs ys p

  -- one that stands there, and what holds of all holds of it
  pub some_time : (P : A → Type 0) (k : ℕ) (xs : List A) → All P xs → 0 < times index k xs
      → (x : A) × (index x ≡ k) × P x
  some_time P k [] all some = absurd (let z = times-none k [] refl in omega arith)
  some_time P k (x ∷ xs) all some = elim (cases_eq (index x) k) [
    | inl e ↦ (x, e, All-head P x xs all)
    | inr ne ↦ (let a = times-other k x xs ne in some_time P k xs (All-tail P x xs all) (omega arith))
  ]

  pub times-top : (k : ℕ) (xs : List A) (x : A) → 0 < length xs → x ≡ get_or xs 0 x → index x ≡ k
      → 0 < times index k xs
  times-top k [] x some top e = absurd (omega arith)
  times-top k (y ∷ ys) x some top e = grind (arith, times-here)

  pub all-top : (P : A → Type 0) (xs : List A) (x : A) → 0 < length xs → x ≡ get_or xs 0 x → All P xs → P x
  all-top P xs x some top all = subst P (sym top) (all 0 x some)

-- how many of an operation that is done, and of one that isn't
count_done : (w : Work) → w.done ≡ true → undone_of w ≡ 0
count_done w d = rw d refl

count_undone : (w : Work) → w.done ≡ false → undone_of w ≡ 1
count_undone w d = rw d refl

undone_since : (w : Work) → 0 < undone_of w → w.done ≡ false
undone_since w some = grind arith

module _ (ws : List Work) (clock : ℕ) (cs : List Coming) (hs : List Released) (q : AreQueued ws clock cs hs) where
  -- one that is not done and isn't to come is released
  is_released : (k : ℕ) → k < length ws → (work_at ws k).done ≡ false → times coming_index k cs ≡ 0
      → (P : Released → Type 0) → All P hs → (h : Released) × (released_index h ≡ k) × (IsReleased ws clock h × P h)
  is_released k here undone none P all =
      let o = q.once k here in let u = count_undone (work_at ws k) undone
      in some_time released_index (λ h. IsReleased ws clock h × P h) k hs (λ i d l. (q.released i d l, all i d l))
      (omega arith)

  -- one that is not done and isn't released is to come
  to_come : (k : ℕ) → k < length ws → (work_at ws k).done ≡ false → times released_index k hs ≡ 0
      → (P : Coming → Type 0) → All P cs → (c : Coming) × (coming_index c ≡ k) × (IsToCome ws c × P c)
  to_come k here undone none P all =
      let o = q.once k here in let u = count_undone (work_at ws k) undone
      in some_time coming_index (λ c. IsToCome ws c × P c) k cs (λ i d l. (q.coming i d l, all i d l))
      (omega arith)

  -- what comes after the clock isn't among the released, and is not done
  not_released : (k : ℕ) → clock < (work_at ws k).triple.head → times released_index k hs ≡ 0
  not_released k late = elim (cases_lt 0 (times released_index k hs)) [
    | inl some ↦ absurd (let s = some_time released_index (IsReleased ws clock) k hs q.released some
        in let e = ap (λ (j : ℕ). (work_at ws j).triple.head) s.1
        in let r = s.2.released in omega arith)
    | inr none ↦ omega arith
  ]

  not_done : (k : ℕ) → k < length ws → clock < (work_at ws k).triple.head → (work_at ws k).done ≡ false
  not_done k here late = grind (arith, cases_Bool)

  module _ (later : ComeLater clock cs) where
    -- what is released isn't to come
    not_coming : (k : ℕ) → (work_at ws k).triple.head ≤ clock → times coming_index k cs ≡ 0
    not_coming k released = elim (cases_lt 0 (times coming_index k cs)) [
      | inl some ↦ absurd (let s = some_time coming_index (λ c. IsToCome ws c × (clock < c.0.0)) k cs
          (λ i d l. (q.coming i d l, later i d l)) some
          in let e = ap (λ (j : ℕ). (work_at ws j).triple.head) s.1
          in let h = s.2.0.head in let l = s.2.1 in omega arith)
      | inr none ↦ omega arith
    ]

    -- the first of the released ones is served
    pub first_served : (i : ℕ) → IsFirst hs (Some i) → IsServed (length ws) ws clock i
    first_served i (h, f) =
        let a = all-top released_index (IsReleased ws clock) hs h f.some f.top q.released
        in let e = f.is
        in let here : i < length ws = subst (λ (j : ℕ). j < length ws) e a.here
        in let tail : h.0 ≡ (work_at ws i).triple.tail =
        subst (λ (j : ℕ). h.0 ≡ (work_at ws j).triple.tail) e a.tail
        in record {
          seen = here;
          undone = grind (arith, times-top, undone_since);
          released = subst (λ (j : ℕ). (work_at ws j).triple.head ≤ clock) e a.released;
          greatest = λ k seen undone released.
              grind (arith, is_released k seen undone (not_coming k released) (IsBehind h) f.behind);
          lowest = λ k before undone released.
              grind (arith, is_released k (omega arith) undone (not_coming k released) (IsBehind h) f.behind);
        }

    -- where the heap of the released is empty, none is released that is not done
    pub none_released : IsFirst hs None → (k : ℕ) → IsServable ws clock k → ⊥
    none_released none k w = grind (arith, is_released, not_coming, times-none, count_undone)

    -- what is ready
    pub ready_now : (r : Option ℕ) → IsFirst hs r → is_some r ≡ true → IsReady ws clock clock
    ready_now None first some = absurd (true≢false (sym some))
    ready_now (Some i) first some = grind (arith, first_served)

    pub ready_later : IsFirst hs None → (head : ℕ) → IsNextRelease cs (Some head) → IsReady ws clock head
    ready_later none head (c, n) = inr (inl (record {
      later = (let l = all-top coming_index (λ d. clock < d.0.0) cs c n.some n.top later
          in let e = n.is in omega arith);
      least = λ k here undone. (let s = to_come k here undone (times-none released_index k hs none) (λ d. head ≤ d.0.0)
          n.least
          in let h = s.2.0.head in let l = s.2.1
          in let e = ap (λ (j : ℕ). (work_at ws j).triple.head) s.1 in omega arith);
      reason = grind (arith, all-top, times-top, undone_since);
    }))

    pub ready_done : IsFirst hs None → IsNextRelease cs None → IsReady ws clock clock
    ready_done none over = grind (arith, times-none)

    -- when a turn stops
    pub stops : (r : Option ℕ) (end stop : ℕ) → IsNextRelease cs r → clock ≤ end
        → stop ≡ min (unwrap_or r end) end → IsStop (length ws) ws clock end stop
    stops None end stop over after e = grind (arith, count_undone, not_done, not_released, times-none)
    stops (Some head) end stop (c, n) after e =
        let a = all-top coming_index (IsToCome ws) cs c n.some n.top q.coming
        in let l = all-top coming_index (λ d. clock < d.0.0) cs c n.some n.top later
        in let i = n.is in let h = a.head
        in record {
          later = omega arith;
          by_end = omega arith;
          by_release = λ k here late. (let s = to_come k here (not_done k here late) (not_released k late)
              (λ d. head ≤ d.0.0) n.least
              in let g = s.2.0.head in let m = s.2.1
              in let t = ap (λ (j : ℕ). (work_at ws j).triple.head) s.1 in omega arith);
          reason = grind (arith, cases_lt end head);
        }

pub stop_is : {ws : List Work} {clock : ℕ} {q : Queue} → IsQueue ws clock q → ComeLater clock (heap_items q.coming)
    → (r : Option ℕ) → IsNextRelease (heap_items q.coming) r → {end next stop : ℕ} → next ≡ unwrap_or r end
    → stop ≡ min next end → clock ≤ end → IsStop (length ws) ws clock end stop
stop_is {ws} {clock} {q} is later r release {end} {next} {stop} e f after =
    stops ws clock _ _ is.are later r end stop release after (f ∙ ap (λ n. min n end) e)

pub first_none : (hs : List Released) (r : Option ℕ) → IsFirst hs r → is_some r ≡ false → IsFirst hs None
first_none hs None first none = first
first_none hs (Some i) first none = absurd (true≢false none)

-- one that is released is an operation of the list
pub taken_here : (ws : List Work) (clock : ℕ) (cs rest : List Coming) (hs : List Released) (k : ℕ)
    → AreQueued ws clock cs hs → TakesReleased clock cs rest (Some k) → k < length ws
taken_here ws clock cs rest hs k q t = subst (λ (j : ℕ). j < length ws) t.3
    (All-head (IsToCome ws) t.0 rest (All-permutation (IsToCome ws) cs (t.0 ∷ rest) t.1 q.coming)).here

-- a later clock, and a work that is served
pub queued_later : (ws : List Work) (clock later : ℕ) (cs : List Coming) (hs : List Released)
    → AreQueued ws clock cs hs → clock ≤ later → AreQueued ws later cs hs
queued_later ws clock later cs hs q more = grind arith

module _ (ws : List Work) (i : ℕ) (v : Work) (lt : i < length ws) (same : v.triple ≡ (work_at ws i).triple) where
  set_coming : (c : Coming) → IsToCome ws c → IsToCome (set ws i v) c
  set_coming c a = grind (arith, length-set, triple_at)

  set_released : (clock : ℕ) (h : Released) → IsReleased ws clock h → IsReleased (set ws i v) clock h
  set_released clock h a = grind (arith, triple_at, length-set)

  -- an operation that is held back
  pub queued_held : (clock : ℕ) (cs : List Coming) (hs : List Released) → AreQueued ws clock cs hs
      → v.done ≡ (work_at ws i).done → AreQueued (set ws i v) clock cs hs
  queued_held clock cs hs q done =
      grind (arith, set_coming, set_released, length-set, triple_at, cases_eq, get_or-set_same, get_or-set_other)

  -- the first, once it has ended
  pub queued_done : (clock : ℕ) (cs : List Coming) (hs rest : List Released) → AreQueued ws clock cs hs
      → v.done ≡ true → (work_at ws i).triple.head ≤ clock → (h : Released) → released_index h ≡ i
      → IsPermutation hs (h ∷ rest) → AreQueued (set ws i v) clock cs rest
  queued_done clock cs hs rest q done released h is p = record {
    coming = λ j d l. set_coming (get_or cs j d) (q.coming j d l);
    released = λ j d l. set_released clock (get_or rest j d)
        (All-tail (IsReleased ws clock) h rest (All-permutation (IsReleased ws clock) hs (h ∷ rest) p q.released)
        j d l);
    once = λ k here. once_after k (omega (arith, length-set ws i v));
    passed = λ k here was. passed_after k (omega (arith, length-set ws i v)) was;
  } where
    once_after : (k : ℕ) → k < length ws
        → times coming_index k cs + times released_index k rest ≡ undone_of (work_at (set ws i v) k)
    once_after k here =
        let o = q.once k here in let m = times-permutation released_index k hs (h ∷ rest) p
        in elim (cases_eq k i) [
          | inl e ↦ grind (arith, times-here, get_or-set_same, count_done, undone_of-one)
          | inr ne ↦ grind (arith, times-other, get_or-set_other)
        ]

    passed_after : (k : ℕ) → k < length ws → (work_at (set ws i v) k).done ≡ true
        → (work_at (set ws i v) k).triple.head ≤ clock
    passed_after k here was = grind (arith, triple_at, cases_eq, get_or-set_other)

-- a turn that is held back, and one that ends, for the whole queue
pub queue_held : (ws : List Work) (clock i stop : ℕ) (v : Work) (q : Queue) → IsQueue ws clock q
    → IsServed (length ws) ws clock i → v.triple ≡ (work_at ws i).triple → v.done ≡ false → clock ≤ stop
    → IsQueue (set ws i v) stop q
queue_held ws clock i stop v q is s same done later = search (rules, queued_held, queued_later)

pub queue_done : (ws : List Work) (clock i end : ℕ) (v : Work) (q r : Queue) → IsQueue ws clock q
    → IsServed (length ws) ws clock i → v.triple ≡ (work_at ws i).triple → v.done ≡ true → clock ≤ end
    → IsFirst (heap_items q.released) (Some i) → IsWithoutFirst (heap_items q.released) (heap_items r.released)
    → heap_len r.released + 1 ≡ heap_len q.released → heap_capacity r.released ≡ heap_capacity q.released
    → r.coming ≡ q.coming → IsQueue (set ws i v) end r
queue_done ws clock i end v q r is s same done later first without fewer room coming =
    let f = first.1
    in let released = s.released
    in let all = queued_done ws i v s.seen same end (heap_items q.coming) (heap_items q.released)
    (heap_items r.released)
    (queued_later ws clock end _ _ is.are later) done (omega arith) first.0 f.is (without first.0 f.top)
    in let old = is.room
    in record {
      are = rw coming all;
      room = rw coming (omega arith);
    }

-- one of those to come is put among the released
pub queued_more : (ws : List Work) (clock : ℕ) (cs rest : List Coming) (hs more : List Released) (c : Coming)
    (h : Released)
    → AreQueued ws clock cs hs → IsPermutation cs (c ∷ rest) → c.0.0 ≤ clock → IsPermutation (h ∷ hs) more
    → released_index h ≡ coming_index c → h.0 ≡ (work_at ws c.1).triple.tail → AreQueued ws clock rest more
queued_more ws clock cs rest hs more c h q p released m is tail =
    let all = All-permutation (IsToCome ws) cs (c ∷ rest) p q.coming
    in let here = All-head (IsToCome ws) c rest all
    in record {
      coming = All-tail (IsToCome ws) c rest all;
      released = All-permutation (IsReleased ws clock) (h ∷ hs) more m (All-cons (IsReleased ws clock) h hs (record {
        here = subst (λ (j : ℕ). j < length ws) (sym is) here.here;
        tail = tail ∙ ap (λ (j : ℕ). (work_at ws j).triple.tail) (sym is);
        released = (let e = here.head in let f = ap (λ (j : ℕ). (work_at ws j).triple.head) is in omega arith);
      }) q.released);
      once = λ k lt. let o = q.once k lt in let a = times-permutation coming_index k cs (c ∷ rest) p
          in let b = times-permutation released_index k (h ∷ hs) more m
          in elim (cases_eq (coming_index c) k) [
            | inl e ↦ (let x = times-here coming_index k c rest e
                in let y = times-here released_index k h hs (is ∙ e) in omega arith)
            | inr ne ↦ (let x = times-other coming_index k c rest ne
                in let y = times-other released_index k h hs (λ f. ne (sym is ∙ f)) in omega arith)
          ];
      passed = q.passed;
    }

pub queue_more : (ws : List Work) (clock k : ℕ) (q p r : Queue) → IsQueue ws clock q
    → TakesReleased clock (heap_items q.coming) (heap_items p.coming) (Some k)
    → heap_len p.coming + 1 ≡ heap_len q.coming → p.released ≡ q.released → r.coming ≡ p.coming → (h : Released)
    → IsPermutation (h ∷ heap_items p.released) (heap_items r.released) → released_index h ≡ k
    → h.0 ≡ (work_at ws k).triple.tail → heap_len r.released ≡ heap_len p.released + 1
    → heap_capacity p.released ≤ heap_capacity r.released → IsQueue ws clock r
queue_more ws clock k q p r is taken fewer stays comes h more index tail longer room =
    let all = queued_more ws clock (heap_items q.coming) (heap_items p.coming) (heap_items q.released)
    (heap_items r.released)
    taken.0 h is.are taken.1 taken.2 (rw stays at more) (index ∙ sym taken.3)
    (tail ∙ ap (λ (j : ℕ). (work_at ws j).triple.tail) (sym taken.3))
    in let old = is.room in let a = rw stays at longer in let b = rw stays at room
    in record { are = rw comes all; room = rw comes (omega arith) }

-- all operations to come
pub record AreListed (ts : List Triple) (n : ℕ) (cs : List Coming) : Type 0 where
  pub each : All (λ c. (c.1 < n) × (c.0.0 ≡ (get_or ts c.1 no_triple).head)) cs
  pub once : (k : ℕ) → k < n → times coming_index k cs ≡ 1

pub listed_more : (ts : List Triple) (n : ℕ) (cs more : List Coming) (c : Coming) → AreListed ts n cs
    → IsPermutation (c ∷ cs) more → c.1 ≡ n → c.0.0 ≡ (get_or ts n no_triple).head → AreListed ts (n + 1) more
listed_more ts n cs more c a p is head = record {
  each = All-permutation (Listed (n + 1)) (c ∷ cs) more p (All-cons (Listed (n + 1)) c cs
      (omega arith, head ∙ ap (λ (j : ℕ). (get_or ts j no_triple).head) (sym is))
      (λ k d l. let e = a.each k d l in let b = e.0 in (omega arith, e.1)));
  once = λ k lt. let b = times-permutation coming_index k (c ∷ cs) more p
      in elim (cases_eq (coming_index c) k) [
        | inl e ↦ (let x = times-here coming_index k c cs e
            in let none : times coming_index k cs ≡ 0 = never k (omega arith) in omega arith)
        | inr ne ↦ (let x = times-other coming_index k c cs ne in let o = a.once k (omega arith) in omega arith)
      ];
} where
  Listed : ℕ → Coming → Type 0
  Listed m c = (c.1 < m) × (c.0.0 ≡ (get_or ts c.1 no_triple).head)

  never : (k : ℕ) → n ≤ k → times coming_index k cs ≡ 0
  never k past = elim (cases_lt 0 (times coming_index k cs)) [
    | inl some ↦ absurd (let s = some_time coming_index (Listed n) k cs a.each some
        in let b = s.2.0 in let e = s.1 in omega arith)
    | inr none ↦ omega arith
  ]

pub queued_all : (ts : List Triple) (n : ℕ) (cs : List Coming) → n ≡ length ts → AreListed ts n cs
    → AreQueued (map fresh ts) 0 cs []
queued_all ts n cs whole a = record {
  coming = λ k d l. grind (arith, length-map, fresh_at);
  released = λ k d l. absurd (omega arith);
  once = λ k l. grind (arith, length-map, times-none, count_undone, fresh-undone);
  passed = λ k l done. absurd (true≢false (sym done ∙ fresh-undone ts k));
} where
  fresh_at : (ts : List Triple) (k : ℕ) → (work_at (map fresh ts) k).triple ≡ get_or ts k no_triple
  fresh_at [] k = refl
  fresh_at (t ∷ ts) zero = refl
  fresh_at (t ∷ ts) (suc k) = fresh_at ts k

pub room_kept : (a b c : Queue) → KeepsRoom a b → KeepsRoom b c → KeepsRoom a c
room_kept a b c h k = grind arith
