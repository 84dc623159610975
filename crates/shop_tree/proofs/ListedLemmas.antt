-- Candidates that are listed beside closed ones.
use Rattle.std.proofs.Common.{◌≡◌, ℕ, suc, ◌+◌, ◌≤◌, ◌<◌, List, [], ◌∷◌, ◌++◌, length, map, get_or, drop, refl, sym}
use Rattle.std.proofs.Common.{◌∙◌, ap, subst, arith, append-nil}
use Rattle.shop_model.specs.{Shop.Shop, Word.IsWord}
use Rattle.shop_bound.specs.Bound.{lb}
use Rattle.shop_states.specs.{States.ListsBelow, States.ListsBelow.{none, listed, closed}}
use Rattle.shop_states.specs.declared.states.Candidate.{Candidate}
use Rattle.shop_nodes.{specs.{Branching.conflict, declared.halts.Open.Open}, proofs.ChildrenLemmas.child-word}
use Rattle.shop_tree.{specs.inner.Opens.{AreChildren, IsIndexAbove}, proofs.AddLemmas.conflict_few}
use Rattle.shop_tree.proofs.PushLemmas.{IsGathered, gathered_none, gathered_open, gathered_other, all_gathered}

-- the jobs up to the last candidate, and those after it, which are closed
pub record IsSplit (shop : Shop) (word : List ℕ) (limit : ℕ) (is : Candidate → Type 0) (js : List ℕ)
    (cs : List Candidate) (c : Candidate) (n : ℕ) : Type 0 where
  pub front : List ℕ
  pub back : List ℕ
  pub before : ℕ
  pub after : ℕ
  pub jobs : js ≡ front ++ c.job ∷ back
  pub count : n ≡ before + after
  pub front_lists : ListsBelow shop word limit is front cs before
  pub back_lists : ListsBelow shop word limit is back [] after
  pub own : is c

head_same : (c d : Candidate) (cs ds : List Candidate) → c ∷ cs ≡ d ∷ ds → c ≡ d
head_same c d cs ds e = ap (λ (xs : List Candidate). get_or xs 0 c) e

rest_same : (c d : Candidate) (cs ds : List Candidate) → c ∷ cs ≡ d ∷ ds → cs ≡ ds
rest_same c d cs ds e = ap (λ (xs : List Candidate). drop 1 xs) e

no_list : {A : Type 0} (c : Candidate) (cs : List Candidate) → [] ≡ c ∷ cs → A
no_list c cs e = absurd (let a = ap (λ (xs : List Candidate). length xs) e in omega arith)

module _ {shop : Shop} {word : List ℕ} {limit : ℕ} {is : Candidate → Type 0} where
  pub split_last : {js : List ℕ} {all : List Candidate} {n : ℕ} → ListsBelow shop word limit is js all n
      → (cs : List Candidate) (c : Candidate) → all ≡ cs ++ c ∷ []
      → IsSplit shop word limit is js cs c n
  split_last none [] c e = no_list c [] e
  split_last none (x ∷ cs) c e = no_list x (cs ++ c ∷ []) e
  split_last (listed {js = js} {cs = all} {n = n} j d same own rest) [] c e = record {
    front = [];
    back = js;
    before = 0;
    after = n;
    jobs = ap (λ (i : ℕ). i ∷ js) (sym same ∙ ap (λ (x : Candidate). x.job) (head_same d c all [] e));
    count = omega arith;
    front_lists = none;
    back_lists = subst (λ (xs : List Candidate). ListsBelow shop word limit is js xs n) (rest_same d c all [] e) rest;
    own = subst is (head_same d c all [] e) own;
  }
  split_last (listed {js = js} {cs = all} {n = n} j d same own rest) (x ∷ cs) c e =
      let s = split_last rest cs c (rest_same d x all (cs ++ c ∷ []) e)
      in record {
        front = j ∷ s.front;
        back = s.back;
        before = s.before;
        after = s.after;
        jobs = ap (λ (ks : List ℕ). j ∷ ks) s.jobs;
        count = s.count;
        front_lists = subst (λ (y : Candidate). ListsBelow shop word limit is (j ∷ s.front) (y ∷ cs) s.before)
            (head_same d x all (cs ++ c ∷ []) e) (listed j d same own s.front_lists);
        back_lists = s.back_lists;
        own = s.own;
      }
  split_last (closed {js = js} {cs = all} {n = n} j high rest) cs c e =
      let s = split_last rest cs c e
      in record {
        front = j ∷ s.front;
        back = s.back;
        before = suc s.before;
        after = s.after;
        jobs = ap (λ (ks : List ℕ). j ∷ ks) s.jobs;
        count = (let a = s.count in omega arith);
        front_lists = closed j high s.front_lists;
        back_lists = s.back_lists;
        own = s.own;
      }

  -- closed ones come to the others
  pub closed_gathered : {js : List ℕ} {cs : List Candidate} {n : ℕ} → ListsBelow shop word limit is js cs n → cs ≡ []
      → (opens : List Open) (m : ℕ) (done : List ℕ) → IsGathered shop limit word opens m done
      → IsGathered shop limit word opens (m + n) (js ++ done)
  closed_gathered none e opens m done g = grind arith
  closed_gathered (listed {cs = cs} j d same own rest) e opens m done g = no_list d cs (sym e)
  closed_gathered (closed {js = js} {cs = cs} {n = n} j high rest) e opens m done g =
      subst (λ (k : ℕ). IsGathered shop limit word opens k (j ∷ js ++ done))
      (let f : m + n + 1 ≡ m + suc n = omega arith in f)
      (gathered_other j (closed_gathered rest e opens m done g) high)

  pub lists_long : {js : List ℕ} {cs : List Candidate} {n : ℕ} → ListsBelow shop word limit is js cs n
      → length js ≡ length cs + n
  lists_long none = refl
  lists_long (listed j d same own rest) = let a = lists_long rest in omega arith
  lists_long (closed j high rest) = let a = lists_long rest in omega arith

  -- where no others are closed
  pub lists_all : {js : List ℕ} {cs : List Candidate} {n : ℕ} → ListsBelow shop word limit is js cs n → n ≡ 0
      → js ≡ map (λ c. c.job) cs
  lists_all none e = refl
  lists_all (listed {js = js} {cs = cs} j d same own rest) e = grind (arith, lists_all rest e)
  lists_all (closed {n = n} j high rest) e = absurd (omega arith)

  pub sole_listed : {cs : List Candidate} {c : Candidate} {n : ℕ} → cs ≡ c ∷ [] → n ≡ 0
      → ListsBelow shop word limit is (conflict shop word) cs n → conflict shop word ≡ c.job ∷ []
  sole_listed one each all = lists_all all each ∙ ap (map (λ x. x.job)) one

  pub few_closed : {cs : List Candidate} {n : ℕ} → ListsBelow shop word limit is (conflict shop word) cs n
      → length cs + n ≤ length shop.jobs
  few_closed all = let a = lists_long all in let b = conflict_few shop word in omega arith

  -- all children are closed
  pub none_kept : (cs : List Candidate) (n : ℕ) → cs ≡ [] → ListsBelow shop word limit is (conflict shop word) cs n
      → AreChildren shop limit word [] n
  none_kept cs n e all = all_gathered
      (subst (λ (k : ℕ). IsGathered shop limit word [] k (conflict shop word ++ []))
      (let f : 0 + n ≡ n = omega arith in f)
      (closed_gathered all e [] 0 [] (gathered_none shop limit word [] refl))) (append-nil (conflict shop word))

  -- one candidate alone
  module _ {c : Candidate} {cs : List Candidate} {n : ℕ} (e : cs ≡ c ∷ [])
      (all : ListsBelow shop word limit is (conflict shop word) cs n) where
    pub alone : IsSplit shop word limit is (conflict shop word) [] c n
    alone = split_last all [] c e

    done : List ℕ
    done = c.job ∷ alone.back ++ []

    jobs_are : alone.front ++ c.job ∷ (alone.back ++ []) ≡ conflict shop word
    jobs_are = ap (λ (ks : List ℕ). alone.front ++ c.job ∷ ks) (append-nil alone.back) ∙ sym alone.jobs

    after_gathered : IsGathered shop limit word [] alone.after (alone.back ++ [])
    after_gathered = subst (λ (k : ℕ). IsGathered shop limit word [] k (alone.back ++ []))
        (let e : 0 + alone.after ≡ alone.after = omega arith in e)
        (closed_gathered alone.back_lists refl [] 0 [] (gathered_none shop limit word [] refl))

    pub alone_own : is c
    alone_own = alone.own

    pub alone_fits : IsWord shop word → IsWord shop (word ++ c.job ∷ [])
    alone_fits is_word = child-word shop word is_word alone.front alone.back c.job (sym alone.jobs)

    -- it is open
    pub alone_kept : (o : Open) → IsWord shop word → o.depth ≡ length word → o.job ≡ c.job
        → o.bound ≡ lb shop (word ++ c.job ∷ []) → o.bound < limit → AreChildren shop limit word (o ∷ []) n
    alone_kept o is_word depth job bound below =
        let same : word ++ c.job ∷ [] ≡ word ++ o.job ∷ [] = ap (λ (j : ℕ). word ++ j ∷ []) (sym job)
        in let index : IsIndexAbove o.bound [] 0 = record {
          within = omega arith;
          above = λ k d le to. absurd (omega arith);
          below = λ d some. absurd (omega arith);
        }
        in let kept = gathered_open (o ∷ []) o 0 after_gathered (subst (IsWord shop) same (alone_fits is_word)) depth
        (bound ∙ ap (lb shop) same) below index refl
        in let whole = closed_gathered alone.front_lists refl (o ∷ []) alone.after (o.job ∷ alone.back ++ []) kept
        in subst (λ (k : ℕ). AreChildren shop limit word (o ∷ []) k) (let a = alone.count in omega arith)
        (all_gathered whole (ap (λ (j : ℕ). alone.front ++ j ∷ (alone.back ++ [])) job ∙ jobs_are))

    -- it is closed too
    pub alone_closed : limit ≤ lb shop (word ++ c.job ∷ []) → AreChildren shop limit word [] (n + 1)
    alone_closed high =
        let more = gathered_other c.job after_gathered high
        in let whole = closed_gathered alone.front_lists refl [] (alone.after + 1) (c.job ∷ alone.back ++ []) more
        in subst (λ (k : ℕ). AreChildren shop limit word [] k) (let a = alone.count in omega arith)
        (all_gathered whole jobs_are)
