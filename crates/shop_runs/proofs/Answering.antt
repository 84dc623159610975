-- Rounds up to the answer.
use Rattle.std.proofs.Common.{◌≡◌, ℕ, suc, ◌+◌, ◌-◌, ◌*◌, ◌≤◌, ◌<◌, List, [], ◌++◌, length, sym, ◌∙◌, ap, subst, arith}
use Rattle.std.proofs.{Common.{append-nil, ltb}, lemmas.List.{Elements.All-filter, length-map}}
use Rattle.std.specs.Prelude.{unwrap_or}
use Rattle.shop_model.specs.{Shop.Shop, Word.{placed, rows_of}}
use Rattle.shop_runs.specs.{Plans.{Planned, planned}, declared.plans.Plan.Plan, Round.{Stand, Told, cut_of, gathered}}
use Rattle.shop_runs.specs.{Round.{round, opening, in_order, words_below}, Answers.{rounds_from, unless_closed, answer}}
use Rattle.shop_runs.specs.{Trust.IsTrustworthy, Entries.told, Runs.Says, declared.open_nodes.OpenNodes.OpenNodes}
use Rattle.shop_runs.specs.declared.{plans.Order.Order, rounds.Round.Round, runs.OpenRun.OpenRun}
use Rattle.shop_runs.specs.inner.{NodeLists.least_of_bounds, Searches.{IsSearchAt, IsSearchOf, IsFront, front_of}}
use Rattle.shop_runs.specs.{inner.{Searches.stand_of, Stores.{open_list, order_of}}, declared.runs.Answer.Answer}
use Rattle.shop_runs.specs.{declared.outcomes.RoundResult.RoundResult, inner.Outcomes.{left_open, IsOutcome}}
use Rattle.shop_runs.proofs.FrontLemmas.{IsInOrder, IsJoined, in_order_is, order_drop, ordered_twice, gathered_front}
use Rattle.shop_runs.proofs.{FrontLemmas.{rejoined, joined_at, least_order, length_order}, NodeLemmas.least_is}
use Rattle.shop_runs.proofs.{NodeLemmas.below_is, Covering.cut_is_round, Trusting.trustworthy}
use Rattle.shop_nodes.specs.{declared.nodes.Node.Node, Nodes.{words_of, IsNode, AreNodes}, inner.HeldNodes.nodes_below}
use Rattle.shop_bound.specs.Bound.{lb}

-- what a run that has done i rounds of its plan has still to come to
pub record GoesTo (shop : Shop) (plan : Planned) (i : ℕ) (s : Stand) : Type 0 where
  pub within : i ≤ plan.rounds
  pub goes_to : rounds_from shop plan (plan.rounds - i) s ≡ answer shop plan

pub goes_first : (shop : Shop) (plan : Planned) → GoesTo shop plan 0 (opening shop)
goes_first shop plan = grind arith

pub closed : (shop : Shop) (plan : Planned) (n : ℕ) (s : Stand) → s.open_words ≡ [] → rounds_from shop plan n s ≡ s
closed shop plan x s e = grind arith

opened : (s : Stand) (go : Stand → Stand) (ws : List (List ℕ)) → 0 < length ws → unless_closed ws s go ≡ go s
opened s go x h = grind arith

pub goes_on : (shop : Shop) (plan : Planned) (i : ℕ) (s : Stand) → GoesTo shop plan i s → i < plan.rounds
    → 0 < length s.open_words → GoesTo shop plan (i + 1) (round shop plan s)
goes_on shop plan i s g h o =
    let e : plan.rounds - i ≡ suc (plan.rounds - (i + 1)) = omega arith
    in grind (arith, opened)

pub goes_closed : (shop : Shop) (plan : Planned) (i : ℕ) (s : Stand) → GoesTo shop plan i s → s.open_words ≡ []
    → s ≡ answer shop plan
goes_closed shop plan i s g e = sym (closed shop plan (plan.rounds - i) s e) ∙ g.goes_to

pub goes_last : (shop : Shop) (plan : Planned) (i : ℕ) (s : Stand) → GoesTo shop plan i s → plan.rounds ≤ i
    → s ≡ answer shop plan
goes_last shop plan i s g h = grind arith

-- the run v stands after the round r of this outcome, beside the other open nodes
pub record IsAfter (r : Round) (o : RoundResult) (others : OpenNodes) (v : OpenRun) : Type 0 where
  pub word : v.word ≡ unwrap_or o.found r.word
  pub makespan : v.makespan ≡ o.makespan
  pub rounds : v.rounds ≡ r.rounds + 1
  pub nodes : v.nodes ≡ o.nodes
  pub joined : IsJoined (nodes_below o.makespan (left_open o.left.items)) others v

-- a round of a run: its front is cut off and searched, what it left joins the others
module _ (shop : Shop) (plan : Planned) (t : OpenRun) (of : IsSearchOf shop plan.order t) where
  whole : Told
  whole = cut_of shop plan (stand_of t)

  pub next_round : (r : Round) (others : OpenNodes) (o : RoundResult) (v : OpenRun)
      → told r ≡ front_of (cut_of shop plan (stand_of t))
      → words_of (open_list others) ≡ (cut_of shop plan (stand_of t)).rest → AreNodes shop (open_list others)
      → order_of others ≡ order_of t.open → IsOutcome (told r) o → IsAfter r o others v
      → IsSearchAt shop plan.order (round shop plan (stand_of t)) v
  unfolding whole
  next_round r others o v front rest bounds kept out after =
      let first : IsOutcome (front_of whole) o = subst (λ (q : Told). IsOutcome q o) front out
      in let all = left_open o.left.items
      in let left = nodes_below o.makespan all
      in let word : unwrap_or o.found whole.word ≡ v.word =
      sym (after.word ∙ ap (λ (q : Told). unwrap_or o.found q.word) front)
      in let makespan : v.makespan ≡ lb shop (unwrap_or o.found whole.word) = after.makespan ∙ first.makespan
      in let words : words_below shop o.makespan (words_of all ++ []) ≡ words_of left =
      ap (words_below shop o.makespan) (append-nil (words_of all))
      ∙ sym (below_is shop o.makespan all first.nodes_left)
      in let rounds : whole.rounds + 1 ≡ v.rounds =
      sym (after.rounds ∙ ap (λ (q : Told). q.rounds + 1) front)
      in let stood : rejoined whole (gathered (front_of whole)) ≡ record (stand_of v) {
        open_words = words_of left ++ words_below shop v.makespan (words_of (open_list others));
      } = ap (rejoined whole) first.stands ∙ (λ j. record {
        word = word j;
        open_words = words j ++ words_below shop (sym makespan j) (sym rest j);
        rounds = rounds j;
        nodes = sym after.nodes j;
      })
      in let rises : IsInOrder shop plan.order (words_of (open_list others)) =
      subst (IsInOrder shop plan.order) (sym rest) (order_drop shop plan.order (256 * plan.piece)
      (in_order shop plan.order (stand_of t).open_words) (in_order_is shop plan.order (stand_of t).open_words))
      in let landed : IsSearchAt shop plan.order (rejoined whole (gathered (front_of whole))) v =
      joined_at shop plan.order (rejoined whole (gathered (front_of whole))) left others v stood
      (makespan ∙ ap (lb shop) word)
      (All-filter (λ n. ltb n.bound o.makespan) (IsNode shop) all first.nodes_left) bounds
      (kept ∙ of.kept) rises after.joined
      in subst (λ x. IsSearchAt shop plan.order x v)
      (sym (gathered_front whole (cut_is_round shop plan (stand_of t) of.standing))) landed

-- what is cut of a run is what the definition cuts of where it stands
pub cut_again : (shop : Shop) (plan : Planned) (s : Stand) (t : OpenRun) → IsSearchAt shop plan.order s t
    → cut_of shop plan (stand_of t) ≡ cut_of shop plan s
cut_again shop plan s t at = grind (arith, ordered_twice)

-- the round of a run's front, given the other nodes as its rest, is what is cut of where the run stands
pub with_rest : (shop : Shop) (plan : Plan) (s : Stand) (t : OpenRun) (r : Round) (others : OpenNodes)
    (rest : List Node)
    → IsSearchAt shop plan.order s t → IsFront shop plan t r others → rest ≡ open_list others
    → record (told r) { rest = words_of rest } ≡ cut_of shop (planned plan) s
with_rest shop plan s t r others rest at front is =
    (λ i. record (front.round i) { rest = (ap words_of is ∙ front.rest) i }) ∙ cut_again shop (planned plan) s t at

-- the answer that is made of a run says what stands
module _ (shop : Shop) (o : Order) (s : Stand) (t : OpenRun) (at : IsSearchAt shop o s t) where
  pub word_same : t.word ≡ s.word
  word_same = ap (λ (x : Stand). x.word) at.stands_at

  words_same : words_of (open_list t.open) ≡ in_order shop o s.open_words
  words_same = ap (λ (x : Stand). x.open_words) at.stands_at

  pub says_search : (a : Answer) → a.word ≡ t.word → a.table ≡ rows_of shop (placed shop t.word)
      → a.makespan ≡ t.makespan → a.bound ≡ least_of_bounds t.makespan (open_list t.open)
      → a.open_nodes ≡ length (open_list t.open) → a.rounds ≡ t.rounds → a.nodes ≡ t.nodes
      → Says shop s a
  says_search a word table makespan lower many rounds nodes =
      grind (arith, word_same, least_is, words_same, least_order, s, length-map, length_order)

-- what an answer that says what stands tells of all tables is so
pub trust_says : (shop : Shop) (plan : Planned) (a : Answer) → Says shop (answer shop plan) a
    → IsTrustworthy shop a.word a.makespan a.bound a.open_nodes
trust_says shop plan a says = grind (arith, trustworthy)
