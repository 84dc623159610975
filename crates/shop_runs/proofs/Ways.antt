-- Runs on their way to the answer of a plan.
use Rattle.std.proofs.Common.{◌≡◌, ℕ, ◌+◌, ◌≤◌, ◌<◌, inl, inr, [], ◌++◌, length, All, refl, sym, ◌∙◌, ap, subst, arith}
use Rattle.std.proofs.{Common.append-nil, lemmas.List.{length-map, length-append, Elements.recursion_from_All}}
use Rattle.shop_model.specs.{Shop.Shop, Word.{placed, rows_of}}
use Rattle.shop_nodes.specs.{declared.nodes.Node.Node, Nodes.{words_of, AreNodes}}
use Rattle.shop_runs.specs.{Plans.Planned, Round.{Stand, round, opening, cut_of}, Answers.answer, Runs.Says}
use Rattle.shop_runs.specs.{Laws.{IsStanding, StandsCovering}, declared.runs.{Answer.Answer, OpenRun.OpenRun}}
use Rattle.shop_runs.specs.inner.{Distant.HaveCounts, NodeLists.least_of_bounds, Searches.{stand_of, in_full}}
use Rattle.shop_runs.specs.inner.{Searches.{IsSearchAt, IsRunAt, IsRunOf, HasFewOpen}, Stores.{open_list, order_of}}
use Rattle.shop_runs.proofs.Answering.{GoesTo, goes_first, goes_on, goes_closed, goes_last, says_search}
use Rattle.shop_runs.proofs.{Counting.counts_small, Covering.{opens_covering, round_covers}, DistantLists.least_near}
use Rattle.shop_runs.proofs.{DistantRuns.{list_is, order_is, whole, stored_enough}, FrontLemmas.search_of}
use Rattle.shop_runs.proofs.{FrontLemmas.length_order, KeptBelow.all_below, Trusting.none_from}
use Rattle.shop_runs.proofs.OpenSizes.{opening_few, round_few}

-- a run on its way: it stands where the definition does, which covers the instance, and goes to the answer
pub record OnTheWay (shop : Shop) (plan : Planned) (i : ℕ) (t : OpenRun) : Type 0 where
  pub stand : Stand
  pub at : IsRunAt shop plan stand t
  pub covering : StandsCovering shop stand
  pub few : HasFewOpen shop stand
  pub goes : GoesTo shop plan i stand
  pub rounds : stand.rounds ≡ i

-- a run that stores all its open nodes
run_whole : (shop : Shop) (plan : Planned) (s : Stand) (t : OpenRun) → IsSearchAt shop plan.order s t
    → IsStanding shop s → t.distant.horizon ≡ t.makespan → HaveCounts t.distant.counts.items [] → IsRunAt shop plan s t
run_whole shop plan s t at standing horizon none =
    let of = search_of shop plan.order s t at standing
    in let same : open_list (in_full t []).open ≡ open_list t.open =
    list_is (order_of t.open) (open_list t.open ++ []) ∙ append-nil (open_list t.open)
    in record {
      distant = [];
      are_distant = record {
        near = recursion_from_All (λ n. n.bound < t.distant.horizon) (open_list t.open)
            (subst (λ h. All (λ n. n.bound < h) (open_list t.open)) (sym horizon)
            (all_below shop t.makespan (open_list t.open) of.bounds
            (λ w h. let a = of.standing.below w h in let b = of.makespan in omega arith)));
        behind = tt;
        counted = none;
        enough = inl (omega arith);
      };
      at = record {
        stands_at = (λ i. record (stand_of t) { open_words = words_of (same i) }) ∙ at.stands_at;
        makespan = at.makespan;
        bounds = subst (AreNodes shop) (sym same) at.bounds;
        kept = order_is (order_of t.open) (open_list t.open ++ []) ∙ at.kept;
      };
    }

pub way_first : (shop : Shop) (plan : Planned) (t : OpenRun) → IsSearchAt shop plan.order (opening shop) t
    → t.distant.horizon ≡ t.makespan → HaveCounts t.distant.counts.items [] → OnTheWay shop plan 0 t
way_first shop plan t at horizon none = record {
  stand = opening shop;
  at = run_whole shop plan (opening shop) t at (opens_covering shop).0 horizon none;
  covering = opens_covering shop;
  few = opening_few shop;
  goes = goes_first shop plan;
  rounds = refl;
}

-- as many nodes are open as words where the run stands; some are stored, if any is open
module _ (shop : Shop) (plan : Planned) (s : Stand) (t : OpenRun) (run : IsRunAt shop plan s t)
    (standing : IsStanding shop s) where
  pub many : length (open_list t.open) + length run.distant ≡ length s.open_words
  many =
      let words = ap (λ (x : Stand). length x.open_words) run.at.stands_at
      in let mapped = length-map (open_list (in_full t run.distant).open) (λ (n : Node). n.word)
      in let all = ap length (whole shop plan s t run standing)
      in let both = length-append (open_list t.open) run.distant
      in let ordered = length_order shop plan.order s.open_words
      in omega arith

  none_open : length (open_list t.open) ≡ 0 → s.open_words ≡ []
  none_open e = none_from s.open_words (elim (stored_enough shop plan s t run standing 1 (omega arith)) [
    | inl none ↦ (let x = ap length none in let y = many in omega arith)
    | inr some ↦ absurd (omega arith)
  ])

  -- the answer that is made of a run says what stands
  pub says_run : (a : Answer) → a.word ≡ t.word → a.table ≡ rows_of shop (placed shop t.word)
      → a.makespan ≡ t.makespan → a.bound ≡ least_of_bounds t.makespan (open_list t.open)
      → a.open_nodes ≡ length (open_list t.open) + length run.distant → a.rounds ≡ t.rounds → a.nodes ≡ t.nodes
      → Says shop s a
  says_run a word table makespan lower open_nodes rounds nodes =
      let same = whole shop plan s t run standing
      in says_search shop plan.order s (in_full t run.distant) run.at a word table makespan
      (lower ∙ (sym (least_near t.distant.horizon t.makespan (open_list t.open) run.distant run.are_distant.near
      run.are_distant.behind (stored_enough shop plan s t run standing 1 (omega arith)))
      ∙ ap (least_of_bounds t.makespan) (sym same)))
      (open_nodes ∙ (sym (length-append (open_list t.open) run.distant) ∙ ap length (sym same))) rounds nodes

module _ (shop : Shop) (plan : Planned) (i : ℕ) (t : OpenRun) (way : OnTheWay shop plan i t) where
  -- a run on its way is a standing of the instance
  pub way_search : IsRunOf shop plan t
  way_search = (way.stand, way.at, way.covering.0, way.few)

  pub way_closed : length (open_list t.open) ≡ 0 → IsRunAt shop plan (answer shop plan) t
  way_closed e = subst (λ x. IsRunAt shop plan x t)
      (goes_closed shop plan i way.stand way.goes (none_open shop plan way.stand t way.at way.covering.0 e)) way.at

  pub way_last : plan.rounds ≤ i → IsRunAt shop plan (answer shop plan) t
  way_last h = subst (λ x. IsRunAt shop plan x t) (goes_last shop plan i way.stand way.goes h) way.at

  -- one more round brings it to where the definition's next round ends
  pub way_next : (v : OpenRun) → i < plan.rounds → 0 < length (open_list t.open)
      → ((s : Stand) → IsRunAt shop plan s t → IsStanding shop s → IsRunAt shop plan (round shop plan s) v)
      → OnTheWay shop plan (i + 1) v
  way_next v h some next = record {
    stand = round shop plan way.stand;
    at = next way.stand way.at way.covering.0;
    covering = round_covers shop plan way.stand way.covering;
    few = round_few shop plan way.stand way.few;
    goes = goes_on shop plan i way.stand way.goes h
        (let m = many shop plan way.stand t way.at way.covering.0 in omega arith);
    rounds = (counts_small (cut_of shop plan way.stand)).0 ∙ ap (λ k. k + 1) way.rounds;
  }
