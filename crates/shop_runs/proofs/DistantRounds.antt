-- A round of a run that stores the first of its open nodes and counts the others.
use Rattle.std.proofs.Common.{◌≡◌, ℕ, suc, ◌+◌, ◌-◌, ◌*◌, ◌≤◌, ◌<◌, List, [], ◌∷◌, ◌++◌, take, drop, sym, ◌∙◌, ap}
use Rattle.std.proofs.{Common.{subst, arith, ltb}, lemmas.{Bool.{cases_lt, lt-ltb, le-ltb}, List.Elements.All-drop}}
use Rattle.std.{proofs.lemmas.List.Elements.filter-append, specs.Prelude.unwrap_or}
use Rattle.shop_model.specs.Shop.{Shop}
use Rattle.shop_bound.specs.Bound.{lb}
use Rattle.shop_nodes.specs.{declared.nodes.Node.Node, inner.HeldNodes.nodes_below, Nodes.{IsNode, AreNodes}}
use Rattle.shop_runs.specs.declared.{plans.Order.TheVariants.Kept, distant_nodes.DistantNodes.DistantNodes}
use Rattle.shop_runs.specs.declared.{open_nodes.OpenNodes.OpenNodes, outcomes.RoundResult.RoundResult}
use Rattle.shop_runs.specs.{declared.{rounds.Round.Round, runs.OpenRun.OpenRun}, Entries.told, Plans.Planned}
use Rattle.shop_runs.specs.{Laws.IsStanding, Round.{Stand, Told, cut_of, gathered, round, makespan_of}}
use Rattle.shop_runs.specs.inner.{Outcomes.{left_open, IsOutcome}, Stacks.put_all_before, Distant.ArePutOrCounted}
use Rattle.shop_runs.specs.inner.{Distant.{AreDistant, IsRetired}, Searches.{stand_of, with_all, in_full, most_left}}
use Rattle.shop_runs.specs.inner.{Searches.{front_of, IsSearchAt, IsSearchOf, IsRunAt}, Stores.{open_list, order_of}}
use Rattle.shop_runs.{specs.inner.Stores.IsKeptBelow, proofs.{Answering.{next_round, cut_again}, Covering.cut_is_round}}
use Rattle.shop_runs.proofs.{Ending.round_no_worse, DistantLists.{AreBefore, distant_taken, distant_kept}}
use Rattle.shop_runs.proofs.{DistantLists.{distant_joined, distant_retired}, DistantRuns.{list_is, order_is}}
use Rattle.shop_runs.proofs.{DistantRuns.{full_search, near_search, same_front, full_others}, FrontCuts.others_are}
use Rattle.shop_runs.proofs.FrontLemmas.{gathered_front}

-- a round makes no makespan greater
outcome_no_worse : (shop : Shop) (plan : Planned) (t : OpenRun) (r : Told) (o : RoundResult)
    → IsSearchOf shop plan.order t → r ≡ front_of (cut_of shop plan (stand_of t)) → IsOutcome r o
    → o.makespan ≤ t.makespan
outcome_no_worse shop plan t r o of front out =
    let whole = cut_of shop plan (stand_of t)
    in let first : IsOutcome (front_of whole) o = subst (λ (q : Told). IsOutcome q o) front out
    in let ends : makespan_of shop (round shop plan (stand_of t)) ≡ o.makespan =
    ap (λ (x : Stand). lb shop x.word) (gathered_front whole (cut_is_round shop plan (stand_of t) of.standing))
    ∙ (ap (λ (x : Stand). lb shop x.word) first.stands ∙ sym first.makespan)
    in let less = round_no_worse shop plan (stand_of t) of.standing
    in let same = of.makespan
    in omega arith

all_below_it : (c : ℕ) (ns : List Node) → AreBefore c (nodes_below c ns)
all_below_it c [] = tt
all_below_it c (n ∷ ns) = grind (arith, cases_lt, lt-ltb, le-ltb, all_below_it c ns)

-- the steps of a round of run t, which is run v then
pub record IsRoundOf (plan : Planned) (t : OpenRun) (r : Round) (others : OpenNodes) (o : RoundResult)
    (kept joined : OpenNodes) (less more : DistantNodes) (v : OpenRun) : Type 0 where
  pub others_left : open_list others ≡ drop (256 * plan.piece) (open_list t.open)
  pub others_order : order_of others ≡ order_of t.open
  pub kept_below : IsKeptBelow o.makespan others kept
  pub less_horizon : less.horizon ≡ t.distant.horizon
  pub less_counts : less.counts.items ≡ take o.makespan t.distant.counts.items
  pub put : ArePutOrCounted o.makespan (left_open o.left.items) kept less joined more
  pub order : order_of v.open ≡ order_of joined
  pub retired : IsRetired (most_left plan (t.rounds + 1)) (open_list joined) more (open_list v.open) v.distant
  pub stays : order_of joined ≡ Kept → v.distant.horizon ≡ more.horizon
  pub word : v.word ≡ unwrap_or o.found r.word
  pub makespan : v.makespan ≡ o.makespan
  pub rounds : v.rounds ≡ r.rounds + 1
  pub nodes : v.nodes ≡ o.nodes

module _ (shop : Shop) (plan : Planned) (s : Stand) (t : OpenRun) (run : IsRunAt shop plan s t)
    (standing : IsStanding shop s) (some : 0 < plan.piece) (before : t.rounds < plan.rounds) where
  most_next : most_left plan t.rounds ≡ 256 * plan.piece + most_left plan (t.rounds + 1)
  most_next = (let e : plan.rounds - t.rounds ≡ suc (plan.rounds - (t.rounds + 1)) = omega arith
      in let f : suc (plan.rounds - (t.rounds + 1)) * (256 * plan.piece)
      ≡ 256 * plan.piece + (plan.rounds - (t.rounds + 1)) * (256 * plan.piece) = omega arith
      in ap (λ k. k * (256 * plan.piece) + 1) e ∙ omega arith)

  pub run_next : (r : Round) (others : OpenNodes) (o : RoundResult) (kept joined : OpenNodes)
      (less more : DistantNodes) (v : OpenRun)
      → told r ≡ front_of (cut_of shop plan (stand_of t)) → IsOutcome (told r) o
      → IsRoundOf plan t r others o kept joined less more v → IsRunAt shop plan (round shop plan s) v
  run_next r others o kept joined less more v front out step =
      let m = o.makespan
      in let left = left_open o.left.items
      in let n = 256 * plan.piece
      in let most = most_left plan (t.rounds + 1)
      in let full = in_full t run.distant
      in let of = full_search shop plan s t run standing
      in let lower = outcome_no_worse shop plan t (told r) o (near_search shop plan s t run standing) front out
      in let taken : AreDistant most t.makespan others t.distant run.distant =
      distant_taken (most_left plan t.rounds) t.makespan t.open t.distant run.distant run.are_distant n most others
      most_next
      step.others_order step.others_left
      in let below = nodes_below m run.distant
      in let kept_distant : AreDistant most m kept less below =
      distant_kept most t.makespan others t.distant run.distant taken m kept less lower step.kept_below.0
      step.kept_below.1
      step.less_horizon step.less_counts
      in let distant_after = distant_joined most m kept less below kept_distant left joined more
      (all_below_it m run.distant)
      step.put.put.0 step.put.put.1 step.put.horizon step.put.counted
      in let distant_last = distant_retired most m joined more distant_after.0 distant_after.1 v.open v.distant
      step.order step.retired
      step.stays
      in let after = in_full v distant_last.0
      in let rest = with_all (order_of t.open) (open_list others ++ run.distant)
      in let rest_is : open_list rest ≡ drop n (open_list full.open) =
      list_is (order_of t.open) (open_list others ++ run.distant)
      ∙ sym (full_others shop plan s t run standing some before others step.others_left)
      in let orders : order_of rest ≡ order_of full.open =
      order_is (order_of t.open) (open_list others ++ run.distant)
      ∙ sym (order_is (order_of t.open) (open_list t.open ++ run.distant))
      in let same_order : order_of kept ≡ order_of rest = step.kept_below.0 ∙ (step.others_order
      ∙ sym (order_is (order_of t.open) (open_list others ++ run.distant)))
      in let kept_is : open_list kept ++ below ≡ nodes_below v.makespan (open_list rest) =
      ap (λ ns. ns ++ below) step.kept_below.1
      ∙ (sym (filter-append (λ (x : Node). ltb x.bound m) (open_list others) run.distant)
      ∙ (λ i. nodes_below (sym step.makespan i) (sym (list_is (order_of t.open) (open_list others ++ run.distant)) i)))
      in let open_nodes : open_list after.open
      ≡ put_all_before (order_of rest) (nodes_below m left) (nodes_below v.makespan (open_list rest)) =
      list_is (order_of v.open) (open_list v.open ++ distant_last.0)
      ∙ (sym distant_last.2 ∙ (sym distant_after.2
      ∙ (λ i. put_all_before (same_order i) (nodes_below m left) (kept_is i))))
      in let at : IsSearchAt shop plan.order (round shop plan (stand_of full)) after =
      next_round shop plan full of r rest o after
      (front ∙ same_front shop plan s t run standing some before)
      (others_are shop plan full (open_list rest) of rest_is)
      (subst (AreNodes shop) (sym rest_is) (All-drop (IsNode shop) n (open_list full.open) of.bounds))
      orders out (record {
        word = step.word;
        makespan = step.makespan;
        rounds = step.rounds;
        nodes = step.nodes;
        joined = record {
          kept = order_is (order_of v.open) (open_list v.open ++ distant_last.0)
              ∙ (step.order ∙ (step.put.put.0 ∙ same_order));
          open_nodes = open_nodes;
        };
      })
      in let counted : t.rounds + 1 ≡ v.rounds =
      sym (step.rounds ∙ ap (λ (q : Told). q.rounds + 1) front)
      in record {
        distant = distant_last.0;
        are_distant = subst (λ i. AreDistant (most_left plan i) v.makespan v.open v.distant distant_last.0) counted
            (subst (λ c. AreDistant most c v.open v.distant distant_last.0) (sym step.makespan) distant_last.1);
        at = subst (λ x. IsSearchAt shop plan.order (gathered x) after) (cut_again shop plan s full run.at) at;
      }
