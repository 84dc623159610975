-- Rounds keep the cover.
use Rattle.std.proofs.Common.{◌≡◌, ◌≤◌, ◌⊎◌, inl, inr, Option, Some, None, List, [], ◌∷◌, ◌++◌, refl, sym, subst, arith}
use Rattle.std.specs.{Prelude.Contains, List.{AllByRecursion, flat_map}}
use Rattle.shop_model.specs.{Shop.{Shop, Starts, IsFeasible, end_of}, Word.{IsWord, start_jobs}}
use Rattle.shop_bound.{specs.Bound.lb, proofs.BoundLaw.lb-le-end}
use Rattle.shop_nodes.{specs.{Walking.Walk, Laws.{AreWords, HasBetter}}, proofs.Members.{In, in_contains, contains_in}}
use Rattle.shop_nodes.proofs.Members.{all_contains, contains_all, in_all, in_map, in_flat_map, in_left, in_right}
use Rattle.shop_nodes.proofs.Found.{searches_keep}
use Rattle.shop_runs.specs.{Plans.Planned, Round.{Stand, Told, words_of_round, sheet_in, sheets_of, cut_of, in_order}}
use Rattle.shop_runs.specs.{Round.{up_to_hit, best_word, after_round, Covers}, Laws.{IsStanding, StandsCovering}}
use Rattle.shop_runs.specs.Laws.{IsRound, OpeningCovers, CutsCover, GatheringCovers, RoundsKeepTheCover}
use Rattle.shop_runs.proofs.{Opening.start_full, Cutting.{in_or, in_some, pieces_all}, OpenLemmas.least_bound-le}
use Rattle.shop_runs.proofs.OpenLemmas.{ordered_in, ordered_all, still_better, standing_from, under_empty}
use Rattle.shop_runs.proofs.{SheetLemmas.{IsOfRound, IsBestWord, hit_in, found_is}, StandingLemmas.pieces_words}
use Rattle.shop_runs.proofs.StandingLemmas.{known, best_of_round, open_all, after_is_standing}

pub opens_covering : OpeningCovers
opens_covering shop =
    let empty_word : AllByRecursion (IsWord shop) ([] ∷ []) = ((λ j. omega arith), tt)
    in (
      standing_from shop (start_jobs shop) ([] ∷ []) 0 0 (start_full shop) empty_word,
      λ starts f. still_better shop (lb shop (start_jobs shop)) ([] ∷ []) starts empty_word
          (record {
            word = [];
            member = (0, omega arith, refl);
            better = starts;
            under =
                under_empty shop starts f;
            ends = omega arith;
          }),
    )

module _ (r : Told) (is : IsRound r) (covers : Covers r.shop r.best (words_of_round r)) where
  -- no feasible table ends before the opening bound
  opening_bound : (starts : Starts) → IsFeasible r.shop starts → r.bound ≤ end_of r.shop starts
  opening_bound starts f =
      let a = is.most
      in elim (covers starts f) [
        | inl h ↦ (omega arith)
        | inr h ↦ (let b = is.bound h.word h.member
            in let d = lb-le-end r.shop h.word h.better (is.words h.word h.member) h.under in let e = h.ends
            in omega arith)
      ]

  -- where no sheet hits
  keeps_open : IsBestWord r.shop r.best (sheets_of r) (best_word r.best r.word (sheets_of r)) → (starts : Starts)
      → IsFeasible r.shop starts
      → (lb r.shop (best_word r.best r.word (sheets_of r)) ≤ end_of r.shop starts)
      ⊎ HasBetter r.shop (flat_map (λ t. t.left) (sheets_of r) ++ r.rest) starts
  keeps_open b starts f = elim (covers starts f) [
    | inl h ↦ (let a = b.below in inl (omega arith))
    | inr h ↦ elim (in_or h.word (flat_map (λ p. p) r.pieces) r.rest (in_contains h.word (words_of_round r) h.member)) [
      | inl k ↦ (let p = in_some h.word r.pieces k
          in let s = sheet_in r p.0
          in let keeps = searches_keep r.shop p.0 r.best r.budget
          (contains_all (IsWord r.shop) p.0
          (in_all (AllByRecursion (IsWord r.shop)) p.0 r.pieces p.1 (pieces_words r is)))
          in let of_piece : HasBetter r.shop p.0 starts =
          record {
            word = h.word;
            member = contains_in h.word p.0 p.2;
            better = h.better;
            under = h.under;
            ends =
                h.ends;
          }
          in let member : In s (sheets_of r) = in_map (sheet_in r) p.0 r.pieces p.1
          in elim (keeps.tables starts of_piece) [
            | inl a ↦ (let x = b.each s member in inl (omega arith))
            | inr v ↦ inr (record {
              word = v.word;
              member = contains_in v.word (flat_map (λ t. t.left) (sheets_of r) ++ r.rest)
                  (in_left v.word (flat_map (λ t. t.left) (sheets_of r)) r.rest
                  (in_flat_map (λ (t : Walk). t.left) s v.word (sheets_of r) member
                  (in_contains v.word s.left v.member)));
              better = v.better;
              under = v.under;
              ends = v.ends;
            })
          ])
      | inr k ↦ inr (record {
        word = h.word;
        member = grind (arith, contains_in, in_right);
        better = h.better;
        under = h.under;
        ends = h.ends;
      })
    ]
  ]

  after_keeps : (o : Option (Walk × List Walk)) → up_to_hit r.bound (sheets_of r) ≡ o
      → StandsCovering r.shop (after_round r (sheets_of r) o)
  after_keeps None e =
      let b = best_of_round r is
      in (
        after_is_standing r is None e,
        λ starts f. elim (keeps_open b starts f) [
          | inl a ↦ inl a
          | inr h ↦ grind (arith, still_better, open_all)
        ],
      )
  after_keeps (Some (h, counted)) e =
      let m = hit_in r.bound (sheets_of r) h counted e
      in let k = in_all (IsOfRound r.shop r.best) h (sheets_of r) m.0 (known r is)
      in let f = found_is r.shop r.word r.best r.bound h.found h.best is.best is.full k.found m.1
      in grind (arith, after_is_standing, opening_bound)

pub gather_covers : GatheringCovers
gather_covers r k = after_keeps r k.0 k.1 (up_to_hit r.bound (sheets_of r)) refl

-- the words of what is cut are those that were open, in their order
cut_words_are : (shop : Shop) (plan : Planned) (s : Stand)
    → words_of_round (cut_of shop plan s) ≡ in_order shop plan.order s.open_words
cut_words_are shop plan s = pieces_all plan (in_order shop plan.order s.open_words)

-- what is cut from a standing is a round
pub cut_is_round : (shop : Shop) (plan : Planned) (s : Stand) → IsStanding shop s → IsRound (cut_of shop plan s)
cut_is_round shop plan s standing =
    let words = in_order shop plan.order s.open_words
    in let same = cut_words_are shop plan s
    in let all = ordered_all shop plan.order (IsWord shop) s.open_words
    (all_contains (IsWord shop) s.open_words standing.words)
    in let low = least_bound-le shop (lb shop s.word) words
    in record {
      full = standing.full;
      best = refl;
      words = subst (AreWords shop) (sym same) (contains_all (IsWord shop) words all);
      most = low.0;
      bound = λ w h. low.1 w (in_contains w words (subst (λ ws. Contains ws w) same h));
    }

pub cut_covers : CutsCover
cut_covers shop plan s k =
    let words = in_order shop plan.order s.open_words
    in let c = lb shop s.word
    in let covers : Covers shop c words = (λ starts f. elim (k.1 starts f) [
      | inl h ↦ inl h
      | inr h ↦ inr (record {
        word = h.word;
        member = contains_in h.word words
            (ordered_in shop plan.order h.word s.open_words (in_contains h.word s.open_words h.member));
        better = h.better;
        under = h.under;
        ends = h.ends;
      })
    ])
    in (cut_is_round shop plan s k.0, subst (Covers shop c) (sym (cut_words_are shop plan s)) covers)

pub round_covers : RoundsKeepTheCover
round_covers shop plan s k = gather_covers (cut_of shop plan s) (cut_covers shop plan s k)
