-- What stands after a round is a standing.
use Rattle.std.proofs.Common.{◌≡◌, ◌≤◌, Option, Some, None, List, [], ◌++◌, refl, arith}
use Rattle.std.specs.List.{AllByRecursion, flat_map}
use Rattle.shop_model.specs.Word.{IsWord}
use Rattle.shop_bound.{specs.Bound.lb, proofs.Lists.all_append}
use Rattle.shop_nodes.{specs.Walking.Walk, proofs.{HighWalks.none_below, Members.{all_contains, in_all}}}
use Rattle.shop_runs.specs.Round.{Told, gathered, words_of_round, sheets_of, up_to_hit, best_word, after_round}
use Rattle.shop_runs.{specs.{Round.words_below, Laws.{IsStanding, IsRound}}, proofs.Cutting.{all_front, all_back}}
use Rattle.shop_runs.proofs.{Cutting.all_pieces, OpenLemmas.standing_from, SheetLemmas.{IsOfRound, sheets_known}}
use Rattle.shop_runs.proofs.SheetLemmas.{left_words, IsBestWord, best_is, hit_in, found_is}

module _ (r : Told) (is : IsRound r) where
  all : AllByRecursion (IsWord r.shop) (words_of_round r)
  all = all_contains (IsWord r.shop) (words_of_round r) is.words

  pub pieces_words : AllByRecursion (AllByRecursion (IsWord r.shop)) r.pieces
  pieces_words = all_pieces (IsWord r.shop) r.pieces (all_front (IsWord r.shop) (flat_map (λ p. p) r.pieces) r.rest all)

  rest_words : AllByRecursion (IsWord r.shop) r.rest
  rest_words = all_back (IsWord r.shop) (flat_map (λ p. p) r.pieces) r.rest all

  pub known : AllByRecursion (IsOfRound r.shop r.best) (sheets_of r)
  known = sheets_known r r.pieces pieces_words

  pub best_of_round : IsBestWord r.shop r.best (sheets_of r) (best_word r.best r.word (sheets_of r))
  best_of_round = best_is r.shop r.best r.word (sheets_of r) is.best is.full known

  pub open_all : AllByRecursion (IsWord r.shop) (flat_map (λ t. t.left) (sheets_of r) ++ r.rest)
  open_all = grind (arith, all_append, left_words, known, rest_words)

  -- none of the rest is below the opening bound
  pub rest_closed : words_below r.shop r.bound r.rest ≡ []
  rest_closed = none_below r.shop r.bound r.rest
      (all_back (λ w. r.bound ≤ lb r.shop w) (flat_map (λ p. p) r.pieces) r.rest
      (all_contains (λ w. r.bound ≤ lb r.shop w) (words_of_round r) is.bound))

  -- what stands after the round is a standing
  pub after_is_standing : (o : Option (Walk × List Walk)) → up_to_hit r.bound (sheets_of r) ≡ o
      → IsStanding r.shop (after_round r (sheets_of r) o)
  after_is_standing None e = standing_from r.shop (best_word r.best r.word (sheets_of r))
      (flat_map (λ t. t.left) (sheets_of r) ++ r.rest) _ _ best_of_round.full open_all
  after_is_standing (Some (h, counted)) e = grind (arith, hit_in, in_all, known, found_is)

pub gathered_is_standing : (r : Told) → IsRound r → IsStanding r.shop (gathered r)
gathered_is_standing r is = after_is_standing r is (up_to_hit r.bound (sheets_of r)) refl
