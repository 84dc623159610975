use Rattle.std.proofs.Common.{rules, ◌∷◌, ◌∙◌, Some, None, refl, subst, sym}
use Rattle.shop_runs.{specs.inner.Stacks.{words_on, IsTopIfMore}, proofs.StackLemmas.next_is}
use Rattle.shop_runs.proofs.bound_maps.BoundMap.pop.Goals as goal
use Rattle.shop_runs.proofs.bound_maps.BoundMap.pop.Goals.{in-Some-pop_if_more+in_ok-insert-in-Some-pop_if_more}
use Rattle.shop_runs.proofs.bound_maps.BoundMap.pop.Goals.{in-None}

pub returns : goal.returns
returns c =
    let before = c.self.inside.stacks.entries
    in let rest = c.pop_first.new.self.entries
    in let bound = c.in-Some.bound
    in let stack = c.in-Some.stack
    in let left = c.pop_if_more.new.self
    in elim c.match-pop_if_more.branch [
      | in-Some-pop_if_more+in_ok-insert-in-Some-pop_if_more w ↦
          (let top = subst (λ r. IsTopIfMore r (words_on stack) (words_on left)) w.in-Some-pop_if_more.is
          c.pop_if_more.ensures
          in sym c.self.view_is ∙ (next_is before w.insert.new.self.entries rest bound stack w.in-Some-pop_if_more.word
          (Some left) (search rules) (search rules) top w.in_ok-insert-in-Some-pop_if_more.ensures.entries
          ∙ (λ i. record { word = sym (c.of_shared-word.ensures ∙ w.word-is) i; bound = bound } ∷ sym w.self-is i)))
      | in-None w ↦
          (let same = subst (λ r. IsTopIfMore r (words_on stack) (words_on left)) w.in-None.is c.pop_if_more.ensures
          in sym c.self.view_is ∙ (next_is before rest rest bound stack w.into_last-word.result None
          (search rules) (search rules) (sym same.0 ∙ w.into_last-word.ensures) refl
          ∙ (λ i. record { word = sym (c.of_shared-word.ensures ∙ w.word-is) i; bound = bound } ∷ sym w.self-is i)))
    ]
