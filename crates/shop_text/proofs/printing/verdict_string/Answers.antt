use Rattle.std.proofs.Common.{sym, ap, ◌≡◌, ◌∙◌, ◌++◌, ◌∷◌, [], List, Result, string_bytes, ℕ}
use Rattle.std.specs.{Prelude.{codes, IfOk}, Fmt.decimal}
use Rattle.shop_text.specs.Writing.{verdict_text, printed_line}
use Rattle.shop_text.proofs.TextLemmas.{same_text, unreleased_is, early_is, overlap_is, early_tokens}
use Rattle.shop_text.proofs.printing.verdict_string.Goals as goal

pub returns-in-Unreleased : goal.returns-in-Unreleased
returns-in-Unreleased c = same_text string_bytes c.format-in-Unreleased.result _ _ c.format-in-Unreleased.ensures.ok
    (unreleased_is (decimal c.in-Unreleased.job) ∙ sym (ap verdict_text c.in-Unreleased.is))

pub returns-in-Early : goal.returns-in-Early
returns-in-Early c =
    same_text string_bytes c.format-in-Early.result _ _ c.format-in-Early.ensures.ok
    (early_is (decimal c.in-Early.job) (decimal c.in-Early.step) (decimal c.saturating_sub-before.result)
    ∙ ap (λ (before : ℕ). printed_line (early_tokens (decimal c.in-Early.job) (decimal c.in-Early.step)
    (decimal before))) c.saturating_sub-before.ensures ∙ sym (ap verdict_text c.in-Early.is))

overlap_line : {X E : Type 0} (bytes : X → List ℕ) (r : Result X E) (m j k i l t : List ℕ)
    → IfOk r (λ x. bytes x ≡ codes "infeasible: machine " ++ (m ++ (codes " overlap of job " ++ (j ++ (codes " step "
    ++ (k ++ (codes " and job " ++ (i ++ (codes " step " ++ (l ++ codes "\n"))))))))))
    → printed_line (codes "infeasible:" ∷ codes "machine" ∷ m ∷ codes "overlap" ∷ codes "of" ∷ codes "job" ∷ j
    ∷ codes "step" ∷ k ∷ codes "and" ∷ codes "job" ∷ i ∷ codes "step" ∷ l ∷ []) ≡ t → IfOk r (λ x. bytes x ≡ t)
overlap_line bytes r m j k i l t h e = same_text bytes r _ t h (overlap_is m j k i l ∙ e)

pub returns-in-Overlap : goal.returns-in-Overlap
returns-in-Overlap c =
    overlap_line string_bytes c.format-in-Overlap.result (decimal c.in-Overlap.machine)
    (decimal c.in-Overlap.first.job) (decimal c.in-Overlap.first.step) (decimal c.in-Overlap.second.job)
    (decimal c.in-Overlap.second.step) (verdict_text c.args.verdict.now) c.format-in-Overlap.ensures.ok
    (sym (ap verdict_text c.in-Overlap.is))
