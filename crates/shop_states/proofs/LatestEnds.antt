-- The latest end of some candidates and that of the others, candidate by candidate.
use Rattle.std.proofs.Common.{◌≡◌, ℕ, ◌+◌, ◌≤◌, ◌<◌, ◌⊎◌, inl, inr, List, length, sym, ◌∙◌, ap, arith}
use Rattle.std.proofs.lemmas.Bool.{cases_eq}
use Rattle.shop_states.specs.declared.{late_raises.Latest.Latest, states.Candidate.Candidate}
use Rattle.shop_states.specs.inner.Siblings.{IsAmong, job_at}

-- of the first n candidates
pub record AreLatestOf (ends : ℕ → ℕ) (cs : List Candidate) (n : ℕ) (t : Latest) : Type 0 where
  pub last : IsAmong cs t.job
  pub end : t.end ≡ ends t.job
  pub each : (i : ℕ) → i < n → ends (job_at cs i) ≤ t.end
  pub others : (i : ℕ) → i < n → (job_at cs i ≡ t.job → ⊥) → ends (job_at cs i) ≤ t.second
  pub second : (t.second ≡ 0) ⊎ ((j : ℕ) × (IsAmong cs j × ((j ≡ t.job → ⊥) × (t.second ≡ ends j))))

module _ {ends : ℕ → ℕ} {cs : List Candidate} {n : ℕ} {t : Latest} (so_far : AreLatestOf ends cs n t)
    (known : n < length cs) {job end : ℕ} (job_is : job ≡ job_at cs n) (end_is : end ≡ ends job) where
  here : IsAmong cs job
  here = record { at = n; within = known; is = sym job_is }

  end_at : ends (job_at cs n) ≡ end
  end_at = ap ends (sym job_is) ∙ sym end_is

  pub ends_later : t.end < end → AreLatestOf ends cs (n + 1) (record { job = job; end = end; second = t.end })
  ends_later later =
      let last_end = so_far.end
      in let differs : t.job ≡ job → ⊥ = λ same. (let e = ap ends same in omega arith)
      in record {
        last = here;
        end = end_is;
        each = λ i at. elim (cases_eq i n) [
          | inl is ↦ (let e = ap (λ (k : ℕ). ends (job_at cs k)) is in let a = end_at in omega arith)
          | inr ne ↦ (let a = so_far.each i (omega arith) in omega arith)
        ];
        others = λ i at other. elim (cases_eq i n) [
          | inl is ↦ absurd (other (ap (job_at cs) is ∙ sym job_is))
          | inr ne ↦ so_far.each i (omega arith)
        ];
        second = inr (t.job, (so_far.last, (differs, so_far.end)));
      }

  module _ (low : end ≤ t.end) where
    each_low : (i : ℕ) → i < n + 1 → ends (job_at cs i) ≤ t.end
    each_low i at = elim (cases_eq i n) [
      | inl is ↦ (let e = ap (λ (k : ℕ). ends (job_at cs k)) is in let a = end_at in omega arith)
      | inr ne ↦ so_far.each i (omega arith)
    ]

    pub ends_second : (job ≡ t.job → ⊥) → t.second < end
        → AreLatestOf ends cs (n + 1) (record { job = t.job; end = t.end; second = end })
    ends_second differs later = record {
      last = so_far.last;
      end = so_far.end;
      each = each_low;
      others = λ i at other. elim (cases_eq i n) [
        | inl is ↦ (let e = ap (λ (k : ℕ). ends (job_at cs k)) is in let a = end_at in omega arith)
        | inr ne ↦ (let a = so_far.others i (omega arith) other in omega arith)
      ];
      second = inr (job, (here, (differs, end_is)));
    }

    pub ends_earlier : (job ≡ t.job) ⊎ (end ≤ t.second) → AreLatestOf ends cs (n + 1) t
    ends_earlier enough = record {
      last = so_far.last;
      end = so_far.end;
      each = each_low;
      others = λ i at other. elim (cases_eq i n) [
        | inl is ↦ (let e = ap (λ (k : ℕ). ends (job_at cs k)) is in let a = end_at
            in elim enough [
              | inl same ↦ absurd (other (ap (job_at cs) is ∙ (sym job_is ∙ same)))
              | inr early ↦ omega arith
            ])
        | inr ne ↦ so_far.others i (omega arith) other
      ];
      second = so_far.second;
    }
