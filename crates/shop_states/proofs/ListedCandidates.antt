-- The candidates of a word, one by one.
use Rattle.std.proofs.Common.{ℕ, zero, suc, ◌<◌, inl, inr, List, length, get_or, arith}
use Rattle.shop_model.specs.{Shop.Shop, Word.{IsWord, placing}}
use Rattle.shop_bound.specs.Conflicts.{conflict, open_jobs}
use Rattle.shop_states.specs.{States.{ListsBelow, none, listed, closed}, declared.states.Candidate.Candidate}
use Rattle.shop_states.specs.inner.{RisingLists.IsIn, Siblings.{AreSiblings, job_at}}
use Rattle.shop_states.proofs.{Candidates.candidate_fits, OwnSpans.on_one}

-- each is one of the jobs, with its own number
pub listed_at : {shop : Shop} {w : List ℕ} {limit : ℕ} {is : Candidate → Type 0} {js : List ℕ} {cs : List Candidate}
    {n : ℕ} → ListsBelow shop w limit is js cs n → (i : ℕ) (d : Candidate) → i < length cs
    → IsIn js (get_or cs i d).job × is (get_or cs i d)
listed_at none i d here = absurd (omega arith)
listed_at (listed j c e own rest) zero d here = (inl e, own)
listed_at (listed j c e own rest) (suc i) d here = let r = listed_at rest i d (omega arith) in (inr r.0, r.1)
listed_at (closed j high rest) i d here = let r = listed_at rest i d here in (inr r.0, r.1)

-- they are on one machine, and the word goes on with each
pub are_siblings : {shop : Shop} {w : List ℕ} {limit : ℕ} {is : Candidate → Type 0} {cs : List Candidate}
    {n : ℕ} → IsWord shop w → ListsBelow shop w limit is (conflict shop w) cs n → AreSiblings shop w cs
are_siblings {shop} {w} {limit} {is} {cs} word lists =
    let none : Candidate = record { job = 0; own = 0 }
    in record {
      fits = λ i here. candidate_fits shop w word (job_at cs i) (listed_at lists i none here).0;
      machine = λ i k here there. on_one shop (placing shop w) (open_jobs shop (placing shop w)) (job_at cs i)
          (job_at cs k)
          (listed_at lists i none here).0 (listed_at lists k none there).0;
    }
