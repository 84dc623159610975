use Rattle.std.proofs.Common.{ℕ, List, [], ◌∷◌, ◌++◌, ◌+◌, ◌-◌, ◌<◌, ◌≡◌, length, take, get_or, ap, sym, ◌∙◌, arith}
use Rattle.std.proofs.lemmas.List.{take_all, take_more}
use Rattle.search_tests.proofs.desks.undo.Goals as goal

-- a list that isn't empty is its beginning and its last element
cut_last : (w : List ℕ) → 0 < length w → w ≡ take (length w - 1) w ++ get_or w (length w - 1) 0 ∷ []
cut_last w some =
    let n = length w - 1
    in let long : n + 1 ≡ length w = omega arith
    in sym (take_all (n + 1) w (omega arith)) ∙ take_more w n 0 (omega arith)

pub returns-then-jobs-gt0 : goal.returns-then-jobs-gt0
returns-then-jobs-gt0 c =
    let w = c.args.desk.now.word
    in let some : 0 < length w =
    let a = ap (λ (xs : List ℕ). length xs) c.jobs.ensures in let b = c.if-jobs-gt0.true in omega arith
    in ap (λ d. d.shop) (c.undo.ensures (take (length w - 1) w) (get_or w (length w - 1) 0) (cut_last w some))
