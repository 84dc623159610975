-- Lists that are taken from their ends.
use Rattle.std.{proofs.Common.{◌≡◌, List, [], ◌∷◌, ◌++◌, arith, Option, Ok, Err}, specs.Prelude.All}
use Rattle.std.proofs.lemmas.List.{append_assoc, Elements.{All-cons, All-weaker}}
use Rattle.shop_runs.specs.{Entries.number_of, declared.entries.Entry.Entry}
use Rattle.shop_workers.specs.{Entries.Brought, inner.Gathered.{Fills, HasFilled, StayFilled}}

-- what was taken has P
pub record AreThrough {X : Type 0} (P : X → Type 0) (all left : List X) : Type 0 where
  pub done : List X
  pub split : all ≡ left ++ done
  pub holds : All P done

pub through_one : {X : Type 0} (P : X → Type 0) (all before left : List X) (x : X) → P x
    → before ≡ left ++ x ∷ [] → AreThrough P all before → AreThrough P all left
through_one P all before left x here was through = grind (arith, append_assoc, All-cons)

-- what had P has Q now
pub through_more : {X : Type 0} (P Q : X → Type 0) (all before left : List X) (x : X) → ((y : X) → P y → Q y) → Q x
    → before ≡ left ++ x ∷ [] → AreThrough P all before → AreThrough Q all left
through_more P Q all before left x weaker here was through = through_one Q all before left x here was (record {
  done = through.done;
  split = through.split;
  holds = All-weaker P Q weaker through.done through.holds;
})

pub still_filled : (before after : List (Option Entry)) → StayFilled before after → (b : Brought)
    → HasFilled before b → HasFilled after b
still_filled before after stay (Ok v) fill =
    All-weaker (Fills before) (Fills after) (λ e. stay (number_of e.kind)) v.items fill
still_filled before after stay (Err e) none = none
