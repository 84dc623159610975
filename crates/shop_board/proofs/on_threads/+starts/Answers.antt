use Rattle.std.proofs.{Common.{◌≡◌, ◌++◌, ◌∷◌, [], List, ap, arith, length}, lemmas.Grind.common_steps}
use Rattle.std.{proofs.lemmas.Result.IfOk-at_ok, specs.Fork.Halves.GivesFor}
use denote.Param.Members.{Shared}
use Rattle.shop_board.proofs.on_threads.+starts.Goals as goal

gives_more : {F J R : Type 0} {h : Shared F (J × Unit {0}) R} {f : F} {all js : List J} {rs rest : List R}
    {j : J} {r : R} → all ≡ js ++ j ∷ [] → rs ≡ rest ++ r ∷ [] → GivesFor h f js rest → GivesFor h f (j ∷ []) (r ∷ [])
    → GivesFor h f all rs
gives_more is pushed before last = grind (arith, common_steps)

pub returns : goal.returns
returns g i c = gives_more c.in-Some.ensures.items c.in_ok-push.ensures.items
    (IfOk-at_ok (λ v. GivesFor g.F.Fn c.args.f.now c.pop.new.self.items v.items) c.in_ok-all.was
    c.join-found.ensures.second) c.join-found.ensures.first

pub returns-in_default : goal.returns-in_default
returns-in_default g i c = record {
  len = omega (arith, c.in_default.ensures.cases.0, c.args.jobs.ok.0, ap length c.new.ensures.items);
  each = λ k d below. absurd (omega (arith, c.in_default.ensures.cases.0, c.args.jobs.ok.0));
}
