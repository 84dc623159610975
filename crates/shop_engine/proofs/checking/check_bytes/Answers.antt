use Rattle.std.proofs.{Common.{◌≡◌, arith}, lemmas.Grind.common_steps, lemmas.Result.{IfOk-weaker, IfErr-weaker}}
use Rattle.std.specs.Option.{option_copied}
use Rattle.shop_text.specs.{Names.shop_of_named, Schedules.IsTableFault, Texts.OrNoMemory}
use Rattle.shop_engine.specs.{Asking.name_in, Checking.{schedule_in, IsVerdictOn, IsCheckOf, IsCheckFault}}
use Rattle.shop_engine.proofs.{Picks.is_asked, Verdicts.{checked, check_refused}}
use Rattle.shop_engine.proofs.checking.check_bytes.Goals as goal

pub returns-clause-check : goal.returns-clause-check
returns-clause-check c =
    let args = c.args.args.now
    in let asked = shop_of_named c.in_ok-asked.asked.now
    in let text = c.args.text.now
    in let given = option_copied c.args.schedule
    in let picked = is_asked args.format (name_in args.name) c.in_ok-named.ensures.0 c.as_slice.ensures.value
    c.in_ok-asked.ensures
    in let schedule = c.unwrap_or.result.now
    in let chosen : schedule ≡ schedule_in text given = grind (arith, common_steps)
    in IfOk-weaker c.judge.result (λ r. IsVerdictOn asked.shop schedule r.0 r.1.items)
    (λ r. IsCheckOf args.format (name_in args.name) text (schedule_in text given) r.0 r.1.items)
    (λ r h. checked args.format (name_in args.name) given text schedule asked r.0 r.1.items picked
    chosen h) c.judge.ensures.judges

pub returns-clause-refused : goal.returns-clause-refused
returns-clause-refused c =
    let args = c.args.args.now
    in let asked = shop_of_named c.in_ok-asked.asked.now
    in let text = c.args.text.now
    in let given = option_copied c.args.schedule
    in let schedule = c.unwrap_or.result.now
    in let chosen : schedule ≡ schedule_in text given = grind (arith, common_steps)
    in let picked = is_asked args.format (name_in args.name) c.in_ok-named.ensures.0 c.as_slice.ensures.value
    c.in_ok-asked.ensures
    in IfErr-weaker c.judge.result (OrNoMemory (IsTableFault asked.shop) schedule)
    (λ e. OrNoMemory (λ bytes. IsCheckFault args.format (name_in args.name) bytes (schedule_in bytes given)) text e)
    (λ e h. check_refused args.format (name_in args.name) given text schedule asked e picked chosen h)
    c.judge.ensures.refused
