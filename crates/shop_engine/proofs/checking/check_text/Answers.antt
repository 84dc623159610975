use Rattle.std.{proofs.Common.inr, specs.Option.option_map}
use Rattle.shop_engine.specs.{Faults.fault_of, Devices.{IsWritten, IsCutOff}, Asking.name_in, Checking.IsChecking}
use Rattle.shop_engine.proofs.{Picks.is_asked_in, Sources.at_err, Verdicts.{unread_after, faulty_after, judged}}
use Rattle.shop_engine.proofs.checking.check_text.Goals as goal

pub returns-in_err-schedule : goal.returns-in_err-schedule
returns-in_err-schedule g c =
    let args = c.args.args.now
    in let second = option_map g.T.Source.device c.args.schedule.now
    in let second' = option_map g.T.Source.device c.schedule_of.new.second
    in let sink = g.K.Sink.device c.args.sink.now
    in let t = c.in_ok-text
    in let picked = is_asked_in args.format (name_in args.name) c.in_ok-named.ensures.0
    c.as_slice.ensures.value c.as_slice-2.ensures.value c.in_ok-asked.ensures
    in let e = c.in_err-schedule
    in at_err (IsChecking args (g.S.Source.device c.args.source.now)
    (g.S.Source.device c.read_all.new.source) second second' sink sink)
    c.from_residual-in_err-schedule.result e.field-0.0 c.from_residual-in_err-schedule.ensures.1
    (unread_after args second second' sink t.ensures.read picked e.field-0.0 e.ensures.unread)

pub returns-in_err-is_feasible : goal.returns-in_err-is_feasible
returns-in_err-is_feasible g c =
    let args = c.args.args.now
    in let second = option_map g.T.Source.device c.args.schedule.now
    in let second' = option_map g.T.Source.device c.schedule_of.new.second
    in let sink = g.K.Sink.device c.args.sink.now
    in let t = c.in_ok-text
    in let picked = is_asked_in args.format (name_in args.name) c.in_ok-named.ensures.0
    c.as_slice.ensures.value c.as_slice-2.ensures.value c.in_ok-asked.ensures
    in let e = c.in_err-is_feasible
    in at_err (IsChecking args (g.S.Source.device c.args.source.now)
    (g.S.Source.device c.read_all.new.source) second second' sink sink)
    c.from_residual-in_err-is_feasible.result (fault_of e.field-0.0) c.from_residual-in_err-is_feasible.ensures.1
    (faulty_after args second second' sink t.ensures.read picked c.in_ok-schedule.ensures.read
    c.in_ok-schedule.ensures.short c.as_slice-3.ensures.value e.field-0.0 e.ensures.refused)

pub returns-in_err-write_all : goal.returns-in_err-write_all
returns-in_err-write_all g c =
    let args = c.args.args.now
    in let second = option_map g.T.Source.device c.args.schedule.now
    in let second' = option_map g.T.Source.device c.schedule_of.new.second
    in let sink = g.K.Sink.device c.args.sink.now
    in let sink' = g.K.Sink.device c.write_all.new.sink
    in let t = c.in_ok-text
    in let picked = is_asked_in args.format (name_in args.name) c.in_ok-named.ensures.0
    c.as_slice.ensures.value c.as_slice-2.ensures.value c.in_ok-asked.ensures
    in let e = c.in_err-write_all
    in at_err (IsChecking args (g.S.Source.device c.args.source.now)
    (g.S.Source.device c.read_all.new.source) second second' sink sink')
    c.from_residual-in_err-write_all.result e.field-0.0 c.from_residual-in_err-write_all.ensures.1 (inr (inr (
      e.ensures.unwritten.0,
      _,
      judged second second' (IsCutOff sink sink') t.ensures.read picked
          c.in_ok-schedule.ensures.read c.as_slice-3.ensures.value c.in_ok-is_feasible.ensures.judges
          c.as_slice-4.ensures.value e.ensures.unwritten.1,
    )))

pub returns : goal.returns
returns g c =
    let args = c.args.args.now
    in let second = option_map g.T.Source.device c.args.schedule.now
    in let second' = option_map g.T.Source.device c.schedule_of.new.second
    in let t = c.in_ok-text
    in let picked = is_asked_in args.format (name_in args.name) c.in_ok-named.ensures.0
    c.as_slice.ensures.value c.as_slice-2.ensures.value c.in_ok-asked.ensures
    in judged second second' (IsWritten (g.K.Sink.device c.args.sink.now) (g.K.Sink.device c.write_all.new.sink))
    t.ensures.read picked c.in_ok-schedule.ensures.read c.as_slice-3.ensures.value c.in_ok-is_feasible.ensures.judges
    c.as_slice-4.ensures.value c.in_ok-write_all.ensures.written
