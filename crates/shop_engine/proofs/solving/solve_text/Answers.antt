use Rattle.shop_engine.specs.{Asking.{name_in, IsAskFault}, Headline.{IsRightOf, IsDeterminedOf}, Solving.IsSolution}
use Rattle.shop_engine.proofs.{Headline.{transferred, where_known}, Picks.{is_asked_in, solution}}
use Rattle.shop_engine.proofs.solving.solve_text.Goals as goal

pub returns-clause-solving : goal.returns-clause-solving
returns-clause-solving g c =
    let args = c.args.args.now
    in let picked = is_asked_in args.format (name_in args.name) c.in_ok-named.ensures.0 c.as_slice.ensures.value
    c.as_slice-2.ensures.value c.in_ok-asked.ensures
    in transferred (IsSolution args) (IsAskFault args.format (name_in args.name))
    (g.K.Sink.device c.args.sink.now) (g.K.Sink.device c.write_all.new.sink) c.in_ok-text.ensures.read
    (solution args picked c.in_ok-written.ensures.right c.in_ok-written.ensures.determined)
    c.as_slice-3.ensures.value c.write_all.result c.write_all.ensures.written c.write_all.ensures.unwritten

pub returns-clause-right : goal.returns-clause-right
returns-clause-right g c =
    let args = c.args.args.now
    in where_known (IsSolution args) (IsRightOf args.format (name_in args.name) args.gantt)
    (IsAskFault args.format (name_in args.name))
    (g.S.Source.device c.args.source.now) (g.S.Source.device c.read_all.new.source)
    (g.K.Sink.device c.args.sink.now) (g.K.Sink.device c.write_all.new.sink)
    c.write_all.result (λ text out h. h.right) (returns-clause-solving g c)

pub returns-clause-determined : goal.returns-clause-determined
returns-clause-determined g c =
    let args = c.args.args.now
    in where_known (IsSolution args) (IsDeterminedOf args) (IsAskFault args.format (name_in args.name))
    (g.S.Source.device c.args.source.now) (g.S.Source.device c.read_all.new.source)
    (g.K.Sink.device c.args.sink.now) (g.K.Sink.device c.write_all.new.sink)
    c.write_all.result (λ text out h. h.determined) (returns-clause-solving g c)
