use Rattle.std.proofs.Common.{not, ap, ◌∙◌}
use Rattle.sqlite.specs.Held.{state}
use Rattle.sqlite.specs.Values.{bound}
use Rattle.hub_rows.proofs.Asking.{asked_ok, asked_err}
use Rattle.hub_rows.proofs.ask.query.Goals as goal

pub returns-in-Ok-clause-asks : goal.returns-in-Ok-clause-asks
returns-in-Ok-clause-asks g c =
    asked_ok c.args.text.now (bound c.args.params.now) (state g.S.Store c.args.conn.now) (state g.S.Store c.query_all.new.self)
    c.query_all.ensures.mode c.query_all.ensures.survives c.in-Ok.rows c.in-Ok.ensures.ok

pub returns-in-Err-clause-asks : goal.returns-in-Err-clause-asks
returns-in-Err-clause-asks g c =
    asked_err c.args.text.now (bound c.args.params.now) (state g.S.Store c.args.conn.now) (state g.S.Store c.query_all.new.self)
    c.query_all.ensures.mode c.query_all.ensures.survives c.in-Err.error c.fault_by.result c.fault_by.ensures.exact c.in-Err.ensures.err
    (λ idle. c.is_autocommit.ensures.settled (c.is_autocommit.ensures.value ∙ ap not idle))
