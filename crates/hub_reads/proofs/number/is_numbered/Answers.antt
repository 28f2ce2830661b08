use Rattle.std.proofs.Common.{Err, ap, sym, subst, ◌∙◌, rules}
use Rattle.std.proofs.lemmas.Result.{err_from_is_err_and}
use Rattle.hub_reads.specs.Numbered.{TellsNumber}
use Rattle.sqlite.specs.Held.{state}
use Rattle.hub_reads.proofs.Numbering.{tells, tells_none}
use Rattle.hub_reads.proofs.number.is_numbered.Goals as goal

pub returns : goal.returns
returns g c = record {
  number = tells c.args.number (state g.S.Store c.args.conn.now)
      (state g.S.Store c.query.new.conn) _ c.is_alone.result c.in_ok-rows.ensures.asks
      (search rules);
}

pub returns-in_err-rows : goal.returns-in_err-rows
returns-in_err-rows g c =
    let old = state g.S.Store c.args.conn.now in
    let new = state g.S.Store c.query.new.conn in
    let failed = err_from_is_err_and c.from_residual.result c.from_residual.ensures.1 in
    record {
      number = subst (TellsNumber c.args.number old new) (sym (failed.1 ∙ ap Err failed.2))
          (tells_none c.args.number old new _ c.in_err-rows.ensures.fails c.in_err-rows.ensures.asks);
    }
