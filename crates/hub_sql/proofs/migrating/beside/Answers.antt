use Rattle.std.proofs.Common.{inl, sym, true≢false, ◌∙◌}
use Rattle.std.proofs.lemmas.Result.{IfOk-weaker, IfErr-weaker}
use Rattle.sqlite.specs.Held.{state}
use Rattle.hub_founding.specs.Fits.{founded_beside}
use Rattle.hub_schema.specs.Rows.{traffic_in}
use Rattle.hub_sql.proofs.Adopted.{rows_held_before}
use Rattle.hub_sql.proofs.migrating.beside.Goals as goal

pub returns-in-Ok-clause-holds : goal.returns-in-Ok-clause-holds
returns-in-Ok-clause-holds g c =
    rows_held_before g.S.Store (state g.S.Store c.args.conn) (state g.S.Store c.in-Ok.conn)
    (λ trees. founded_beside (traffic_in trees) c.args.register.now) c.found_beside.result
    c.in-Ok.ensures.before c.in-Ok.ensures.clean c.found_beside.ensures.holds

pub returns-in-Ok-clause-fits : goal.returns-in-Ok-clause-fits
returns-in-Ok-clause-fits g c =
    IfOk-weaker c.found_beside.result _ _ (λ store holds honest. c.in-Ok.ensures.fits (holds.clean honest))
    c.found_beside.ensures.holds

pub returns-in-Ok-clause-register : goal.returns-in-Ok-clause-register
returns-in-Ok-clause-register g c =
    IfOk-weaker c.found_beside.result _ _ (λ store holds. c.found_beside.ensures.register) c.found_beside.ensures.holds

pub returns-in-Ok-clause-none : goal.returns-in-Ok-clause-none
returns-in-Ok-clause-none g c =
    IfErr-weaker c.found_beside.result _ _ (λ e fails is. absurd (fails.1 is)) c.found_beside.ensures.fails

pub returns-in-Ok-clause-known : goal.returns-in-Ok-clause-known
returns-in-Ok-clause-known g c =
    IfErr-weaker c.found_beside.result _ _ (λ e fails. inl c.in-Ok.ensures.schema) c.found_beside.ensures.fails

pub returns-in-Ok-clause-unfit : goal.returns-in-Ok-clause-unfit
returns-in-Ok-clause-unfit g c =
    IfErr-weaker c.found_beside.result _ _
    (λ e spared clean unfit rows memory. absurd (true≢false (sym (c.in-Ok.ensures.fits (spared.clean clean)) ∙ unfit)))
    c.found_beside.ensures.spared

pub returns-in-Ok-clause-fails : goal.returns-in-Ok-clause-fails
returns-in-Ok-clause-fails g c =
    IfErr-weaker c.found_beside.result _ _ (λ e fails. fails.0) c.found_beside.ensures.fails
