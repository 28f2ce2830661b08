use Rattle.std.proofs.Common.{inl, rules}
use Rattle.std.proofs.lemmas.Result.{IfOk-weaker, IfErr-weaker}
use Rattle.sqlite.specs.Held.{state}
use Rattle.hub_schema.specs.Rows.{tables_in}
use Rattle.hub_sql.proofs.Adopted.{rows_held_before}
use Rattle.hub_sql.proofs.opening.store_of_rows.Goals as goal

pub returns-in-Ok-clause-holds : goal.returns-in-Ok-clause-holds
returns-in-Ok-clause-holds g c =
    rows_held_before g.S.Store (state g.S.Store c.args.conn) (state g.S.Store c.in-Ok.conn) tables_in c.raise_version.result
    c.in-Ok.ensures.before c.in-Ok.ensures.clean c.raise_version.ensures.holds

pub returns-in-Ok-clause-register : goal.returns-in-Ok-clause-register
returns-in-Ok-clause-register g c =
    IfOk-weaker c.raise_version.result _ _ (λ store holds honest. (c.in-Ok.ensures.register (holds.clean honest)).0)
    c.raise_version.ensures.holds

pub returns-in-Ok-clause-not_version : goal.returns-in-Ok-clause-not_version
returns-in-Ok-clause-not_version g c =
    IfErr-weaker c.raise_version.result _ _ (λ e fails. search rules) c.raise_version.ensures.fails

pub returns-in-Ok-clause-known : goal.returns-in-Ok-clause-known
returns-in-Ok-clause-known g c =
    IfErr-weaker c.raise_version.result _ _ (λ e fails. inl c.in-Ok.ensures.schema) c.raise_version.ensures.fails

pub returns-in-Ok-clause-unclean : goal.returns-in-Ok-clause-unclean
returns-in-Ok-clause-unclean g c =
    IfErr-weaker c.raise_version.result _ _ (λ e fails is. absurd (search rules)) c.raise_version.ensures.fails

pub returns-in-Err-clause-unclean : goal.returns-in-Err-clause-unclean
returns-in-Err-clause-unclean g c is = (c.in-Err.ensures.unclean is, c.in-Err.ensures.spared)
