use Rattle.std.proofs.Common.{sym, ◌∙◌}
use Rattle.sqlite.specs.Held.{state}
use Rattle.sql_rows.proofs.Transactions.{clean_before}
use Rattle.hub_schema.proofs.Same.{same_old_hub}
use Rattle.hub_sql.proofs.migrating.connection_if_fits.Goals as goal

pub returns-in-Ok-true-clause-hub : goal.returns-in-Ok-true-clause-hub
returns-in-Ok-true-clause-hub g c clean =
    let old = state g.S.Store c.args.conn in
    let new = state g.S.Store c.fits.new.conn in
    let looks = c.in-Ok-true.ensures.looks.looks in
    let shown = looks.same clean in
    let early = clean_before old new _ looks.crash clean in
    same_old_hub old new shown.2 (record {
      schema = sym c.schema.ensures.value ∙ c.is_old_schema.ensures.0 c.if-not-is_old_schema.false;
      numbered = c.requires.number early;
      ordered = c.requires.shaped early;
      sound = (c.requires.ready early).sound;
    })
