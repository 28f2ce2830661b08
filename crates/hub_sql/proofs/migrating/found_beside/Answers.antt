use Rattle.std.proofs.Common.{◌≡◌, inl, inr, List, refl, ap, subst, ◌∙◌}
use Rattle.sqlite.specs.Held.{state}
use Rattle.sql_rows.proofs.Transactions.{clean_before}
use Rattle.hub_schema.specs.Rows.{tables_in, traffic_in}
use Rattle.hub_tables.specs.Change.{apply_all}
use Rattle.hub_tables.specs.declared.change.Change.{Change}
use Rattle.hub_sql.proofs.migrating.found_beside.Goals as goal

pub from_tables-requires-clause-hub : goal.from_tables-requires-clause-hub
from_tables-requires-clause-hub g c clean =
    let it = c.in-Ok-migrate.ensures in
    let early = clean_before (state g.S.Store c.args.conn) (state g.S.Store c.migrate.new.conn) _ it.crash clean in
    (it.done clean (c.requires.hub early)).1

pub returns-in-Ok-migrate-clause-holds : goal.returns-in-Ok-migrate-clause-holds
returns-in-Ok-migrate-clause-holds g c =
    let old = state g.S.Store c.args.conn in
    let new = state g.S.Store c.migrate.new.conn in
    let before = traffic_in old.now.trees in
    let it = c.in-Ok-migrate.ensures in
    let early = clean_before old new _ it.crash in
    let changes = c.as_slice.ensures.value ∙ c.in-Ok.ensures.changes in
    rw c.from_tables.ensures
    (record {
      whole = refl;
      rows_are = λ clean. subst (λ (made : List Change). tables_in new.now.trees ≡ apply_all made before) changes
          (it.done clean (c.requires.hub (early clean))).2;
      crash = λ clean t left. elim left [
        | inl same ↦ same
        | inr made ↦ made.2 ∙ ap tables_in (it.durable clean made.0 made.1)
      ];
      clean = early;
    })
