use Rattle.std.proofs.Common.{inl, inr, IsTrue, refl, rules, ap, ◌∙◌}
use Rattle.sqlite.specs.Held.{state}
use Rattle.sql_rows.proofs.Transactions.{clean_before}
use Rattle.hub_schema.specs.Rows.{tables_in}
use Rattle.hub_sql.proofs.Sparing.{spared_number_set}
use Rattle.hub_sql.proofs.opening.renumber_tables.Goals as goal

pub from_tables-requires-clause-hub : goal.from_tables-requires-clause-hub
from_tables-requires-clause-hub g c clean =
    let it = c.in-Ok.ensures in
    let early = clean_before (state g.S.Store c.args.conn) (state g.S.Store c.renumber.new.conn) _ it.crash clean in
    (it.done clean (c.requires.tables early, c.requires.number early)).1

pub returns-in-Ok-clause-holds : goal.returns-in-Ok-clause-holds
returns-in-Ok-clause-holds g c =
    let it = c.in-Ok.ensures in
    let early = clean_before (state g.S.Store c.args.conn) (state g.S.Store c.renumber.new.conn) _ it.crash in
    rw c.from_tables.ensures
    (record {
      whole = refl;
      rows_are = λ clean. (it.done clean (c.requires.tables (early clean), c.requires.number (early clean))).2;
      crash = λ clean t left. elim left [
        | inl same ↦ same
        | inr made ↦ made.2 ∙ ap tables_in (it.durable clean made.0 made.1)
      ];
      clean = early;
    })

pub returns-in-Err-clause-spared : goal.returns-in-Err-clause-spared
returns-in-Err-clause-spared g c =
    let idle : IsTrue c.is_autocommit-was_idle.result = search rules in
    spared_number_set g.S.Store _ _ c.args.conn c.renumber.new.conn c.in-Err.fault
    (c.is_autocommit-was_idle.ensures.settled idle) (λ clean. (c.requires.tables clean, c.requires.number clean)) c.in-Err.ensures
