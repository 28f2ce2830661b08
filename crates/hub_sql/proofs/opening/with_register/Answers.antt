use Rattle.std.proofs.Common.{IsTrue, rules, sym, ◌∙◌}
use Rattle.sqlite.specs.Held.{state}
use Rattle.sql_rows.proofs.Transactions.{clean_before}
use Rattle.hub_schema.specs.Schema.{hub_schema}
use Rattle.hub_schema.specs.State.{HasTables}
use Rattle.hub_founding.specs.Founding.{IsHeldBy, HoldsNone}
use Rattle.hub_sql.proofs.Adopted.{as_it_was}
use Rattle.hub_schema.proofs.Same.{same_tables}
use Rattle.hub_sql.proofs.Sparing.{spared_itself, spared_looked}
use Rattle.hub_sql.proofs.opening.with_register.Goals as goal

pub returns-then-not-is_hub_schema-clause-spared : goal.returns-then-not-is_hub_schema-clause-spared
returns-then-not-is_hub_schema-clause-spared g c =
    let idle : IsTrue c.is_autocommit-was_idle.result = search rules in
    spared_itself g.S.Store (λ _. ⊥) c.args.conn (c.is_autocommit-was_idle.ensures.settled idle) c.requires.idle

pub returns-in-Ok-None-clause-spared : goal.returns-in-Ok-None-clause-spared
returns-in-Ok-None-clause-spared g c =
    let idle : IsTrue c.is_autocommit-was_idle.result = search rules in
    spared_looked g.S.Store hub_schema HasTables IsHeldBy HoldsNone c.args.conn c.register.new.conn c.register.result
    (c.is_autocommit-was_idle.ensures.settled idle) c.requires.idle c.register.ensures

pub returns-in-Err-clause-spared : goal.returns-in-Err-clause-spared
returns-in-Err-clause-spared g c =
    let idle : IsTrue c.is_autocommit-was_idle.result = search rules in
    spared_looked g.S.Store hub_schema HasTables IsHeldBy HoldsNone c.args.conn c.register.new.conn c.register.result
    (c.is_autocommit-was_idle.ensures.settled idle) c.requires.idle c.register.ensures

pub returns-in-Ok-Some-clause-tables : goal.returns-in-Ok-Some-clause-tables
returns-in-Ok-Some-clause-tables g c clean =
    let old = state g.S.Store c.args.conn in
    let new = state g.S.Store c.register.new.conn in
    let looks = c.in-Ok-Some.ensures in
    let shown = looks.same clean in
    let early = clean_before old new _ looks.crash clean in
    same_tables old new shown.2 (record {
      schema = sym c.schema.ensures.value ∙ c.is_hub_schema.ensures.0 c.if-not-is_hub_schema.false;
      ordered = c.requires.ordered early;
      sound = (c.requires.ready early).sound;
    })

pub returns-in-Ok-Some-clause-before : goal.returns-in-Ok-Some-clause-before
returns-in-Ok-Some-clause-before g c clean =
    as_it_was hub_schema HasTables IsHeldBy HoldsNone (state g.S.Store c.args.conn) (state g.S.Store c.register.new.conn) _
    c.in-Ok-Some.ensures clean
