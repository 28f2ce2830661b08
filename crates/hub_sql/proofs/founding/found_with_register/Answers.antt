use Rattle.std.proofs.Common.{◌≡◌, Err, IsTrue, rules, refl, subst, ◌∙◌}
use Rattle.sqlite.specs.Held.{state}
use Rattle.hub_schema.specs.Schema.{no_schema}
use Rattle.hub_schema.specs.State.{FoundsTo}
use Rattle.hub_tables.specs.Change.{apply_all}
use Rattle.hub_tables.specs.Tables.{empty}
use Rattle.hub_sql.proofs.Sparing.{spared_founding, spared_itself}
use Rattle.hub_sql.proofs.founding.found_with_register.Goals as goal

pub returns-clause-spared : goal.returns-clause-spared
returns-clause-spared g c =
    let idle : IsTrue c.is_autocommit-idle.result = search rules in
    spared_founding g.S.Store (c.args.conn.schema ≡ no_schema) empty c.args.register.now c.args.conn c.found.new.conn
    c.in-Err.fault (c.is_autocommit-idle.ensures.settled idle) c.requires.bare (λ clean. refl)
    (subst (λ changes. FoundsTo (c.args.conn.schema ≡ no_schema) (apply_all changes empty) (state g.S.Store c.args.conn)
    (state g.S.Store c.found.new.conn) (Err c.in-Err.fault)) (c.as_slice.ensures.value ∙ c.in-Ok.ensures.changes) c.in-Err.ensures)

pub returns-in_default-clause-spared : goal.returns-in_default-clause-spared
returns-in_default-clause-spared g c =
    let idle : IsTrue c.is_autocommit-idle.result = search rules in
    spared_itself g.S.Store _ c.args.conn (c.is_autocommit-idle.ensures.settled idle) c.requires.idle
