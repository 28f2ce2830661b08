use Rattle.std.proofs.Common.{◌≡◌, rules, None, refl}
use Rattle.hub_tables.specs.Tables.{view}
use Rattle.hub_store.specs.Lines.{lines_at}
use Rattle.hub_sql.proofs.Looking.{looked_as_seen}
use Rattle.hub_sql.proofs.calls.SqliteStoreStore.lines_at.Goals as goal

pub returns-clause-looks : goal.returns-clause-looks
returns-clause-looks g c =
    let whole : c.self.inside.fault ≡ None = search rules in
    looked_as_seen g.S.Store c.self.view_is c.self.invariant whole refl
    (λ t. lines_at (view c.args.supplier.now t) c.args.number.now c.args.lines.now.keys)
    c.settle.ensures.settles c.schema.ensures.value (search rules)
