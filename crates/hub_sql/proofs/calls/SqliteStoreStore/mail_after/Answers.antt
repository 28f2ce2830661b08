use Rattle.std.proofs.Common.{◌≡◌, rules, None, refl, subst}
use Rattle.hub_sql.specs.Settling.{Settles}
use Rattle.hub_sql.specs.Stored.{Stored}
use Rattle.hub_sql.proofs.Lists.{list_taken, shown_taken}
use Rattle.hub_sql.proofs.Looking.{look_settles}
use Rattle.hub_sql.proofs.calls.SqliteStoreStore.mail_after.Goals as goal

pub list_after-found-requires-clause-taken : goal.list_after-found-requires-clause-taken
list_after-found-requires-clause-taken g c = shown_taken g.S.Store _ c.self.invariant

pub invariant_of-self : goal.invariant_of-self
invariant_of-self g c =
    let list = c.list_after-found in
    let past = c.self.inside.past.items in
    let old : Stored g.row.S.Denot = record { held = c.self.inside.conn; fault = c.self.inside.fault; past = past } in
    let new : Stored g.row.S.Denot = record { held = list.new.conn; fault = c.settle.new.fault; past = past } in
    let whole : c.self.inside.fault ≡ None = search rules in
    let still = look_settles g.S.Store old new c.self.invariant whole refl _ _ _ list.ensures.looks
    (subst (λ schema. Settles list.result schema c.settle.result c.settle.new.fault) c.schema.ensures.value c.settle.ensures.settles) in
    record {
      idle = still.idle;
      schema = still.schema;
      hub = still.hub;
      rows = still.rows;
      register = still.register;
      taken = list_taken g.S.Store old new c.self.invariant whole refl _ _ list.ensures.looks list.new.marks
          list.ensures.taken list.ensures.stays;
      few = list.ensures.few;
    }
