use Rattle.std.proofs.Common.{OnOk, refl, sym, subst}
use Rattle.sqlite.specs.Held.{state}
use Rattle.hub_schema.specs.Rows.{tables_in}
use Rattle.hub_schema.specs.State.{Makes}
use Rattle.hub_writes.proofs.Founded.{ended_ok}
use Rattle.hub_writes.proofs.founding.raise.Goals as goal

pub returns-clause-makes : goal.returns-clause-makes
returns-clause-makes g c clean has number begun =
    let old = state g.S.Store c.args.tx.now.conn.now in
    let new = state g.S.Store c.set_number.new.tx.conn.now in
    let made = c.set_number.ensures.makes clean 2 old.now.trees number has.ordered (record {
      schema = has.schema;
      same = (refl, (refl, (refl, (refl, (refl, (refl, (refl, (refl, (refl, (refl, (refl, (refl, tt))))))))))));
      mode = begun;
    }) in
    subst (λ r. OnOk r (Makes (λ _. tables_in old.now.trees) old new)) (sym c.statement_ended.ensures)
    (ended_ok c.set_number.result _ made)
