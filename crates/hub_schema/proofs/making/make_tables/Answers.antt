use Rattle.std.proofs.Common.{◌≡◌, [], Err, false, refl, sym, subst, ◌∙◌, rules}
use Rattle.sqlite.specs.Held.{state}
use Rattle.sqlite_trees.specs.Tree.{no_trees}
use Rattle.sql_rows.proofs.Transactions.{clean_before}
use Rattle.hub_schema.specs.Making.{LeavesTables}
use Rattle.hub_schema.specs.Schema.{hub_tables}
use Rattle.hub_schema.proofs.Beside.{bare_at_all}
use Rattle.hub_schema.proofs.Makes.{stops_first, stops_later, stops_nowhere, some_made}
use Rattle.hub_schema.proofs.making.make_tables.Goals as goal

pub returns-clause-makes : goal.returns-clause-makes
returns-clause-makes g c clean has =
    let one = state g.S.Store c.make_all.new.tx.conn.now in
    let two = state g.S.Store c.put_number.new.tx.conn.now in
    let early = clean_before one two _ c.put_number.ensures.survives clean in
    let made = c.in_ok-make_all.ensures.makes early no_trees [] hub_tables c.all.ensures.texts bare_at_all has in
    let put = c.in_ok-put_number.ensures.makes clean made.made in
    record { hub = put.hub; tables = put.tables; committed = put.committed ∙ made.committed; mode = put.mode }

pub returns-in_err-make_all-clause-leaves : goal.returns-in_err-make_all-clause-leaves
returns-in_err-make_all-clause-leaves g c =
    let old = state g.S.Store c.args.tx.now.conn.now in
    let one = state g.S.Store c.make_all.new.tx.conn.now in
    let e = c.in_err-make_all.field-0.0 in
    let same : c.from_residual.result ≡ Err e = search rules in
    subst (LeavesTables no_trees [] old one) (sym same)
    (stops_first no_trees [] old one e
    (λ clean has. c.in_err-make_all.ensures.fault no_trees [] hub_tables [] c.all.ensures.texts bare_at_all refl clean has)
    (λ none. (c.in_err-make_all.ensures.ended none).1))

pub returns-in_err-put_number-clause-leaves : goal.returns-in_err-put_number-clause-leaves
returns-in_err-put_number-clause-leaves g c =
    let old = state g.S.Store c.args.tx.now.conn.now in
    let one = state g.S.Store c.make_all.new.tx.conn.now in
    let two = state g.S.Store c.put_number.new.tx.conn.now in
    let e = c.in_err-put_number.field-0.0 in
    let same : c.from_residual-in_err-put_number.result ≡ Err e = search rules in
    let failed = subst (LeavesTables no_trees hub_tables one two) c.in_err-put_number.was c.put_number.ensures.leaves in
    let ran : old.in_transaction ≡ false → ⊥ = λ none.
    some_made [] c.all.result.now hub_tables refl c.all.ensures.texts (c.in_ok-make_all.ensures.ended none).0 in
    subst (LeavesTables no_trees [] old two) (sym same)
    (stops_later no_trees [] hub_tables old one two e
    (λ clean has. c.in_ok-make_all.ensures.makes clean no_trees [] hub_tables c.all.ensures.texts bare_at_all has)
    ran c.make_all.ensures.kept (clean_before one two _ c.put_number.ensures.survives) failed)

pub returns-clause-leaves : goal.returns-clause-leaves
returns-clause-leaves g c =
    let old = state g.S.Store c.args.tx.now.conn.now in
    stops_nowhere no_trees [] old (state g.S.Store c.put_number.new.tx.conn.now) tt
    (λ none. some_made [] c.all.result.now hub_tables refl c.all.ensures.texts (c.in_ok-make_all.ensures.ended none).0)
