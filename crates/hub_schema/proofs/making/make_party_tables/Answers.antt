use Rattle.std.proofs.Common.{◌≡◌, [], Err, false, refl, sym, subst, ◌∙◌, rules}
use Rattle.sqlite.specs.Held.{state}
use Rattle.sql_rows.proofs.Transactions.{clean_before}
use Rattle.hub_schema.specs.Making.{LeavesTables, traffic_rows}
use Rattle.hub_schema.specs.Schema.{hub_tables, party_tables, traffic_tables}
use Rattle.hub_schema.proofs.Beside.{none_beside, old_made, old_ordered}
use Rattle.hub_schema.proofs.Makes.{stops_first, stops_later, stops_nowhere, some_made}
use Rattle.hub_schema.proofs.making.make_party_tables.Goals as goal

pub returns-clause-makes : goal.returns-clause-makes
returns-clause-makes g c clean hub begun =
    let old = state g.S.Store c.args.tx.now.conn.now in
    let early = clean_before (state g.S.Store c.make_all.new.tx.conn.now) (state g.S.Store
    c.set_number.new.tx.conn.now) _ c.set_number.ensures.survives clean in
    let made = c.in_ok-make_all.ensures.makes early (traffic_rows old.now.trees) traffic_tables party_tables
    c.parties.ensures (none_beside old.now.trees) (old_made old hub begun) in
    let set = c.in_ok-set_number.ensures.makes clean 1 (traffic_rows old.now.trees) hub.numbered (old_ordered old.now.trees hub.ordered)
    made.made in
    record { hub = set.hub; tables = set.tables; committed = set.committed ∙ made.committed; mode = set.mode }

pub returns-in_err-make_all-clause-leaves : goal.returns-in_err-make_all-clause-leaves
returns-in_err-make_all-clause-leaves g c =
    let old = state g.S.Store c.args.tx.now.conn.now in
    let one = state g.S.Store c.make_all.new.tx.conn.now in
    let rows = traffic_rows old.now.trees in
    let e = c.in_err-make_all.field-0.0 in
    let same : c.from_residual.result ≡ Err e = search rules in
    subst (LeavesTables rows traffic_tables old one) (sym same)
    (stops_first rows traffic_tables old one e
    (λ clean has. c.in_err-make_all.ensures.fault rows traffic_tables party_tables [] c.parties.ensures (none_beside
    old.now.trees) refl clean has)
    (λ none. (c.in_err-make_all.ensures.ended none).1))

pub returns-in_err-set_number-clause-leaves : goal.returns-in_err-set_number-clause-leaves
returns-in_err-set_number-clause-leaves g c =
    let old = state g.S.Store c.args.tx.now.conn.now in
    let one = state g.S.Store c.make_all.new.tx.conn.now in
    let two = state g.S.Store c.set_number.new.tx.conn.now in
    let rows = traffic_rows old.now.trees in
    let e = c.in_err-set_number.field-0.0 in
    let same : c.from_residual-in_err-set_number.result ≡ Err e = search rules in
    let failed = subst (LeavesTables rows hub_tables one two) c.in_err-set_number.was (c.set_number.ensures.leaves rows) in
    let ran : old.in_transaction ≡ false → ⊥ = λ none.
    some_made traffic_tables c.parties.result.now party_tables refl c.parties.ensures
    (c.in_ok-make_all.ensures.ended none).0 in
    subst (LeavesTables rows traffic_tables old two) (sym same)
    (stops_later rows traffic_tables hub_tables old one two e
    (λ clean has. c.in_ok-make_all.ensures.makes clean rows traffic_tables party_tables c.parties.ensures (none_beside
    old.now.trees) has)
    ran c.make_all.ensures.kept (clean_before one two _ c.set_number.ensures.survives) failed)

pub returns-clause-leaves : goal.returns-clause-leaves
returns-clause-leaves g c =
    let old = state g.S.Store c.args.tx.now.conn.now in
    let rows = traffic_rows old.now.trees in
    stops_nowhere rows traffic_tables old (state g.S.Store c.set_number.new.tx.conn.now) tt
    (λ none. some_made traffic_tables c.parties.result.now party_tables refl c.parties.ensures
    (c.in_ok-make_all.ensures.ended none).0)
