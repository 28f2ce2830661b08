use Rattle.std.proofs.Common.{◌≡◌, rules, map, ap, ◌∙◌}
use Rattle.std.specs.BTreeMap.{insert_entry}
use Rattle.hub_parties.specs.declared.row.SupplierRow.{SupplierRow}
use Rattle.hub_register.specs.Document.{row_with}
use Rattle.hub_register.proofs.Inserted.{by_gln, put-insert, at-insert}
use Rattle.hub_register.proofs.columns.put_supplier.Goals as goal

pub returns-clause-rows : goal.returns-clause-rows
returns-clause-rows c =
    let gln = c.args.gln in
    let entries = c.args.suppliers.now.entries in
    let row : SupplierRow = row_with gln c.args.prefixes.now c.args.key.now in
    let key : c.in-Some.key ≡ c.args.key.now = search rules in
    let entered = c.in_ok-insert.ensures.entries
    ∙ ap (insert_entry by_gln entries gln) (c.in_ok-row.ensures.ok ∙ ap (row_with gln c.args.prefixes.now) key) in
    ap (map (λ e. e.1)) entered ∙ put-insert entries row c.requires

pub returns-clause-at_gln : goal.returns-clause-at_gln
returns-clause-at_gln c =
    let gln = c.args.gln in
    let entries = c.args.suppliers.now.entries in
    let row : SupplierRow = row_with gln c.args.prefixes.now c.args.key.now in
    let key : c.in-Some.key ≡ c.args.key.now = search rules in
    let entered = c.in_ok-insert.ensures.entries
    ∙ ap (insert_entry by_gln entries gln) (c.in_ok-row.ensures.ok ∙ ap (row_with gln c.args.prefixes.now) key) in
    rw entered (at-insert entries row c.requires)

pub returns-in_default-clause-rows : goal.returns-in_default-clause-rows
returns-in_default-clause-rows c = tt

pub returns-in_default-clause-at_gln : goal.returns-in_default-clause-at_gln
returns-in_default-clause-at_gln c = tt

pub returns-in_default-clause-key : goal.returns-in_default-clause-key
returns-in_default-clause-key c = tt
