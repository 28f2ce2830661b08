use Rattle.std.proofs.Common.{◌≡◌, true, ◌&&◌, ap, ap₂, ◌∙◌, map}
use Rattle.std.specs.Prelude.{IsTrue}
use Rattle.gs1_ids.specs.Digits.{IsKey}
use Rattle.gs1_ids.proofs.Decided.{Decides-is_key}
use Rattle.hub_parties.specs.Key.{is_party_key}
use Rattle.hub_parties.specs.Prefixes.{are_company_prefixes}
use Rattle.hub_parties.specs.declared.row.SupplierRow.{SupplierRow}
use Rattle.hub_register.specs.Kept.{is_valid}
use Rattle.hub_register.proofs.Inserted.{put-insert, at-insert}
use Rattle.hub_register.proofs.rows.put_row.Goals as goal

is_right : (row : SupplierRow) → IsKey 13 row.gln → IsTrue (are_company_prefixes row.prefixes) →
    IsTrue (is_party_key row.key) → is_valid row ≡ true
is_right row gln prefixes key = ap₂ (λ a b. a && b) ((Decides-is_key 13 row.gln).1 gln) (ap₂ (λ a b. a && b) prefixes key)

pub returns-in_err-insert-clause-valid : goal.returns-in_err-insert-clause-valid
returns-in_err-insert-clause-valid c =
    is_right c.args.row c.digits-gln.ensures.valid c.as_slice-prefixes.ensures.right c.bytes-key.ensures.valid

pub returns-clause-rows : goal.returns-clause-rows
returns-clause-rows c =
    ap (map (λ e. e.1)) c.in_ok-insert.ensures.entries ∙ put-insert c.args.suppliers.now.entries c.args.row c.requires

pub returns-clause-at_gln : goal.returns-clause-at_gln
returns-clause-at_gln c = rw c.in_ok-insert.ensures.entries (at-insert c.args.suppliers.now.entries c.args.row c.requires)

pub returns-clause-valid : goal.returns-clause-valid
returns-clause-valid c =
    is_right c.args.row c.digits-gln.ensures.valid c.as_slice-prefixes.ensures.right c.bytes-key.ensures.valid
