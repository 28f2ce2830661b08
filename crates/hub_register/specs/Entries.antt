-- Turns the borrowed strings of a document into rows.
use Rattle.std.specs.Borrow.{Bor}
use Rattle.std.specs.Prelude.{ℕ, List, map}
use Rattle.hub_parties.specs.Rows.{RegisterRows}
use Rattle.hub_parties.specs.declared.row.SupplierRow.{SupplierRow}
use Rattle.hub_register.specs.Document.{row_with}
use Rattle.hub_register.specs.declared.document.RegisterStrings.{RegisterStrings}
use Rattle.hub_register.specs.declared.document.SupplierStrings.{SupplierStrings}

abbrev pub texts_of : List (Bor (List ℕ)) → List (List ℕ)
texts_of texts = map (λ text. text.now) texts

abbrev pub row_in : SupplierStrings → SupplierRow
row_in entry = row_with entry.gln.now (texts_of entry.prefixes.items) entry.key.now

abbrev pub rows_from : RegisterStrings → RegisterRows
rows_from document = record {
  hub = document.hub.now;
  retailer = document.retailer.now;
  retailer_key = document.retailer_key.now;
  suppliers = map row_in document.suppliers.items;
}
