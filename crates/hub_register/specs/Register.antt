-- Defines the register that a text describes, or the fault of the text.
use Rattle.std.specs.Prelude.{◌≡◌, ℕ, List, map, All, IsPermutation, Option, Some, None, Result, Ok, Err}
use Rattle.gs1_ids.specs.Overlap.{PrefixFree}
use Rattle.hub_parties.specs.Rows.{RegisterRows, company_prefixes}
use Rattle.hub_register.specs.Document.{rows_of_text}
use Rattle.hub_register.specs.Fault.{fault_of}
use Rattle.hub_register.specs.InOrder.{in_gln_order, with_sorted_prefixes}
use Rattle.hub_register.specs.declared.fault.RegisterFault.{RegisterFault}
use Rattle.hub_register.specs.declared.fault.RegisterFault.TheVariants.{Text}

-- the register of these rows, its suppliers sorted by GLN, or their fault
abbrev pub unless_faulty : RegisterRows → Option RegisterFault → Result RegisterRows RegisterFault
unless_faulty rows None = Ok (in_gln_order rows)
unless_faulty rows (Some fault) = Err fault

abbrev pub register_of_rows : Option RegisterRows → Result RegisterRows RegisterFault
register_of_rows None = Err Text
register_of_rows (Some rows) = unless_faulty rows (fault_of rows)

-- the register that a text describes, or the fault of the text
abbrev pub register_of : List ℕ → Result RegisterRows RegisterFault
register_of text = register_of_rows (rows_of_text text)

-- the register has each row of the text once, with the same prefixes, and the rows have no fault
pub record HasRows (rows register : RegisterRows) : Type 0 where
  pub right : fault_of rows ≡ None
  pub hub : register.hub ≡ rows.hub
  pub retailer : register.retailer ≡ rows.retailer
  pub retailer_key : register.retailer_key ≡ rows.retailer_key
  pub suppliers : IsPermutation (map with_sorted_prefixes rows.suppliers) register.suppliers
  pub same_prefixes : All (λ row. IsPermutation row.prefixes (with_sorted_prefixes row).prefixes) rows.suppliers

abbrev pub RegisterHasItsRows : Type 0
RegisterHasItsRows = (text : List ℕ) (register : RegisterRows) → register_of text ≡ Ok register
    → (rows : RegisterRows) × (rows_of_text text ≡ Some rows) × HasRows rows register

-- in the register of a text, no prefix of one supplier begins a prefix of another
abbrev pub RegisterOfTextIsPrefixFree : Type 0
RegisterOfTextIsPrefixFree = (text : List ℕ) (register : RegisterRows) → register_of text ≡ Ok register
    → PrefixFree (company_prefixes register.suppliers)
