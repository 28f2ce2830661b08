-- Defines the rules for the parties of a message (B01, B02).
use Rattle.std.specs.Prelude.{ℕ, Bool, false, not, List, Option, Some, None}
use Rattle.hub_parties.specs.declared.row.SupplierRow.{SupplierRow}
use Rattle.hub_tables.specs.Rows.{same}
use Rattle.hub_rules.specs.Judging.{refuse_if, given}
use Rattle.hub_rules.specs.declared.code.Code.TheVariants as codes
use Rattle.hub_rules.specs.declared.verdict.Verdict.{Verdict}

-- whether the message names a buyer that is not the retailer
abbrev pub is_other_buyer : List ℕ → Option (List ℕ) → Bool
is_other_buyer retailer None = false
is_other_buyer retailer (Some buyer) = not (same buyer retailer)

-- B02: the supplier is not registered, or the message names another supplier
abbrev pub if_registered : Option SupplierRow → List ℕ → (SupplierRow → Verdict) → Verdict
if_registered supplier named rest =
    given supplier codes.Supplier (λ s. refuse_if (not (same named s.gln)) codes.Supplier (rest s))
