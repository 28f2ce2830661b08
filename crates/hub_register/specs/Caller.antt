-- Defines who a caller is.
use Rattle.std.specs.Prelude.{◌≡◌, ℕ, List, Some}
use Rattle.hub_parties.specs.Rows.{RegisterRows, role_of, row_of}
use Rattle.hub_parties.specs.declared.role.Role.TheVariants as roles
use Rattle.hub_register.specs.declared.caller.Caller.{Caller}
use Rattle.hub_register.specs.declared.caller.Caller.TheVariants.{Retailer, Supplier}

-- a GLN and a key identify this caller
abbrev pub IsCaller : RegisterRows → List ℕ → List ℕ → Caller → Type 0
IsCaller register gln key Retailer = role_of register gln key ≡ Some roles.Retailer
IsCaller register gln key (Supplier s) =
    (role_of register gln key ≡ Some roles.Supplier) × (row_of register gln ≡ Some s.now)
