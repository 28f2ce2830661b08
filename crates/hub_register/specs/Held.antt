-- Defines how a register is stored: as a map from GLNs to rows.
use Rattle.std.specs.Prelude.{◌≡◌, map}
use Rattle.std.specs.BTreeMap.{keys, values}
use Rattle.hub_parties.specs.Rows.{RegisterRows, IsRegister}
use Rattle.hub_register.specs.declared.register.Register.TheInside.{Inside}

-- the rows of a register, its suppliers in the order of their GLNs
abbrev pub rows_of : Inside → RegisterRows
rows_of register = record {
  hub = register.hub;
  retailer = register.retailer;
  retailer_key = register.retailer_key;
  suppliers = values register.suppliers;
}

-- each row is stored under its GLN, and the rows form a register
pub record IsHeld (register : Inside) : Type 0 where
  pub at_gln : keys register.suppliers ≡ map (λ row. row.gln) (values register.suppliers)
  pub right : IsRegister (rows_of register)
