-- Defines which register tables hold, if they hold one.
use Rattle.std.specs.Prelude.{◌≡◌, Option, None, Some}
use Rattle.hub_parties.specs.Rows.{RegisterRows}
use Rattle.hub_tables.specs.Register.{HoldsRegister, register_of}
use Rattle.hub_tables.specs.Tables.{Tables}

-- the tables hold no register
abbrev pub HoldsNone : Tables → Type 0
HoldsNone t = HoldsRegister t → ⊥

-- `Some`: the register that the tables hold; `None`: they hold none
abbrev pub IsHeldBy : Tables → Option RegisterRows → Type 0
IsHeldBy t (Some register) = HoldsRegister t × (register ≡ register_of t)
IsHeldBy t None = HoldsNone t
