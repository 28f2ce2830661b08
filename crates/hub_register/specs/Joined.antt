-- Defines a register after a supplier joins or leaves it.
use Rattle.std.specs.Prelude.{ℕ, if◌then◌else◌, List, [], ◌∷◌}
use Rattle.std.specs.Str.{bytes_eq}
use Rattle.hub_parties.specs.Rows.{RegisterRows}
use Rattle.hub_parties.specs.declared.row.SupplierRow.{SupplierRow}
use Rattle.hub_register.specs.InOrder.{put}

-- the register with one more supplier, in the order of the GLNs
abbrev pub joined_by : SupplierRow → RegisterRows → RegisterRows
joined_by row register = record register { suppliers = put row register.suppliers }

-- the rows without that of this GLN
abbrev pub without : List ℕ → List SupplierRow → List SupplierRow
without gln [] = []
without gln (row ∷ rows) = if bytes_eq gln row.gln then rows else row ∷ without gln rows

abbrev pub left_by : List ℕ → RegisterRows → RegisterRows
left_by gln register = record register { suppliers = without gln register.suppliers }
