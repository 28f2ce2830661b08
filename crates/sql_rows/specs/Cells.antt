-- Defines when the cells of a row have the types of their columns.
use Rattle.std.specs.Prelude.{◌≡◌, ℕ, ◌+◌, ℤ, ⊤, List, [], ◌∷◌}
use Rattle.sqlite_value.specs.declared.value.Value.{Value}
use Rattle.sqlite_value.specs.declared.value.Value.TheVariants.{Int, Blob}
use Rattle.sqlite_value.specs.Order.{Row, column}
use Rattle.sqlite_schema.specs.declared.schema.Kind.{Kind}
use Rattle.sqlite_schema.specs.declared.schema.Kind.TheVariants as kind

-- the value has this type; only INTEGER and BLOB, the two that tables here have, say anything
abbrev pub IsOf : Kind → Value → Type 0
IsOf kind.Integer v = (n : ℤ) × (v ≡ Int n)
IsOf kind.Blob v = (b : List ℕ) × (v ≡ Blob b)
IsOf kind.Real v = ⊤
IsOf kind.Text v = ⊤
IsOf kind.Any v = ⊤

-- the cells after position `at` have these types
abbrev pub AreOf : List Kind → ℕ → Row → Type 0
AreOf [] at row = ⊤
AreOf (k ∷ ks) at row = IsOf k (column row (at + 1)) × AreOf ks (at + 1) row
