-- Shows that the cells of a stored row have the types of their columns.
use Rattle.std.proofs.Common.{◌≡◌, ℕ, ◌+◌, suc, Bool, true, not, ◌&&◌, ◌||◌, List, [], ◌∷◌, map, drop, None, refl, sym}
use Rattle.std.proofs.Common.{ap, subst, ◌∙◌, true≢false, arith}
use Rattle.std.proofs.lemmas.Bool.{and_parts}
use Rattle.std.specs.List.{AllByRecursion, list_all}
use Rattle.sqlite_value.specs.declared.value.Value.{Value}
use Rattle.sqlite_value.specs.declared.value.Value.TheVariants.{Null, Int, Real, Text, Blob}
use Rattle.sqlite_value.specs.Order.{Row, column}
use Rattle.sqlite_trees.specs.Tree.{Trees}
use Rattle.sqlite_schema.specs.declared.schema.Kind.{Kind}
use Rattle.sqlite_schema.specs.declared.schema.Kind.TheVariants as kind
use Rattle.sqlite_schema.specs.declared.schema.Column.{Column}
use Rattle.sqlite_schema.specs.declared.schema.Table.{Table}
use Rattle.sqlite_schema.specs.declared.schema.Schema.{Schema}
use Rattle.sqlite_schema.specs.declared.schema.Constraint.TheVariants.{Datatype, NotNull}
use Rattle.sqlite_schema.specs.Rules.{are_typed, are_present, passes, suits, is_of, has_computed}
use Rattle.sqlite_sql.specs.Ops.{is_null}
use Rattle.sql_rows.specs.Cells.{IsOf, AreOf}

-- a column that is strict and rejects NULL
abbrev pub is_strict : Column → Bool
is_strict c = c.is_strict && c.not_null

of_kind : (k : Kind) (v : Value) → is_of k v ≡ true → not (is_null v) ≡ true → IsOf k v
of_kind kind.Integer Null a b = absurd cc
of_kind kind.Integer (Int n) a b = (n, refl)
of_kind kind.Integer (Real x) a b = absurd cc
of_kind kind.Integer (Text t) a b = absurd cc
of_kind kind.Integer (Blob t) a b = absurd cc
of_kind kind.Blob Null a b = absurd cc
of_kind kind.Blob (Int n) a b = absurd cc
of_kind kind.Blob (Real x) a b = absurd cc
of_kind kind.Blob (Text t) a b = absurd cc
of_kind kind.Blob (Blob t) a b = (t, refl)
of_kind kind.Real v a b = tt
of_kind kind.Text v a b = tt
of_kind kind.Any v a b = tt

-- a strict column accepts only values of its type
suited : (c : Column) (v : Value) → c.is_strict ≡ true → suits c v ≡ true → is_of c.kind v ≡ true
suited c v strict h = rw strict at h

present : (c : Column) (b : Bool) → c.not_null ≡ true → (not c.not_null || b) ≡ true → b ≡ true
present c b full h = rw full at h

right_zero : (n : ℕ) → n + 0 ≡ n
right_zero n = omega arith

cells_from : (cs : List Column) (at : ℕ) (row cells : Row) → ((i : ℕ) → column row (at + 1 + i) ≡ column cells i)
    → list_all is_strict cs ≡ true → are_typed None at cs cells ≡ true → are_present None at cs row ≡ true → AreOf
    (map (λ c. c.kind) cs) at row
cells_from [] at row cells same strict typed there = tt
cells_from (c ∷ cs) at row [] same strict typed there =
    let s0 = and_parts (is_strict c) (list_all is_strict cs) strict in
    let s1 = and_parts c.is_strict c.not_null s0.0 in
    let p = and_parts _ _ there in
    let here : column row (at + 1) ≡ Null = subst (λ n. column row n ≡ Null) (right_zero (at + 1)) (same 0) in
    let no = present c _ s1.1 p.0 in
    absurd (true≢false (sym no ∙ ap (λ v. not (is_null v)) here))
cells_from (c ∷ cs) at row (v ∷ vs) same strict typed there =
    let s0 = and_parts (is_strict c) (list_all is_strict cs) strict in
    let s1 = and_parts c.is_strict c.not_null s0.0 in
    let t = and_parts _ _ typed in
    let p = and_parts _ _ there in
    let here : column row (at + 1) ≡ v = subst (λ n. column row n ≡ v) (right_zero (at + 1)) (same 0) in
    let next : (i : ℕ) → column row (at + 1 + 1 + i) ≡ column vs i =
    λ i. subst (λ n. column row n ≡ column vs i) (one_more at i) (same (suc i)) in (
      of_kind c.kind (column row (at + 1)) (ap (is_of c.kind) here ∙ suited c v s1.0 t.0) (present c _ s1.1 p.0),
      cells_from cs (at + 1) row vs next s0.1 t.1 p.1,
    )
  where
    one_more : (at i : ℕ) → at + 1 + suc i ≡ at + 1 + 1 + i
    one_more at i = omega arith

behind : (row : Row) (i : ℕ) → column row (0 + 1 + i) ≡ column (drop 1 row) i
behind [] i = refl
behind (id ∷ cells) i = let next : 0 + 1 + i ≡ suc i = omega arith in ap (column (id ∷ cells)) next

cells_of : (schema : Schema) (db : Trees) (table : Table) (row : Row) → table.key ≡ None
    → list_all is_strict table.columns ≡ true → passes Datatype schema db table row ≡ true
    → passes NotNull schema db table row ≡ true → AreOf (map (λ c. c.kind) table.columns) 0 row
cells_of schema db table row bare strict typed there =
    let t = (and_parts (are_typed table.key 0 table.columns (drop 1 row)) (has_computed table row) typed).0 in
    let there_at = subst (λ key. are_present key 0 table.columns row ≡ true) bare there in
    cells_from table.columns 0 row (drop 1 row) (behind row) strict
    (subst (λ key. are_typed key 0 table.columns (drop 1 row) ≡ true) bare t) there_at

-- the cells of each stored row
pub all_cells_of : (schema : Schema) (db : Trees) (table : Table) (rows : List Row) → table.key ≡ None
    → list_all is_strict table.columns ≡ true
    → AllByRecursion (λ row. passes Datatype schema db table row ≡ true) rows → AllByRecursion
    (λ row. passes NotNull schema db table row ≡ true) rows → AllByRecursion
    (AreOf (map (λ c. c.kind) table.columns) 0) rows
all_cells_of schema db table [] bare strict a p = tt
all_cells_of schema db table (row ∷ rows) bare strict a p =
    (cells_of schema db table row bare strict a.0 p.0, all_cells_of schema db table rows bare strict a.1 p.1)
