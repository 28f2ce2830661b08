-- Shows that no key of an SQL table occurs twice, so the rows of the hub's tables have rising keys.
use Rattle.std.proofs.Common.{◌≡◌, ℕ, ◌+◌, ◌*◌, ◌^◌, nat_lt, ℤ, pos, negsuc, Bool, true, false, not, ◌&&◌}
use Rattle.std.proofs.Common.{inl, inr, List, [], ◌∷◌, map, refl, sym, ap, ap₂, subst, ◌∙◌, arith, IsTrue}
use Rattle.std.proofs.Common.{true≢false}
use Rattle.std.specs.List.{AllByRecursion}
use Rattle.std.specs.declared.cmp.Ordering.{Ordering}
use Rattle.std.specs.declared.cmp.Ordering.TheVariants.{Less, Equal, Greater}
use Rattle.std.specs.Ordering.{is_eq, is_ne, nat_cmp, ordering_then}
use Rattle.std.proofs.lemmas.Bool.{and_parts, and_from, or_parts, not-true}
use Rattle.std.proofs.lemmas.Bool.Decides.{nat_tests}
use Rattle.std.proofs.lemmas.Cmp.{tied_itself}
use Rattle.std.proofs.lemmas.Map.Text.{is_eq-slice_cmp}
use Rattle.sqlite_value.specs.declared.value.Value.{Value}
use Rattle.sqlite_value.specs.declared.value.Value.TheVariants as value
use Rattle.sqlite_schema.specs.declared.schema.Kind.{Kind}
use Rattle.sqlite_schema.specs.declared.schema.Constraint.TheVariants.{Datatype, NotNull, Unique}
use Rattle.sqlite_value.specs.declared.keys.Collation.TheVariants.{Binary}
use Rattle.sqlite_value.specs.Order.{Row, value_cmp}
use Rattle.sqlite_value.specs.Keys.{plain, first_key}
use Rattle.sqlite_value.proofs.OrderLemmas.{value_cmp_total}
use Rattle.sqlite_trees.specs.Tree.{rowid, IsTable}
use Rattle.sqlite_trees.specs.View.{is_int}
use Rattle.sqlite_schema.specs.Rules.{agree, clashes, differ, equal, Obeys}
use Rattle.sqlite.specs.Effect.{Database, IsDatabase}
use Rattle.sqlite.specs.State.{State}
use Rattle.sql_rows.specs.Cells.{AreOf}
use Rattle.sql_rows.proofs.Cells.{all_cells_of}
use Rattle.sqlite_sql.specs.Ops.{binary}
use Rattle.sqlite_rules.specs.Edit.{id_in}
use Rattle.sqlite_rules.proofs.TableLemmas.{int_is}
use Rattle.hub_parties.specs.KeyOrder.{bytes_cmp, Rises}
use Rattle.hub_tables.specs.Rows.{order_cmp, line_cmp, advice_cmp, pallet_cmp, content_cmp, receipt_cmp, remembered_cmp}
use Rattle.hub_tables.specs.Rows.{mail_cmp, hub_cmp, key_cmp, prefix_cmp}
use Rattle.hub_tables.specs.Sets.{Rising}
use Rattle.hub_tables.proofs.KindOrders.{order_total, line_total, advice_total, pallet_total, content_total}
use Rattle.hub_tables.proofs.KindOrders.{receipt_total, remembered_total, mail_total, hub_total, key_total}
use Rattle.hub_tables.proofs.KindOrders.{prefix_total}
use Rattle.hub_schema.specs.Rows.{order_in, line_in, advice_in, pallet_in, content_in, receipt_in, remembered_in}
use Rattle.hub_schema.specs.Rows.{mail_in, hub_row_in, key_row_in, prefix_row_in, tables_in}
use Rattle.hub_schema.specs.Schema.{order_table, line_table, advice_table, pallet_table, content_table, receipt_table}
use Rattle.hub_schema.specs.Schema.{remembered_table, mail_table, hub_table, supplier_table, prefix_table, hub_schema}
use Rattle.hub_schema.specs.State.{AreOrdered, HasTables, IsHub}
use Rattle.hub_tables.proofs.Lists.{decide, same_is, same_if}
use Rattle.sql_rows.proofs.Answers.{is_truth, same_bytes}
use Rattle.hub_schema.specs.Cells.{bytes_in, number_in, natural}
use Rattle.hub_schema.proofs.InKeyOrder.{KeysApart, listed_rises}

-- Cells that stand for the same value are the same.

odd_even : (n m : ℕ) → 2 ^ 65 + 2 * n + 1 ≡ 2 * m → ⊥
odd_even n m e = omega (arith, e)

pub natural_same : (a b : ℤ) → natural a ≡ natural b → a ≡ b
natural_same (pos n) (pos m) e = ap pos (elim (decide (nat_lt n (2 ^ 64))) [
  | inl p ↦ elim (decide (nat_lt m (2 ^ 64))) [
    | inl q ↦ grind (arith, nat_tests, p, q, e)
    | inr q ↦ grind (
      arith,
      nat_tests,
      p,
      q,
      e,
    )
  ]
  | inr p ↦ elim (decide (nat_lt m (2 ^ 64))) [
    | inl q ↦ grind (arith, nat_tests, p, q, e)
    | inr q ↦ grind (
      arith,
      nat_tests,
      p,
      q,
      e,
    )
  ]
])
natural_same (pos n) (negsuc m) e =
    absurd (elim (decide (nat_lt n (2 ^ 64))) [
      | inl p ↦ grind (arith, nat_tests, p, e)
      | inr p ↦ odd_even m n (sym e
          ∙ rw p)
    ])
natural_same (negsuc n) (pos m) e =
    absurd (elim (decide (nat_lt m (2 ^ 64))) [
      | inl p ↦ grind (arith, nat_tests, p, e)
      | inr p ↦ odd_even n m (e
          ∙ rw p)
    ])
natural_same (negsuc n) (negsuc m) e = let same : n ≡ m = omega (arith, e) in ap negsuc same

same_blobs : (v w : Value) (b c : List ℕ) → v ≡ value.Blob b → w ≡ value.Blob c → bytes_in v ≡ bytes_in w
    → equal Binary v w ≡ true
same_blobs v w b c is at e =
    let bytes : b ≡ c = sym (ap bytes_in is) ∙ e ∙ ap bytes_in at in
    ap (equal Binary v) at ∙ same_bytes v b c is ∙ same_if b c bytes

same_wholes : (n : ℤ) → equal Binary (value.Int n) (value.Int n) ≡ true
unfolding binary
same_wholes n = is_truth (is_eq (value_cmp (value.Int n) (value.Int n)))
    ∙ ap is_eq (tied_itself value_cmp_total (value.Int n))

same_numbers : (v w : Value) (n m : ℤ) → v ≡ value.Int n → w ≡ value.Int m → number_in v ≡ number_in w
    → equal Binary v w ≡ true
same_numbers v w n m is at e =
    let whole : n ≡ m = natural_same n m (sym (ap number_in is) ∙ e ∙ ap number_in at) in
    ap₂ (equal Binary) is at ∙ ap (λ k. equal Binary (value.Int n) (value.Int k)) (sym whole) ∙ same_wholes n

-- rows whose row numbers rise are different
different : (x y : Row) → IsTrue (is_int (rowid x)) → IsTrue (is_int (rowid y)) → value_cmp (rowid x) (rowid y) ≡ Less
    → differ (rowid x) (rowid y) ≡ true
unfolding binary
different x y p q less =
    rw (
      int_is (rowid x) p,
      int_is (rowid y) q,
    ) (is_truth (is_ne (value_cmp (value.Int (id_in (rowid x))) (value.Int (id_in (rowid y)))))
    ∙ ap is_ne (sym (ap₂ value_cmp (int_is (rowid x) p) (int_is (rowid y) q)) ∙ less))

-- When keys compare as equal.

both_tied : (o p : Ordering) → is_eq (ordering_then o p) ≡ true → (is_eq o ≡ true) × (is_eq p ≡ true)
both_tied Less p h = cc
both_tied Equal p h = (refl, h)
both_tied Greater p h = cc

text_tied : (a b : List ℕ) → is_eq (bytes_cmp a b) ≡ true → a ≡ b
text_tied a b h = same_is a b (sym (is_eq-slice_cmp a b) ∙ h)

number_tied : (a b : ℕ) → is_eq (nat_cmp a b) ≡ true → a ≡ b
number_tied a b h = grind (arith, nat_tests, h)

-- No two rows of a table have the same key, if no two rows violate it.

module _ {X : Type 0} (cmp : X → X → Ordering) (f : Row → X) (places : List ℕ) (Typed : Row → Type 0)
    (tied : (a b : Row) → Typed a → Typed b → is_eq (cmp (f a) (f b)) ≡ true
    → agree plain places a places b ≡ true) where
  abbrev Free : List Row → List Row → Type 0
  Free all rows = AllByRecursion (λ row. clashes plain places all row ≡ false) rows

  freer : (x : Row) (all rows : List Row) → Free (x ∷ all) rows → Free all rows
  freer x all [] free = tt
  freer x all (y ∷ ys) free = ((or_parts _ (clashes plain places all y) free.0).1, freer x all ys free.1)

  abbrev IsWhole : Row → Type 0
  IsWhole row = IsTrue (is_int (rowid row))

  apart_from : (x : Row) (all ys : List Row) → Typed x → IsWhole x → AllByRecursion Typed ys → AllByRecursion IsWhole ys
      → AllByRecursion (λ y. value_cmp (rowid x) (rowid y) ≡ Less) ys → Free (x ∷ all) ys
      → AllByRecursion (λ z. is_eq (cmp (f x) z) ≡ false) (map f ys)
  apart_from x all [] t w typed whole less free = tt
  apart_from x all (y ∷ ys) t w typed whole less free = (
    elim (decide (is_eq (cmp (f x) (f y)))) [
      | inl e ↦
          let same = tied x y t typed.0 e in
          let both = and_from _ _ same (different x y w whole.0 less.0) in
          absurd (true≢false (sym both ∙ (or_parts _ (clashes plain places all y) free.0).0))
      | inr e ↦ e
    ],
    apart_from x all ys t w typed.1 whole.1 less.1 free.1,
  )

  pub all_apart : (rows : List Row) → IsTable rows → AllByRecursion IsWhole rows → AllByRecursion Typed rows
      → Free rows rows → KeysApart cmp (map f rows)
  all_apart [] up whole typed free = tt
  all_apart (x ∷ xs) up whole typed free = (
    apart_from x xs xs typed.0 whole.0 typed.1 whole.1 up.0 free.1,
    all_apart xs up.1 whole.1 typed.1 (freer x xs xs free.1),
  )

-- For each kind.

unclashed : (clash rest : Row → Bool) (rows : List Row)
    → AllByRecursion (λ row. (not (clash row) && rest row) ≡ true) rows → AllByRecursion (λ row. clash row ≡ false) rows
unclashed clash rest [] a = tt
unclashed clash rest (row ∷ rows) a =
    (not-true _ (and_parts (not (clash row)) (rest row) a.0).0, unclashed clash rest rows a.1)

-- the types of the columns; an advice has those of an order
abbrev pub order_kinds : List Kind
order_kinds = map (λ c. c.kind) order_table.columns

abbrev pub line_kinds : List Kind
line_kinds = map (λ c. c.kind) line_table.columns

abbrev pub pallet_kinds : List Kind
pallet_kinds = map (λ c. c.kind) pallet_table.columns

abbrev pub content_kinds : List Kind
content_kinds = map (λ c. c.kind) content_table.columns

abbrev pub receipt_kinds : List Kind
receipt_kinds = map (λ c. c.kind) receipt_table.columns

abbrev pub remembered_kinds : List Kind
remembered_kinds = map (λ c. c.kind) remembered_table.columns

abbrev pub mail_kinds : List Kind
mail_kinds = map (λ c. c.kind) mail_table.columns

abbrev pub hub_kinds : List Kind
hub_kinds = map (λ c. c.kind) hub_table.columns

abbrev pub key_kinds : List Kind
key_kinds = map (λ c. c.kind) supplier_table.columns

abbrev pub prefix_kinds : List Kind
prefix_kinds = map (λ c. c.kind) prefix_table.columns

order_tied : (a b : Row) → AreOf order_kinds 0 a → AreOf order_kinds 0 b
    → is_eq (order_cmp (order_in a) (order_in b)) ≡ true → agree plain (1 ∷ 2 ∷ []) a (1 ∷ 2 ∷ []) b ≡ true
unfolding first_key
order_tied a b t u e =
    let keys = both_tied (bytes_cmp (order_in a).supplier (order_in b).supplier) (bytes_cmp (order_in a).number
    (order_in b).number) e in
    and_from _ _ (same_blobs _ _ _ _ t.0.1 u.0.1 (text_tied _ _ keys.0))
    (and_from _ _ (same_blobs _ _ _ _ t.1.0.1 u.1.0.1 (text_tied _ _ keys.1)) refl)

line_tied : (a b : Row) → AreOf line_kinds 0 a → AreOf line_kinds 0 b
    → is_eq (line_cmp (line_in a) (line_in b)) ≡ true → agree plain (1 ∷ 2 ∷ 3 ∷ []) a (1 ∷ 2 ∷ 3 ∷ []) b ≡ true
unfolding first_key
line_tied a b t u e =
    let keys = both_tied (bytes_cmp (line_in a).supplier (line_in b).supplier) _ e in
    let rest = both_tied (bytes_cmp (line_in a).number (line_in b).number) _ keys.1 in
    and_from _ _ (same_blobs _ _ _ _ t.0.1 u.0.1 (text_tied _ _ keys.0))
    (and_from _ _ (same_blobs _ _ _ _ t.1.0.1 u.1.0.1 (text_tied _ _ rest.0))
    (and_from _ _ (same_numbers _ _ _ _ t.1.1.0.1 u.1.1.0.1 (number_tied _ _ rest.1)) refl))

advice_tied : (a b : Row) → AreOf order_kinds 0 a → AreOf order_kinds 0 b
    → is_eq (advice_cmp (advice_in a) (advice_in b)) ≡ true → agree plain (1 ∷ 2 ∷ []) a (1 ∷ 2 ∷ []) b ≡ true
unfolding first_key
advice_tied a b t u e =
    let keys = both_tied (bytes_cmp (advice_in a).supplier (advice_in b).supplier) (bytes_cmp (advice_in a).number
    (advice_in b).number) e in
    and_from _ _ (same_blobs _ _ _ _ t.0.1 u.0.1 (text_tied _ _ keys.0))
    (and_from _ _ (same_blobs _ _ _ _ t.1.0.1 u.1.0.1 (text_tied _ _ keys.1)) refl)

pallet_tied : (a b : Row) → AreOf pallet_kinds 0 a → AreOf pallet_kinds 0 b
    → is_eq (pallet_cmp (pallet_in a) (pallet_in b)) ≡ true → agree plain (1 ∷ []) a (1 ∷ []) b ≡ true
unfolding first_key
pallet_tied a b t u e = and_from _ _ (same_blobs _ _ _ _ t.0.1 u.0.1 (text_tied _ _ e)) refl

content_tied : (a b : Row) → AreOf content_kinds 0 a → AreOf content_kinds 0 b
    → is_eq (content_cmp (content_in a) (content_in b)) ≡ true → agree plain (1 ∷ 2 ∷ []) a (1 ∷ 2 ∷ []) b ≡ true
unfolding first_key
content_tied a b t u e =
    let keys = both_tied (bytes_cmp (content_in a).sscc (content_in b).sscc) (nat_cmp (content_in a).place (content_in
    b).place) e in
    and_from _ _ (same_blobs _ _ _ _ t.0.1 u.0.1 (text_tied _ _ keys.0))
    (and_from _ _ (same_numbers _ _ _ _ t.1.0.1 u.1.0.1 (number_tied _ _ keys.1)) refl)

receipt_tied : (a b : Row) → AreOf receipt_kinds 0 a → AreOf receipt_kinds 0 b
    → is_eq (receipt_cmp (receipt_in a) (receipt_in b)) ≡ true → agree plain (1 ∷ 2 ∷ []) a (1 ∷ 2 ∷ []) b ≡ true
unfolding first_key
receipt_tied a b t u e =
    let keys = both_tied (bytes_cmp (receipt_in a).sscc (receipt_in b).sscc) (bytes_cmp (receipt_in a).gtin (receipt_in
    b).gtin) e in
    and_from _ _ (same_blobs _ _ _ _ t.0.1 u.0.1 (text_tied _ _ keys.0))
    (and_from _ _ (same_blobs _ _ _ _ t.1.0.1 u.1.0.1 (text_tied _ _ keys.1)) refl)

remembered_tied : (a b : Row) → AreOf remembered_kinds 0 a → AreOf remembered_kinds 0 b
    → is_eq (remembered_cmp (remembered_in a) (remembered_in b)) ≡ true
    → agree plain (1 ∷ 2 ∷ 3 ∷ 4 ∷ []) a (1 ∷ 2 ∷ 3 ∷ 4 ∷ []) b ≡ true
unfolding first_key
remembered_tied a b t u e =
    let keys = both_tied (bytes_cmp (remembered_in a).supplier (remembered_in b).supplier) _ e in
    let rest = both_tied (nat_cmp (remembered_in a).side (remembered_in b).side) _ keys.1 in
    let last = both_tied (bytes_cmp (remembered_in a).control (remembered_in b).control) _ rest.1 in
    and_from _ _ (same_blobs _ _ _ _ t.0.1 u.0.1 (text_tied _ _ keys.0))
    (and_from _ _ (same_numbers _ _ _ _ t.1.0.1 u.1.0.1 (number_tied _ _ rest.0))
    (and_from _ _ (same_blobs _ _ _ _ t.1.1.0.1 u.1.1.0.1 (text_tied _ _ last.0))
    (and_from _ _ (same_blobs _ _ _ _ t.1.1.1.0.1 u.1.1.1.0.1 (text_tied _ _ last.1)) refl)))

mail_tied : (a b : Row) → AreOf mail_kinds 0 a → AreOf mail_kinds 0 b
    → is_eq (mail_cmp (mail_in a) (mail_in b)) ≡ true → agree plain (1 ∷ 2 ∷ []) a (1 ∷ 2 ∷ []) b ≡ true
unfolding first_key
mail_tied a b t u e =
    let keys = both_tied (bytes_cmp (mail_in a).supplier (mail_in b).supplier) (nat_cmp (mail_in a).number (mail_in
    b).number) e in
    and_from _ _ (same_blobs _ _ _ _ t.0.1 u.0.1 (text_tied _ _ keys.0))
    (and_from _ _ (same_numbers _ _ _ _ t.1.0.1 u.1.0.1 (number_tied _ _ keys.1)) refl)

hub_tied : (a b : Row) → AreOf hub_kinds 0 a → AreOf hub_kinds 0 b
    → is_eq (hub_cmp (hub_row_in a) (hub_row_in b)) ≡ true → agree plain (1 ∷ []) a (1 ∷ []) b ≡ true
unfolding first_key
hub_tied a b t u e = and_from _ _ (same_blobs _ _ _ _ t.0.1 u.0.1 (text_tied _ _ e)) refl

key_tied : (a b : Row) → AreOf key_kinds 0 a → AreOf key_kinds 0 b
    → is_eq (key_cmp (key_row_in a) (key_row_in b)) ≡ true → agree plain (1 ∷ []) a (1 ∷ []) b ≡ true
unfolding first_key
key_tied a b t u e = and_from _ _ (same_blobs _ _ _ _ t.0.1 u.0.1 (text_tied _ _ e)) refl

prefix_tied : (a b : Row) → AreOf prefix_kinds 0 a → AreOf prefix_kinds 0 b
    → is_eq (prefix_cmp (prefix_row_in a) (prefix_row_in b)) ≡ true → agree plain (1 ∷ []) a (1 ∷ []) b ≡ true
unfolding first_key
prefix_tied a b t u e = and_from _ _ (same_blobs _ _ _ _ t.0.1 u.0.1 (text_tied _ _ e)) refl

module _ (db : Database) (has : db.schema ≡ hub_schema) (sound : IsDatabase db) (ordered : AreOrdered db.trees) where
  rules : Obeys hub_schema db.trees
  rules = subst (λ schema. Obeys schema db.trees) has sound.obeys

  -- the types of the cells of each stored row
  pub order_cells : AllByRecursion (AreOf order_kinds 0) (db.trees 1)
  order_cells = all_cells_of hub_schema db.trees order_table (db.trees 1) refl refl (rules.rules Datatype).1.0
      (rules.rules NotNull).1.0

  orders_rise : Rises order_cmp (tables_in db.trees).orders
  orders_rise =
      listed_rises order_total (map order_in (db.trees 1))
      (all_apart order_cmp order_in (1 ∷ 2
      ∷ []) (AreOf order_kinds 0) order_tied (db.trees 1) (ordered.1.0).0 (ordered.1.0).1 order_cells
      (unclashed (clashes plain (1 ∷ 2 ∷ []) (db.trees 1)) (λ _. true) (db.trees 1) (rules.rules Unique).1.0))

  pub line_cells : AllByRecursion (AreOf line_kinds 0) (db.trees 3)
  line_cells = all_cells_of hub_schema db.trees line_table (db.trees 3) refl refl (rules.rules Datatype).1.1.0
      (rules.rules NotNull).1.1.0

  lines_rise : Rises line_cmp (tables_in db.trees).lines
  lines_rise =
      listed_rises line_total (map line_in (db.trees 3))
      (all_apart line_cmp line_in (1 ∷ 2 ∷ 3
      ∷ []) (AreOf line_kinds 0) line_tied (db.trees 3) (ordered.1.1.0).0 (ordered.1.1.0).1 line_cells
      (unclashed (clashes plain (1 ∷ 2 ∷ 3 ∷ []) (db.trees 3)) (λ _. true) (db.trees 3) (rules.rules Unique).1.1.0))

  pub advice_cells : AllByRecursion (AreOf order_kinds 0) (db.trees 5)
  advice_cells = all_cells_of hub_schema db.trees advice_table (db.trees 5) refl refl (rules.rules Datatype).1.1.1.0
      (rules.rules NotNull).1.1.1.0

  advices_rise : Rises advice_cmp (tables_in db.trees).advices
  advices_rise =
      listed_rises advice_total (map advice_in (db.trees 5))
      (all_apart advice_cmp advice_in (1 ∷ 2
      ∷ []) (AreOf order_kinds 0) advice_tied (db.trees 5) (ordered.1.1.1.0).0 (ordered.1.1.1.0).1 advice_cells
      (unclashed (clashes plain (1 ∷ 2 ∷ []) (db.trees 5)) (λ _. true) (db.trees 5) (rules.rules Unique).1.1.1.0))

  pub pallet_cells : AllByRecursion (AreOf pallet_kinds 0) (db.trees 7)
  pallet_cells = all_cells_of hub_schema db.trees pallet_table (db.trees 7) refl refl (rules.rules Datatype).1.1.1.1.0
      (rules.rules NotNull).1.1.1.1.0

  pallets_rise : Rises pallet_cmp (tables_in db.trees).pallets
  pallets_rise =
      listed_rises pallet_total (map pallet_in (db.trees 7))
      (all_apart pallet_cmp pallet_in (1
      ∷ []) (AreOf pallet_kinds 0) pallet_tied (db.trees 7) (ordered.1.1.1.1.0).0 (ordered.1.1.1.1.0).1 pallet_cells
      (unclashed (clashes plain (1 ∷ []) (db.trees 7)) (λ row. not (clashes plain (2 ∷ 1 ∷ []) (db.trees 7) row)
      && true) (db.trees 7) (rules.rules Unique).1.1.1.1.0))

  pub content_cells : AllByRecursion (AreOf content_kinds 0) (db.trees 10)
  content_cells = all_cells_of hub_schema db.trees content_table (db.trees 10) refl refl (rules.rules
      Datatype).1.1.1.1.1.0 (rules.rules NotNull).1.1.1.1.1.0

  contents_rise : Rises content_cmp (tables_in db.trees).contents
  contents_rise =
      listed_rises content_total (map content_in (db.trees 10))
      (all_apart content_cmp content_in (1 ∷ 2
      ∷ []) (AreOf content_kinds 0) content_tied (db.trees 10) (ordered.1.1.1.1.1.0).0 (ordered.1.1.1.1.1.0).1
      content_cells
      (unclashed (clashes plain (1 ∷ 2 ∷ []) (db.trees 10)) (λ _. true) (db.trees 10) (rules.rules Unique).1.1.1.1.1.0))

  pub receipt_cells : AllByRecursion (AreOf receipt_kinds 0) (db.trees 12)
  receipt_cells = all_cells_of hub_schema db.trees receipt_table (db.trees 12) refl refl (rules.rules
      Datatype).1.1.1.1.1.1.0 (rules.rules NotNull).1.1.1.1.1.1.0

  receipts_rise : Rises receipt_cmp (tables_in db.trees).receipts
  receipts_rise =
      listed_rises receipt_total (map receipt_in (db.trees 12))
      (all_apart receipt_cmp receipt_in (1 ∷ 2
      ∷ []) (AreOf receipt_kinds 0) receipt_tied (db.trees 12) (ordered.1.1.1.1.1.1.0).0 (ordered.1.1.1.1.1.1.0).1
      receipt_cells
      (unclashed (clashes plain (1 ∷ 2
      ∷ []) (db.trees 12)) (λ _. true) (db.trees 12) (rules.rules Unique).1.1.1.1.1.1.0))

  pub remembered_cells : AllByRecursion (AreOf remembered_kinds 0) (db.trees 14)
  remembered_cells = all_cells_of hub_schema db.trees remembered_table (db.trees 14) refl refl (rules.rules
      Datatype).1.1.1.1.1.1.1.0 (rules.rules NotNull).1.1.1.1.1.1.1.0

  remembered_rise : Rises remembered_cmp (tables_in db.trees).remembered
  remembered_rise =
      listed_rises remembered_total (map remembered_in (db.trees 14))
      (all_apart remembered_cmp remembered_in (1 ∷ 2 ∷ 3 ∷ 4
      ∷ []) (AreOf remembered_kinds 0) remembered_tied (db.trees 14) (ordered.1.1.1.1.1.1.1.0).0
      (ordered.1.1.1.1.1.1.1.0).1 remembered_cells
      (unclashed (clashes plain (1 ∷ 2 ∷ 3 ∷ 4
      ∷ []) (db.trees 14)) (λ _. true) (db.trees 14) (rules.rules Unique).1.1.1.1.1.1.1.0))

  pub mail_cells : AllByRecursion (AreOf mail_kinds 0) (db.trees 16)
  mail_cells = all_cells_of hub_schema db.trees mail_table (db.trees 16) refl refl (rules.rules
      Datatype).1.1.1.1.1.1.1.1.0 (rules.rules NotNull).1.1.1.1.1.1.1.1.0

  mail_rise : Rises mail_cmp (tables_in db.trees).mail
  mail_rise =
      listed_rises mail_total (map mail_in (db.trees 16))
      (all_apart mail_cmp mail_in (1 ∷ 2
      ∷ []) (AreOf mail_kinds 0) mail_tied (db.trees 16) (ordered.1.1.1.1.1.1.1.1.0).0
      (ordered.1.1.1.1.1.1.1.1.0).1 mail_cells
      (unclashed (clashes plain (1 ∷ 2
      ∷ []) (db.trees 16)) (λ _. true) (db.trees 16) (rules.rules Unique).1.1.1.1.1.1.1.1.0))

  pub hub_cells : AllByRecursion (AreOf hub_kinds 0) (db.trees 18)
  hub_cells = all_cells_of hub_schema db.trees hub_table (db.trees 18) refl refl (rules.rules
      Datatype).1.1.1.1.1.1.1.1.1.0 (rules.rules NotNull).1.1.1.1.1.1.1.1.1.0

  hubs_rise : Rises hub_cmp (tables_in db.trees).hubs
  hubs_rise =
      listed_rises hub_total (map hub_row_in (db.trees 18))
      (all_apart hub_cmp hub_row_in (1
      ∷ []) (AreOf hub_kinds 0) hub_tied (db.trees 18) (ordered.1.1.1.1.1.1.1.1.1.0).0
      (ordered.1.1.1.1.1.1.1.1.1.0).1 hub_cells
      (unclashed (clashes plain (1
      ∷ []) (db.trees 18)) (λ _. true) (db.trees 18) (rules.rules Unique).1.1.1.1.1.1.1.1.1.0))

  pub key_cells : AllByRecursion (AreOf key_kinds 0) (db.trees 20)
  key_cells = all_cells_of hub_schema db.trees supplier_table (db.trees 20) refl refl (rules.rules
      Datatype).1.1.1.1.1.1.1.1.1.1.0 (rules.rules NotNull).1.1.1.1.1.1.1.1.1.1.0

  keys_rise : Rises key_cmp (tables_in db.trees).keys
  keys_rise =
      listed_rises key_total (map key_row_in (db.trees 20))
      (all_apart key_cmp key_row_in (1
      ∷ []) (AreOf key_kinds 0) key_tied (db.trees 20) (ordered.1.1.1.1.1.1.1.1.1.1.0).0
      (ordered.1.1.1.1.1.1.1.1.1.1.0).1 key_cells
      (unclashed (clashes plain (1
      ∷ []) (db.trees 20)) (λ _. true) (db.trees 20) (rules.rules Unique).1.1.1.1.1.1.1.1.1.1.0))

  pub prefix_cells : AllByRecursion (AreOf prefix_kinds 0) (db.trees 22)
  prefix_cells = all_cells_of hub_schema db.trees prefix_table (db.trees 22) refl refl (rules.rules
      Datatype).1.1.1.1.1.1.1.1.1.1.1.0 (rules.rules NotNull).1.1.1.1.1.1.1.1.1.1.1.0

  prefixes_rise : Rises prefix_cmp (tables_in db.trees).prefixes
  prefixes_rise =
      listed_rises prefix_total (map prefix_row_in (db.trees 22))
      (all_apart prefix_cmp prefix_row_in (1
      ∷ []) (AreOf prefix_kinds 0) prefix_tied (db.trees 22) (ordered.1.1.1.1.1.1.1.1.1.1.1.0).0
      (ordered.1.1.1.1.1.1.1.1.1.1.1.0).1 prefix_cells
      (unclashed (clashes plain (1
      ∷ []) (db.trees 22)) (λ _. true) (db.trees 22) (rules.rules Unique).1.1.1.1.1.1.1.1.1.1.1.0))

  -- the keys of all tables' rows rise
  pub tables_rise : Rising (tables_in db.trees)
  tables_rise = record {
    hubs = hubs_rise;
    keys = keys_rise;
    prefixes = prefixes_rise;
    orders = orders_rise;
    lines = lines_rise;
    advices = advices_rise;
    pallets = pallets_rise;
    contents = contents_rise;
    receipts = receipts_rise;
    remembered = remembered_rise;
    mail = mail_rise;
  }

pub held_rise : (s : State) → HasTables s → Rising (tables_in s.now.trees)
held_rise s has = tables_rise s.now has.schema has.sound has.ordered

-- the tables of a hub are all tables
pub hub_has_tables : (s : State) → IsHub s → HasTables s
hub_has_tables s hub = record { schema = hub.schema; ordered = hub.ordered; sound = hub.sound }

pub hub_rises : (s : State) → IsHub s → Rising (tables_in s.now.trees)
hub_rises s hub = held_rise s (hub_has_tables s hub)
