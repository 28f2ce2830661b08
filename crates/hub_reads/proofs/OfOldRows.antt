-- Proves which rows of schema 1 a query finds, and whether a register fits them.
use Rattle.std.proofs.Common.{◌≡◌, ℕ, Bool, true, false, cond, ◌&&◌, inl, inr, Option, None, Some, Result, List, [], ◌∷◌, map}
use Rattle.std.proofs.Common.{codes, refl, sym, ap, ap₂, subst, ◌∙◌, true≢false}
use Rattle.std.specs.List.{list_all}
use Rattle.std.specs.List.Sorted.{IsPermutation}
use Rattle.std.specs.declared.cmp.Ordering.{Ordering}
use Rattle.std.proofs.lemmas.Bool.{cases_Bool, and_parts}
use Rattle.std.proofs.lemmas.List.Folds.{list_all-map}
use Rattle.std.proofs.lemmas.List.Sorted.{IsPermutation-sym}
use Rattle.sqlite_value.specs.Order.{Row}
use Rattle.sqlite_trees.specs.Tree.{Trees}
use Rattle.sqlite_sql.specs.Term.{Term, col, eval_all}
use Rattle.sqlite_sql.specs.Query.{Query}
use Rattle.sqlite_sql.specs.Program.{overlay}
use Rattle.sqlite_tied.specs.Compute.{everything}
use Rattle.sqlite.specs.Listing.{understood}
use Rattle.sqlite.specs.State.{State}
use Rattle.sql_rows.proofs.Answers.{every_shuffled}
use Rattle.gs1_ids.specs.Digits.{is_key}
use Rattle.gs1_ids.specs.Gln.{is_gln}
use Rattle.gs1_ids.specs.Sscc.{under_some}
use Rattle.hub_parties.specs.Rows.{RegisterRows, IsRegister, supplier_row, row_of}
use Rattle.hub_parties.specs.declared.row.SupplierRow.{SupplierRow}
use Rattle.hub_tables.proofs.Lists.{same_is}
use Rattle.hub_tables.specs.Rows.{same, order_cmp, line_cmp, advice_cmp, pallet_cmp, remembered_cmp, mail_cmp}
use Rattle.hub_tables.specs.Tables.{Tables}
use Rattle.hub_tables.specs.declared.rows.OrderRow.{OrderRow}
use Rattle.hub_tables.specs.declared.rows.LineRow.{LineRow}
use Rattle.hub_tables.specs.declared.rows.AdviceRow.{AdviceRow}
use Rattle.hub_tables.specs.declared.rows.RememberedRow.{RememberedRow}
use Rattle.hub_tables.specs.declared.rows.MailRow.{MailRow}
use Rattle.hub_founding.specs.Fits.{is_registered, is_under, fits_pallet}
use Rattle.hub_store.specs.declared.fault.StoreFault.{StoreFault}
use Rattle.hub_schema.specs.Rows.{order_in, line_in, advice_in, pallet_in, remembered_in, mail_in, in_key_order, tables_in}
use Rattle.hub_schema.specs.Schema.{old_schema}
use Rattle.hub_schema.specs.State.{IsOldHub}
use Rattle.hub_rows.specs.Asks.{Asks}
use Rattle.hub_reads.specs.Fitting.{registered_in, pallet_fits, orders_fit, lines_fit, advices_fit, pallets_fit, remembered_fit, mail_fits}
use Rattle.hub_reads.specs.Fitting.{TellsOld}
use Rattle.hub_rows.proofs.Causes.{IsBare, disk_has_cause, one_table}
use Rattle.hub_rows.proofs.Finding.{all_of, no_limit, FindsRows, finds}
use Rattle.hub_rows.proofs.Listing.{all_clean, clean_all}
use Rattle.hub_rows.proofs.Looking.{SelectsFrom, looks_among}
use Rattle.hub_reads.proofs.Numbering.{all_pass}
use Rattle.hub_rows.proofs.Sorting.{listed_moved}

-- Bytes that are not a GLN name no supplier.
none_found : (bytes : List ℕ) → is_gln bytes ≡ false → (suppliers : List SupplierRow)
    → list_all is_gln (map (λ (row : SupplierRow). row.gln) suppliers) ≡ true → supplier_row suppliers bytes ≡ None
none_found bytes wrong [] right = refl
none_found bytes wrong (row ∷ suppliers) right =
    let parts = and_parts (is_gln row.gln) (list_all is_gln (map (λ (row : SupplierRow). row.gln) suppliers)) right in
    elim (cases_Bool (same row.gln bytes)) [
      | inl e ↦ absurd (true≢false (sym parts.0 ∙ ap is_gln (same_is row.gln bytes e) ∙ wrong))
      | inr e ↦ ap (λ b. cond b (Some row) (supplier_row suppliers bytes)) e ∙ none_found bytes wrong suppliers parts.1
    ]

pub nobodys : (register : RegisterRows) → IsRegister register → (bytes : List ℕ) → is_gln bytes ≡ false → row_of register bytes ≡ None
nobodys register right bytes none =
    let others = and_parts (is_gln register.hub) _ right.glns_right in
    none_found bytes none register.suppliers (and_parts (is_gln register.retailer) _ others.1).1

-- Bytes that are not an SSCC are under no prefix.
pub no_sscc : (found : Option SupplierRow) (bytes : List ℕ) → is_key 18 bytes ≡ false → is_under found bytes ≡ false
no_sscc None bytes none = refl
no_sscc (Some supplier) bytes none = ap (λ b. b && under_some bytes supplier.prefixes) none

pub an_sscc : (found : Option SupplierRow) (supplier : SupplierRow) (bytes sscc : List ℕ) → found ≡ Some supplier
    → is_key 18 sscc ≡ true → sscc ≡ bytes → is_under found bytes ≡ under_some sscc supplier.prefixes
an_sscc found supplier bytes sscc is right same =
    ap (λ o. is_under o bytes) is
    ∙ ap₂ (λ b (text : List ℕ). b && under_some text supplier.prefixes) (ap (is_key 18) (sym same) ∙ right) (sym same)

-- what holds of all rows holds of them in any order
all_so : {X : Type 0} (p : X → Bool) (xs ys : List X) → IsPermutation xs ys → list_all p xs ≡ true → list_all p ys ≡ true
all_so p xs ys moved all = clean_all p ys (every_shuffled (λ x. p x ≡ true) xs ys moved (all_clean p xs all))

all_moved : {X : Type 0} (p : X → Bool) (xs ys : List X) → IsPermutation xs ys → list_all p xs ≡ list_all p ys
all_moved p xs ys moved = elim (cases_Bool (list_all p xs)) [
  | inl e ↦ e ∙ sym (all_so p xs ys moved e)
  | inr e ↦ elim (cases_Bool (list_all p ys)) [
    | inl f ↦ absurd (true≢false (sym (all_so p ys xs (IsPermutation-sym xs ys moved) f) ∙ e))
    | inr f ↦ e ∙ sym f
  ]
]

-- A query that shows some columns of all rows of a table: what holds of the columns holds of the rows, and conversely.
module _ {X : Type 0} (cmp : X → X → Ordering) (f : Row → X) (columns : List Term) (stored rows : List Row)
    (found : FindsRows stored [] columns [] no_limit [] rows) (p : Row → Bool) (q : X → Bool)
    (says : (row : Row) → p (eval_all columns ([] ∷ row ∷ [])) ≡ q (f row)) where
  each_shown : (sources : List Row) → list_all p (map (λ row. eval_all columns ([] ∷ row ∷ [])) sources) ≡ list_all q (map f sources)
  each_shown [] = refl
  each_shown (row ∷ sources) = λ i. says row i && each_shown sources i

  all_shown : list_all p rows ≡ list_all q (in_key_order cmp (map f stored))
  all_shown =
      let same : IsPermutation stored found.sources = subst (λ xs. IsPermutation xs found.sources) (all_pass stored) found.same in
      ap (list_all p) found.is ∙ each_shown found.sources
      ∙ list_all-map q f found.sources
      ∙ sym (all_moved (λ row. q (f row)) stored found.sources same)
      ∙ sym (list_all-map q f stored)
      ∙ all_moved q (map f stored) (in_key_order cmp (map f stored)) (listed_moved cmp (map f stored))

abbrev supplier_name : List (List ℕ)
supplier_name = codes "supplier" ∷ []

-- the supplier is in the first column, except for pallets
abbrev suppliers_in : ℕ → Query
suppliers_in tree = all_of tree [] (col 1 1 ∷ []) []

module _ {X : Type 0} (cmp : X → X → Ordering) (f : Row → X) (q : X → Bool) (p : Row → Bool) (tree : ℕ) (columns : List Term)
    (says : (row : Row) → p (eval_all columns ([] ∷ row ∷ [])) ≡ q (f row))
    {text : List ℕ} {names : List (List ℕ)} (it : SelectsFrom old_schema text (all_of tree [] columns []) names)
    (bare : IsBare old_schema text (all_of tree [] columns [])) (fit : Tables → Bool) (whole : (db : Trees) → overlay db [] tree ≡ db tree)
    (is : (s : State) → list_all q (in_key_order cmp (map f (s.now.trees tree))) ≡ fit (tables_in s.now.trees)) where
  tells_kind : (old new : State) (result : Result Bool StoreFault)
      → Asks (λ rows is. is ≡ list_all p rows) (λ _. ⊥) text [] old new result
      → TellsOld fit old new result
  tells_kind old new result asks = record {
    looks =
        looks_among (λ s (hub : IsOldHub s). hub.schema) it _ _ _ _ [] old new
        (λ hub rows answer x told. told
        ∙ all_shown cmp f columns (old.now.trees tree) rows
        (finds old.now.trees tree [] columns [] no_limit [] rows (whole old.now.trees) answer) p q says
        ∙ is old)
        (λ hub rows answer never. absurd never) result asks;
    disk = disk_has_cause it bare _ _ old new result asks;
  }

abbrev orders_text : List ℕ
orders_text = codes "SELECT supplier FROM \"order\""

orders_select : SelectsFrom old_schema orders_text (suppliers_in 1) supplier_name
unfolding understood everything
orders_select = record { first = refl; plain = (refl, refl); unlisted = refl; is = refl }

orders_bare : IsBare old_schema orders_text (suppliers_in 1)
unfolding understood everything
orders_bare = record { unnamed = refl; whole = refl; typed = refl; steady = one_table 1 [] (col 1 1 ∷ []) [] }

pub orders_tell : (register : RegisterRows) (old new : State) (result : Result Bool StoreFault)
    → Asks (λ rows is. is ≡ list_all (registered_in register) rows) (λ _. ⊥) orders_text [] old new result
    → TellsOld (orders_fit register) old new result
orders_tell register =
    tells_kind order_cmp order_in (λ (row : OrderRow). is_registered register row.supplier) (registered_in register) 1 (col 1 1 ∷ [])
    (λ row. refl) orders_select orders_bare (orders_fit register) (λ db. refl) (λ s. refl)

abbrev lines_text : List ℕ
lines_text = codes "SELECT supplier FROM line"

lines_select : SelectsFrom old_schema lines_text (suppliers_in 3) supplier_name
unfolding understood everything
lines_select = record { first = refl; plain = (refl, refl); unlisted = refl; is = refl }

lines_bare : IsBare old_schema lines_text (suppliers_in 3)
unfolding understood everything
lines_bare = record { unnamed = refl; whole = refl; typed = refl; steady = one_table 3 [] (col 1 1 ∷ []) [] }

pub lines_tell : (register : RegisterRows) (old new : State) (result : Result Bool StoreFault)
    → Asks (λ rows is. is ≡ list_all (registered_in register) rows) (λ _. ⊥) lines_text [] old new result
    → TellsOld (lines_fit register) old new result
lines_tell register =
    tells_kind line_cmp line_in (λ (row : LineRow). is_registered register row.supplier) (registered_in register) 3 (col 1 1 ∷ [])
    (λ row. refl) lines_select lines_bare (lines_fit register) (λ db. refl) (λ s. refl)

abbrev advices_text : List ℕ
advices_text = codes "SELECT supplier FROM advice"

advices_select : SelectsFrom old_schema advices_text (suppliers_in 5) supplier_name
unfolding understood everything
advices_select = record { first = refl; plain = (refl, refl); unlisted = refl; is = refl }

advices_bare : IsBare old_schema advices_text (suppliers_in 5)
unfolding understood everything
advices_bare = record { unnamed = refl; whole = refl; typed = refl; steady = one_table 5 [] (col 1 1 ∷ []) [] }

pub advices_tell : (register : RegisterRows) (old new : State) (result : Result Bool StoreFault)
    → Asks (λ rows is. is ≡ list_all (registered_in register) rows) (λ _. ⊥) advices_text [] old new result
    → TellsOld (advices_fit register) old new result
advices_tell register =
    tells_kind advice_cmp advice_in (λ (row : AdviceRow). is_registered register row.supplier) (registered_in register) 5 (col 1 1 ∷ [])
    (λ row. refl) advices_select advices_bare (advices_fit register) (λ db. refl) (λ s. refl)

abbrev pallets_text : List ℕ
pallets_text = codes "SELECT sscc, supplier FROM pallet"

pallets_select : SelectsFrom old_schema pallets_text (all_of 7 [] (col 1 1 ∷ col 1 2 ∷ []) []) (codes "sscc" ∷ codes "supplier" ∷ [])
unfolding understood everything
pallets_select = record { first = refl; plain = (refl, refl); unlisted = refl; is = refl }

pallets_bare : IsBare old_schema pallets_text (all_of 7 [] (col 1 1 ∷ col 1 2 ∷ []) [])
unfolding understood everything
pallets_bare = record { unnamed = refl; whole = refl; typed = refl; steady = one_table 7 [] (col 1 1 ∷ col 1 2 ∷ []) [] }

pub pallets_tell : (register : RegisterRows) (old new : State) (result : Result Bool StoreFault)
    → Asks (λ rows is. is ≡ list_all (pallet_fits register) rows) (λ _. ⊥) pallets_text [] old new result
    → TellsOld (pallets_fit register) old new result
pallets_tell register =
    tells_kind pallet_cmp pallet_in (fits_pallet register) (pallet_fits register) 7 (col 1 1 ∷ col 1 2 ∷ [])
    (λ row. refl) pallets_select pallets_bare (pallets_fit register) (λ db. refl) (λ s. refl)

abbrev remembered_text : List ℕ
remembered_text = codes "SELECT supplier FROM remembered"

remembered_select : SelectsFrom old_schema remembered_text (suppliers_in 14) supplier_name
unfolding understood everything
remembered_select = record { first = refl; plain = (refl, refl); unlisted = refl; is = refl }

remembered_bare : IsBare old_schema remembered_text (suppliers_in 14)
unfolding understood everything
remembered_bare = record { unnamed = refl; whole = refl; typed = refl; steady = one_table 14 [] (col 1 1 ∷ []) [] }

pub remembered_tell : (register : RegisterRows) (old new : State) (result : Result Bool StoreFault)
    → Asks (λ rows is. is ≡ list_all (registered_in register) rows) (λ _. ⊥) remembered_text [] old new result
    → TellsOld (remembered_fit register) old new result
remembered_tell register =
    tells_kind remembered_cmp remembered_in (λ (row : RememberedRow). is_registered register row.supplier) (registered_in register) 14
    (col 1 1 ∷ []) (λ row. refl) remembered_select remembered_bare (remembered_fit register) (λ db. refl) (λ s. refl)

abbrev mail_text : List ℕ
mail_text = codes "SELECT supplier FROM mail"

mail_select : SelectsFrom old_schema mail_text (suppliers_in 16) supplier_name
unfolding understood everything
mail_select = record { first = refl; plain = (refl, refl); unlisted = refl; is = refl }

mail_bare : IsBare old_schema mail_text (suppliers_in 16)
unfolding understood everything
mail_bare = record { unnamed = refl; whole = refl; typed = refl; steady = one_table 16 [] (col 1 1 ∷ []) [] }

pub mail_tells : (register : RegisterRows) (old new : State) (result : Result Bool StoreFault)
    → Asks (λ rows is. is ≡ list_all (registered_in register) rows) (λ _. ⊥) mail_text [] old new result
    → TellsOld (mail_fits register) old new result
mail_tells register =
    tells_kind mail_cmp mail_in (λ (row : MailRow). is_registered register row.supplier) (registered_in register) 16 (col 1 1 ∷ [])
    (λ row. refl) mail_select mail_bare (mail_fits register) (λ db. refl) (λ s. refl)
