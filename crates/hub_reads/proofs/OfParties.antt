-- Proves what a query finds of the register: all rows of a table, by a key of bytes.
use Rattle.std.proofs.Common.{◌≡◌, Bool, true, false, Result, List, [], ◌∷◌, map, filter, refl, ap, ◌∙◌}
use Rattle.std.specs.Bool.{⊤}
use Rattle.std.specs.List.{AllByRecursion, list_all}
use Rattle.std.specs.declared.cmp.Ordering.{Ordering}
use Rattle.std.specs.Cmp.{IsTotalOrder}
use Rattle.sqlite_value.specs.Order.{Row, column}
use Rattle.sqlite_sql.specs.Term.{Term, col, eval_all}
use Rattle.sqlite_sql.specs.Query.{IsAnswer, sort_cmp}
use Rattle.sqlite_sql.specs.Program.{overlay}
use Rattle.sqlite.specs.State.{State}
use Rattle.sql_rows.specs.Cells.{AreOf}
use Rattle.hub_parties.specs.KeyOrder.{Rises}
use Rattle.hub_store.specs.Clean.{clean_hub, clean_key, clean_prefix}
use Rattle.hub_store.specs.declared.fault.StoreFault.{StoreFault}
use Rattle.hub_tables.specs.declared.rows.HubRow.{HubRow}
use Rattle.hub_tables.specs.declared.rows.KeyRow.{KeyRow}
use Rattle.hub_tables.specs.declared.rows.PrefixRow.{PrefixRow}
use Rattle.hub_tables.proofs.KindOrders.{hub_total, key_total, prefix_total}
use Rattle.hub_schema.specs.Rows.{hub_row_in, key_row_in, prefix_row_in, in_key_order, tables_in}
use Rattle.hub_schema.specs.State.{HasTables, LooksIn}
use Rattle.hub_schema.proofs.Single.{hub_kinds, hub_cells, key_kinds, key_cells, prefix_kinds, prefix_cells, held_rise}
use Rattle.hub_rows.specs.Asks.{Asks}
use Rattle.hub_rows.specs.Shown.{shown_hub, shown_key, shown_prefix}
use Rattle.hub_rows.proofs.Finding.{all_of, no_limit, FindsRows, finds}
use Rattle.hub_rows.proofs.Listing.{rows_are, rows_spoil, all_any}
use Rattle.hub_rows.proofs.Looking.{looks_in}
use Rattle.hub_rows.proofs.Ranking.{then_none, rank_bytes}
use Rattle.hub_reads.proofs.Texts.{rising, hubs_text, hubs_select, keys_text, keys_select, prefixes_text, prefixes_select}

all_pass : {X : Type 0} (xs : List X) → filter (λ x. true) xs ≡ xs
all_pass [] = refl
all_pass (x ∷ xs) = ap (λ more. x ∷ more) (all_pass xs)

-- all rows of a table
module _ {X : Type 0} {cmp : X → X → Ordering} (total : IsTotalOrder cmp) (f shown : Row → X) (columns : List Term)
    (stored rows : List Row) (says : (row : Row) → shown (eval_all columns ([] ∷ row ∷ [])) ≡ f row)
    (found : FindsRows stored [] columns (rising 1 ∷ []) no_limit [] rows) where
  all_are : (P : Row → Type 0)
      → ((x y : Row) → P x → P y → sort_cmp (rising 1 ∷ []) ([] ∷ x ∷ []) ([] ∷ y ∷ []) ≡ cmp (f x) (f y))
      → AllByRecursion P stored → Rises cmp (in_key_order cmp (map f stored))
      → map shown rows ≡ in_key_order cmp (map f stored)
  all_are P ranked cells rises =
      rows_are total f shown columns (rising 1 ∷ []) stored [] [] rows says found P (λ x. ⊤) (λ x y a b. ranked x y a.0 b.0)
      cells (λ x. true) (λ row it. refl) rises (all_any (map shown rows))
      ∙ all_pass (in_key_order cmp (map f stored))

  all_spoil : (clean : X → Bool) → list_all clean (map shown rows) ≡ false
      → list_all clean (in_key_order cmp (map f stored)) ≡ false
  all_spoil = rows_spoil total f shown columns (rising 1 ∷ []) stored [] [] rows says found

abbrev hub_columns : List Term
hub_columns = col 1 1 ∷ col 1 2 ∷ col 1 3 ∷ []

module _ (s : State) (hub : HasTables s) (rows : List Row)
    (answer : IsAnswer (all_of 18 [] hub_columns (rising 1 ∷ [])) (overlay s.now.trees []) [] rows) where
  hub_found : FindsRows (s.now.trees 18) [] hub_columns (rising 1 ∷ []) no_limit [] rows
  hub_found = finds s.now.trees 18 [] hub_columns (rising 1 ∷ []) no_limit [] rows refl answer

  hubs_are : map shown_hub rows ≡ (tables_in s.now.trees).hubs
  hubs_are =
      all_are hub_total hub_row_in shown_hub hub_columns (s.now.trees 18) rows (λ row. refl) hub_found
      (AreOf hub_kinds 0) (λ x y a b. then_none _ ∙ rank_bytes (column x 1) (column y 1) a.0 b.0)
      (hub_cells s.now hub.schema hub.sound hub.ordered) (held_rise s hub).hubs

  hubs_spoil : list_all clean_hub (map shown_hub rows) ≡ false → list_all clean_hub (tables_in s.now.trees).hubs ≡ false
  hubs_spoil spoilt =
      all_spoil hub_total hub_row_in shown_hub hub_columns (s.now.trees 18) rows (λ row. refl) hub_found
      clean_hub spoilt

pub hubs_look : (old new : State) (result : Result (List HubRow) StoreFault)
    → Asks (λ rows items. items ≡ map shown_hub rows) (λ rows. list_all clean_hub (map shown_hub rows) ≡ false)
    hubs_text [] old new result
    → LooksIn (λ t x. x ≡ t.hubs) (λ t. list_all clean_hub t.hubs ≡ false) old new result
hubs_look old new =
    looks_in hubs_select _ _ _ _ [] old new (λ hub rows answer items is. is ∙ hubs_are old hub rows answer)
    (λ hub rows answer spoilt. hubs_spoil old hub rows answer spoilt)

abbrev key_columns : List Term
key_columns = col 1 1 ∷ col 1 2 ∷ []

module _ (s : State) (hub : HasTables s) (rows : List Row)
    (answer : IsAnswer (all_of 20 [] key_columns (rising 1 ∷ [])) (overlay s.now.trees []) [] rows) where
  key_found : FindsRows (s.now.trees 20) [] key_columns (rising 1 ∷ []) no_limit [] rows
  key_found = finds s.now.trees 20 [] key_columns (rising 1 ∷ []) no_limit [] rows refl answer

  keys_are : map shown_key rows ≡ (tables_in s.now.trees).keys
  keys_are =
      all_are key_total key_row_in shown_key key_columns (s.now.trees 20) rows (λ row. refl) key_found
      (AreOf key_kinds 0) (λ x y a b. then_none _ ∙ rank_bytes (column x 1) (column y 1) a.0 b.0)
      (key_cells s.now hub.schema hub.sound hub.ordered) (held_rise s hub).keys

  keys_spoil : list_all clean_key (map shown_key rows) ≡ false → list_all clean_key (tables_in s.now.trees).keys ≡ false
  keys_spoil spoilt =
      all_spoil key_total key_row_in shown_key key_columns (s.now.trees 20) rows (λ row. refl) key_found
      clean_key spoilt

pub keys_look : (old new : State) (result : Result (List KeyRow) StoreFault)
    → Asks (λ rows items. items ≡ map shown_key rows) (λ rows. list_all clean_key (map shown_key rows) ≡ false)
    keys_text [] old new result
    → LooksIn (λ t x. x ≡ t.keys) (λ t. list_all clean_key t.keys ≡ false) old new result
keys_look old new =
    looks_in keys_select _ _ _ _ [] old new (λ hub rows answer items is. is ∙ keys_are old hub rows answer)
    (λ hub rows answer spoilt. keys_spoil old hub rows answer spoilt)

abbrev prefix_columns : List Term
prefix_columns = col 1 1 ∷ col 1 2 ∷ []

module _ (s : State) (hub : HasTables s) (rows : List Row)
    (answer : IsAnswer (all_of 22 [] prefix_columns (rising 1 ∷ [])) (overlay s.now.trees []) [] rows) where
  prefix_found : FindsRows (s.now.trees 22) [] prefix_columns (rising 1 ∷ []) no_limit [] rows
  prefix_found = finds s.now.trees 22 [] prefix_columns (rising 1 ∷ []) no_limit [] rows refl answer

  prefixes_are : map shown_prefix rows ≡ (tables_in s.now.trees).prefixes
  prefixes_are =
      all_are prefix_total prefix_row_in shown_prefix prefix_columns (s.now.trees 22) rows (λ row. refl) prefix_found
      (AreOf prefix_kinds 0) (λ x y a b. then_none _ ∙ rank_bytes (column x 1) (column y 1) a.0 b.0)
      (prefix_cells s.now hub.schema hub.sound hub.ordered) (held_rise s hub).prefixes

  prefixes_spoil : list_all clean_prefix (map shown_prefix rows) ≡ false → list_all clean_prefix (tables_in s.now.trees).prefixes ≡ false
  prefixes_spoil spoilt =
      all_spoil prefix_total prefix_row_in shown_prefix prefix_columns (s.now.trees 22) rows (λ row. refl) prefix_found
      clean_prefix spoilt

pub prefixes_look : (old new : State) (result : Result (List PrefixRow) StoreFault)
    → Asks (λ rows items. items ≡ map shown_prefix rows) (λ rows. list_all clean_prefix (map shown_prefix rows) ≡ false)
    prefixes_text [] old new result
    → LooksIn (λ t x. x ≡ t.prefixes) (λ t. list_all clean_prefix t.prefixes ≡ false) old new result
prefixes_look old new =
    looks_in prefixes_select _ _ _ _ [] old new (λ hub rows answer items is. is ∙ prefixes_are old hub rows answer)
    (λ hub rows answer spoilt. prefixes_spoil old hub rows answer spoilt)
