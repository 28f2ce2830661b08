-- Proves what an UPDATE of the row with a key does.
use Rattle.std.proofs.Common.{◌≡◌, ◌==◌, ℕ, Bool, true, false, not, cond, List, [], ◌∷◌, map, drop, if◌then◌else◌, None}
use Rattle.std.proofs.Common.{Ok, Err, Result, OnOk, refl, ap, ap₂, ◌∙◌}
use Rattle.std.specs.List.{AllByRecursion, list_any}
use Rattle.sqlite_value.specs.Order.{Row, column}
use Rattle.sqlite_sql.specs.Term.{Term}
use Rattle.sqlite_trees.specs.Tree.{rowid}
use Rattle.sqlite_schema.specs.declared.command.Command.TheVariants.{Update}
use Rattle.sqlite_rules.specs.Cast.{cast_row}
use Rattle.sqlite.specs.declared.error.Error.{Error}
use Rattle.sqlite.specs.State.{State, Writes, ExecutesInside}
use Rattle.sqlite.proofs.Callers.{runs_as}
use Rattle.sql_rows.specs.Cells.{AreOf}
use Rattle.sql_rows.proofs.Updates as updates
use Rattle.hub_parties.specs.KeyOrder.{replace}
use Rattle.hub_tables.specs.Change.{apply_all}
use Rattle.hub_tables.specs.Tables.{Tables}
use Rattle.hub_tables.specs.declared.change.Change.{Change}
use Rattle.hub_store.specs.Calls.{have_places}
use Rattle.hub_schema.specs.Rows.{in_key_order, tables_in}
use Rattle.hub_schema.specs.Schema.{hub_schema}
use Rattle.hub_schema.specs.State.{IsHub, Makes}
use Rattle.hub_schema.proofs.InKeyOrder.{listed_map}
use Rattle.hub_writes.proofs.Alters.{ReadsAs, altered}
use Rattle.hub_writes.proofs.RowKinds.{StoredKind, kinds_of, makes_rows, ordered, plain}
use Rattle.hub_writes.proofs.Places.{place_met}

-- what a statement that sets a row does, and that a row has the key exactly if the statement found one
pub record Sets (change : Change) (sql : List ℕ) (cells : Row) : Type 1 where
  pub makes :
      (old new : State) (r : Result ℕ Error) → IsHub old → old.in_transaction ≡ true
      → ExecutesInside 0 sql cells old new r → OnOk r (Makes (apply_all (change ∷ [])) old new)
  pub met :
      (old new : State) → IsHub old → old.in_transaction ≡ true → (count : ℕ)
      → ExecutesInside 0 sql cells old new (Ok count)
      → have_places (change ∷ []) (tables_in old.now.trees) ≡ not (count == 0)

module _ {X : Type 0} (kind : StoredKind X) (tests shows : List Term) (cells : Row) where
  -- the statement finds the row
  abbrev pub passes : Row → Bool
  passes = updates.passes kind.table.tree kind.stored tests shows cells

  -- the row after the statement
  abbrev pub shown : Row → Row
  shown = updates.show kind.table.tree kind.stored tests shows cells

  abbrev pub becomes : Row → Row
  becomes r = cast_row (plain kind.table) (drop 1 (shown r))

  module _ (change : Change) (row : X) (same : X → Bool) (sql : List ℕ)
      (reads : ReadsAs sql (Update kind.place
      (record { lets = []; body = updates.one_table kind.table.tree kind.stored tests shows [] })))
      (placed : (t : Tables) → have_places (change ∷ []) t ≡ list_any same (kind.rows t))
      (replaces : (t : Tables) → apply_all (change ∷ []) t ≡ kind.with_rows t (replace same row (kind.rows t)))
      (alike : (x y : X) → kind.cmp (cond (same x) row x) (cond (same y) row y) ≡ kind.cmp x y)
      (numbered : (r : Row) → (rowid (shown r) ≡ rowid r) × (column (drop 1 (shown r)) 0 ≡ rowid r))
      (passes_is : (r : Row) → AreOf (kinds_of kind.table) 0 r → passes r ≡ same (kind.read r))
      (becomes_is : (r : Row) → AreOf (kinds_of kind.table) 0 r → same (kind.read r) ≡ true
      → kind.read (becomes r) ≡ row) where
    abbrev changed : Row → Row
    changed r = if passes r then becomes r else r

    one_set : (r : Row) → AreOf (kinds_of kind.table) 0 r
        → kind.read (changed r) ≡ (if same (kind.read r) then row else kind.read r)
    one_set r typed = go (same (kind.read r)) refl
      where
        go : (b : Bool) → same (kind.read r) ≡ b → kind.read (changed r) ≡ (if b then row else kind.read r)
        go true e = ap (λ b. kind.read (if b then becomes r else r)) (passes_is r typed ∙ e) ∙ becomes_is r typed e
        go false e = ap (λ b. kind.read (if b then becomes r else r)) (passes_is r typed ∙ e)

    all_set : (rows : List Row) → AllByRecursion (AreOf (kinds_of kind.table) 0) rows
        → map kind.read (map changed rows) ≡ replace same row (map kind.read rows)
    all_set [] typed = refl
    all_set (r ∷ rows) typed = ap₂ ◌∷◌ (one_set r typed.0) (all_set rows typed.1)

    abbrev tree : ℕ
    tree = kind.table.tree

    sets_row : (old new : State) (text : List ℕ) (count : ℕ) → IsHub old → old.in_transaction ≡ true
        → Writes old new None
        (Update kind.place (record { lets = []; body = updates.one_table tree kind.stored tests shows cells })) text cells count
        → Makes (apply_all (change ∷ [])) old new
        × (have_places (change ∷ []) (tables_in old.now.trees) ≡ not (count == 0))
    sets_row old new text count hub begun w =
        let db = old.now.trees in
        let typed = kind.typed old.now hub.schema hub.sound hub.ordered in
        let did = updates.sets hub_schema kind.place tree _ _ _ _ _ kind.found (λ _ _. refl) kind.stored tests shows cells
        numbered old new text count hub.schema (ordered kind db hub.ordered) w in
        let it = altered tree _ old new begun did.schema_is w.sound did.shaped did.rows did.others w.shown in (
          makes_rows kind change _ _ old new hub it
              (ap (in_key_order kind.cmp) (all_set (db tree) typed)
              ∙ listed_map kind.cmp (λ x. if same x then row else x) alike (map kind.read (db tree)))
              (replaces (tables_in db) ∙ ap (λ xs. kind.with_rows (tables_in db) (replace same row xs)) (kind.held db)),
          placed (tables_in db) ∙ ap (list_any same) (kind.held db)
              ∙ place_met kind.cmp same kind.read (AreOf (kinds_of kind.table) 0) passes passes_is (db tree) count typed did.counted,
        )

    ran : (old new : State) (count : ℕ) → IsHub old → old.in_transaction ≡ true
        → ExecutesInside 0 sql cells old new (Ok count)
        → Makes (apply_all (change ∷ [])) old new
        × (have_places (change ∷ []) (tables_in old.now.trees) ≡ not (count == 0))
    ran old new count hub begun h =
        sets_row old new _ count hub begun (runs_as sql cells old new hub_schema hub.schema _ reads.0 reads.1 count h.0)

    makes : (old new : State) (r : Result ℕ Error) → IsHub old → old.in_transaction ≡ true
        → ExecutesInside 0 sql cells old new r → OnOk r (Makes (apply_all (change ∷ [])) old new)
    makes old new (Err e) hub begun h = tt
    makes old new (Ok count) hub begun h = (ran old new count hub begun h).0

    pub sets : Sets change sql cells
    sets = record { makes = makes; met = λ old new hub begun count h. (ran old new count hub begun h).1 }
