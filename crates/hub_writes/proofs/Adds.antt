-- Proves what an INSERT of one row of a kind does.
use Rattle.std.proofs.Common.{◌≡◌, ℕ, ◌/◌, ◌==◌, ◌&&◌, ℤ, Bool, true, false, length, List, [], ◌∷◌, ◌++◌, filter, map}
use Rattle.std.proofs.Common.{if◌then◌else◌, None, Ok, Err, Result, OnOk, IsTrue, refl, sym, ap, subst, ◌∙◌}
use Rattle.std.specs.List.{AllByRecursion}
use Rattle.std.specs.Ordering.{is_eq}
use Rattle.std.proofs.lemmas.Cmp.{tied_itself}
use Rattle.sqlite_value.specs.declared.value.Value.TheVariants.{Int}
use Rattle.sqlite_value.specs.Order.{Row}
use Rattle.sqlite_sql.specs.Term.{Term}
use Rattle.sqlite_trees.specs.Tree.{Trees, put_row, with_tree}
use Rattle.sqlite_trees.specs.View.{IsShaped}
use Rattle.sqlite_trees.specs.declared.store.Shape.TheVariants as shape
use Rattle.sqlite_trees.proofs.TreeLemmas.{IsShaped-put_row}
use Rattle.sqlite_schema.specs.declared.schema.Constraint.TheVariants.{Unique}
use Rattle.sqlite_schema.specs.declared.schema.Index.{Index}
use Rattle.sqlite_schema.specs.declared.command.Source.TheVariants.{Values}
use Rattle.sqlite_schema.specs.declared.command.Command.TheVariants.{Insert}
use Rattle.sqlite_schema.specs.Rules.{agree, Keeps, Obeys}
use Rattle.sqlite_rules.specs.declared.error.Rowids.TheVariants.{Chosen}
use Rattle.sqlite_rules.specs.Edit.{edit_of, edited, next_rowid}
use Rattle.sqlite.specs.declared.error.Error.{Error}
use Rattle.sqlite.specs.Effect.{value_rows}
use Rattle.sqlite.specs.State.{State, Writes, ExecutesInside}
use Rattle.sqlite.proofs.Callers.{runs_as}
use Rattle.sql_rows.specs.Cells.{AreOf}
use Rattle.sql_rows.proofs.Inserts.{inserts}
use Rattle.sql_rows.proofs.Refusals.{not_unique, refused}
use Rattle.sql_rows.proofs.Rowids.{put_next}
use Rattle.sql_rows.proofs.Unique.{HasNewKey, keeps_unique}
use Rattle.hub_parties.specs.KeyOrder.{put, Rises}
use Rattle.hub_tables.specs.Change.{apply_all}
use Rattle.hub_tables.specs.Sets.{Rising}
use Rattle.hub_tables.specs.Tables.{Tables}
use Rattle.hub_tables.specs.declared.change.Change.{Change}
use Rattle.hub_store.specs.Calls.{have_places}
use Rattle.hub_schema.specs.Rows.{in_key_order, tables_in}
use Rattle.hub_schema.specs.Schema.{hub_schema}
use Rattle.hub_schema.specs.State.{IsHub, Makes}
use Rattle.hub_writes.proofs.Alters.{ReadsAs, altered}
use Rattle.hub_writes.proofs.Keys.{listed_last, is_new}
use Rattle.hub_writes.proofs.RowKinds.{StoredKind, kinds_of, makes_rows, ordered, plain}

-- what a statement that adds a row does, and when it is refused because the key exists already
pub record AddsRow (change : Change) (sql : List ℕ) (cells : Row) : Type 1 where
  pub placed : (t : Tables) → have_places (change ∷ []) t ≡ true
  pub makes :
      (old new : State) (r : Result ℕ Error) → IsHub old → old.in_transaction ≡ true
      → ExecutesInside 0 sql cells old new r → OnOk r (Makes (apply_all (change ∷ [])) old new)
  pub fits_not :
      (old new : State) → ExecutesInside 0 sql cells old new (Err not_unique)
      → IsTrue old.is_open × (IsHub old → Rising (apply_all (change ∷ []) (tables_in old.now.trees)) → ⊥)

-- the keys of a table
abbrev pub keys_of : ℕ → List Index → List Index
keys_of tree = filter (λ i. i.is_unique && (i.table == tree))

module _ (rows : List Row) (new : Row) where
  -- no row has the key of the new one
  abbrev IsNewBy : Index → Type 0
  IsNewBy i = HasNewKey i.order i.columns new rows

  -- the keys of other tables do not matter
  new_by_one : (tree : ℕ) (i : Index) (more : List Index) (b : Bool)
      → AllByRecursion IsNewBy (if b then i ∷ keys_of tree more else keys_of tree more)
      → (b ≡ true → IsNewBy i) × AllByRecursion IsNewBy (keys_of tree more)
  new_by_one tree i more true fresh = (λ _. fresh.0, fresh.1)
  new_by_one tree i more false fresh = (λ e. absurd cc, fresh)

  new_by_all : (tree : ℕ) (indexes : List Index) → AllByRecursion IsNewBy (keys_of tree indexes)
      → AllByRecursion (λ i. (i.is_unique && (i.table == tree)) ≡ true → IsNewBy i) indexes
  new_by_all tree [] fresh = tt
  new_by_all tree (i ∷ more) fresh =
      let parts = new_by_one tree i more (i.is_unique && (i.table == tree)) fresh in
      (parts.0, new_by_all tree more parts.1)

module _ {X : Type 0} (kind : StoredKind X) where
  -- a stored row that agrees with the new one in the columns of a key also has the same key as a row of its kind
  abbrev pub AreTied : X → Row → List Index → Type 0
  AreTied row new keys =
      (r : Row) → AreOf (kinds_of kind.table) 0 r
      → AllByRecursion (λ i. agree i.order i.columns r i.columns new ≡ true
      → kind.cmp (kind.read r) row ≡ kind.cmp row row) keys

  abbrev pub IsTied : X → Row → Type 0
  IsTied row cells = (n : ℤ) → AreTied row (Int n ∷ cells) (keys_of kind.table.tree hub_schema.indexes)

  module _ (row : X) (new : Row) (rows : List Row) (typed : AllByRecursion (AreOf (kinds_of kind.table) 0) rows)
      (rises : Rises kind.cmp (put kind.cmp row (in_key_order kind.cmp (map kind.read rows)))) where
    new_by_keys : (keys : List Index) → AreTied row new keys → AllByRecursion (IsNewBy rows new) keys
    new_by_keys [] tied = tt
    new_by_keys (i ∷ keys) tied = (
      is_new kind.total kind.read row i.order i.columns new (AreOf (kinds_of kind.table) 0)
          (λ r of e. ap is_eq ((tied r of).0 e ∙ tied_itself kind.total row)) rows typed rises,
      new_by_keys keys (λ r of. (tied r of).1),
    )

  module _ (change : Change) (row : X) (cells : Row) (sql : List ℕ) (terms : List Term) (width : ℕ)
      (reads : ReadsAs sql (Insert kind.place (Values terms width))) (placed : (t : Tables) → have_places (change ∷ []) t ≡ true)
      (puts : (t : Tables) → apply_all (change ∷ []) t ≡ kind.with_rows t (put kind.cmp row (kind.rows t)))
      (edit : (db : Trees) → edited db (edit_of db (plain kind.table) [] Chosen 0
      (value_rows (cells ++ []) width (length terms / width) terms))
      ≡ put_row (Int (next_rowid (db kind.table.tree)) ∷ cells) (db kind.table.tree))
      (shown : (n : ℤ) → kind.read (Int n ∷ cells) ≡ row) (tied : IsTied row cells) where
    abbrev tree : ℕ
    tree = kind.table.tree

    -- the row that is stored
    abbrev stored : List Row → Row
    stored rows = Int (next_rowid rows) ∷ cells

    put_in : (db : Trees) → apply_all (change ∷ []) (tables_in db)
        ≡ kind.with_rows (tables_in db) (put kind.cmp row (in_key_order kind.cmp (map kind.read (db tree))))
    put_in db = puts (tables_in db) ∙ ap (λ xs. kind.with_rows (tables_in db) (put kind.cmp row xs)) (kind.held db)

    adds_row : (old new : State) (text : List ℕ) (count : ℕ) → IsHub old → old.in_transaction ≡ true
        → Writes old new None (Insert kind.place (Values terms width)) text cells count
        → Makes (apply_all (change ∷ [])) old new
    adds_row old new text count hub begun w =
        let db = old.now.trees in
        let new_row = stored (db tree) in
        let shaped = ordered kind db hub.ordered in
        let did = inserts hub_schema kind.place tree _ _ _ _ _ kind.found (λ _ _. refl) old new cells text terms width count
        hub.schema w in
        let last = put_next (db tree) cells shaped in
        let it = altered tree _ old new begun did.schema_is w.sound (subst (IsShaped shape.Table) last
        (IsShaped-put_row new_row (db tree) refl shaped)) (did.step.rows ∙ edit db ∙ last) did.step.tables w.shown in
        makes_rows kind change _ _ old new hub it
        (listed_last kind.total kind.read (db tree) new_row
        ∙ ap (λ x. put kind.cmp x (in_key_order kind.cmp (map kind.read (db tree)))) (shown (next_rowid (db tree))))
        (put_in db)

    makes : (old new : State) (r : Result ℕ Error) → IsHub old → old.in_transaction ≡ true
        → ExecutesInside 0 sql cells old new r → OnOk r (Makes (apply_all (change ∷ [])) old new)
    makes old new (Err e) hub begun h = tt
    makes old new (Ok count) hub begun h =
        adds_row old new _ count hub begun
        (runs_as sql cells old new hub_schema hub.schema _ reads.0 reads.1 count h.0)

    keeps : (s : State) → IsHub s → Rising (apply_all (change ∷ []) (tables_in s.now.trees))
        → Keeps Unique hub_schema (with_tree s.now.trees tree (edited s.now.trees (edit_of s.now.trees (plain
        kind.table) [] Chosen 0 (value_rows (cells ++ []) width (length terms / width) terms))))
    keeps s hub rising =
        let db = s.now.trees in
        let new = stored (db tree) in
        let rises = subst (Rises kind.cmp) (ap kind.rows (put_in db) ∙ kind.set _ _) (kind.rises _ rising) in
        let fresh = new_by_keys row new (db tree) (kind.typed s.now hub.schema hub.sound hub.ordered) rises _
        (tied (next_rowid (db tree))) in
        let rules = subst (λ schema. Obeys schema db) hub.schema hub.sound.obeys in
        subst (λ rows. Keeps Unique hub_schema (with_tree db tree rows))
        (sym (edit db ∙ put_next (db tree) cells (ordered kind db hub.ordered)))
        (keeps_unique db tree new (next_rowid (db tree)) refl hub_schema
        (new_by_all (db tree) new tree hub_schema.indexes fresh) (rules.rules Unique))

    fits_not : (old new : State) → ExecutesInside 0 sql cells old new (Err not_unique) → IsTrue old.is_open
        × (IsHub old → Rising (apply_all (change ∷ []) (tables_in old.now.trees)) → ⊥)
    fits_not old new h =
        let it = refused hub_schema kind.place tree _ _ _ _ _ kind.found (λ _ _. refl) sql terms width reads.0 reads.1 old
        new cells h in
        (it.0, λ hub rising. it.1 hub.schema (keeps old hub rising))

    pub adds : AddsRow change sql cells
    adds = record { placed = placed; makes = makes; fits_not = fits_not }
