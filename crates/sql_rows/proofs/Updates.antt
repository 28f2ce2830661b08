-- Proves what UPDATE does to the trees.
use Rattle.std.proofs.Common.{length, unwrap_or, ◌≡◌, ◌≢◌, pos, negsuc, true, false, Bool, ◌∷◌, map, filter, drop}
use Rattle.std.proofs.Common.{if◌then◌else◌, subst₂, ℕ, List, [], slice_get, Some, None, Ok, ap, subst, sym, ◌∙◌}
use Rattle.std.specs.List.{AllByRecursion, list_all}
use Rattle.std.specs.List.Sorted.{IsPermutation}
use Rattle.std.proofs.lemmas.List.Sorted.{IsPermutation-map, length_permutation}
use Rattle.sqlite_value.specs.declared.value.Value.TheVariants.{Null, Int}
use Rattle.sqlite_value.specs.Order.{Row, column}
use Rattle.sqlite_sql.specs.Term.{Term, Env, holds, eval_all, lit}
use Rattle.sqlite_sql.specs.Query.{Query, inner, end, IsAnswer, Output, output}
use Rattle.sqlite_sql.specs.Program.{overlay}
use Rattle.sqlite_trees.specs.Tree.{Trees, rowid}
use Rattle.sqlite_trees.specs.View.{IsShaped}
use Rattle.sqlite_trees.specs.declared.store.Shape.TheVariants as shape
use Rattle.sqlite_rules.specs.Cast.{cast_row}
use Rattle.sqlite_rules.specs.Edit.{without_all, numbered, are_fresh, put_all}
use Rattle.sqlite_rules.proofs.PlaceLemmas.{given}
use Rattle.sqlite_schema.specs.declared.schema.Table.{Table}
use Rattle.sqlite.specs.Schema.{Schema}
use Rattle.sqlite_value.specs.declared.keys.Order as keys
use Rattle.sqlite_schema.specs.declared.schema.Column.{Column}
use Rattle.sqlite_schema.specs.declared.schema.Keys.TheVariants.{Enforced}
use Rattle.sqlite.specs.Command.TheVariants.{Update}
use Rattle.sqlite.specs.Edit.{edit_of}
use Rattle.sqlite.specs.Rowids.TheVariants.{Given}
use Rattle.sqlite_rules.specs.Edit.{Applies, taken_by}
use Rattle.sqlite_rules.specs.Action.{works}
use Rattle.sqlite_rules.specs.Calls.{ids_of}
use Rattle.sqlite_schema.specs.declared.program.Program.{Program}
use Rattle.sqlite_schema.specs.Program.{lets_of}
use Rattle.sqlite_sql.specs.Program.{IsProgramAnswer}
use Rattle.sqlite.specs.Does.{Tally, Does}
use Rattle.sqlite.specs.Rows.{Written}
use Rattle.sqlite.specs.Effect.{Database}
use Rattle.sqlite.specs.State.{State, mode_of, Writes}
use Rattle.sqlite.proofs.Callers.{one_step}
use Rattle.sql_rows.specs.Tables.{plain_table}
use Rattle.sql_rows.proofs.Answers.{matched, map_twice, length_map}
use Rattle.sql_rows.proofs.Inserts.{LeavesTable, went, same_value}
use Rattle.sql_rows.proofs.Sets.{replaced, still_shaped}

module _ (schema : Schema) (place tree : ℕ) (name : List ℕ) (columns : List Column) (primary : List ℕ)
    (uniques : List (List ℕ)) (orders : List keys.Order)
    (found : slice_get schema.tables place ≡ Some (plain_table tree name columns primary uniques orders))
    (still : (olds news : List Row) → works schema Enforced 0 tree olds news ≡ []) where
  pub updates : (old new : State) (params : Row) (text : List ℕ) (q : Program) (count : ℕ) → old.now.schema ≡ schema
      → Writes old new None (Update place q) text params count
      → (rows : List Row) × IsProgramAnswer (lets_of q) q.body old.now.trees params rows × LeavesTable schema old.now.trees
      (edit_of old.now.trees (plain_table tree name columns primary uniques orders)
      (ids_of rows) Given 1 rows) new.now
      × (count ≡ length (edit_of old.now.trees (plain_table tree name columns primary uniques orders)
      (ids_of rows) Given 1 rows).news)
  updates old new params text q count has w =
      let table = plain_table tree name columns primary uniques orders in
      let db = old.now.trees in
      let done = went (rw found at
      (subst (λ s. Does old.step_limit (mode_of old) params (record old.now { schema = s }) text None
      (Update place q) (Ok (w.tally, new.now))) has w.changed)) in
      let asked = went done.1 in
      let next = went asked.2 in
      let tested = went done.2 in
      let shown = went tested.2 in
      let now = ap (λ (p : Tally × Database). p.1) (same_value shown.2) in
      let trees : done.0.trees ≡ next.0 = ap (λ (it : Written). it.trees) (same_value next.2) in
      let edit = edit_of db table (ids_of asked.0) Given 1 asked.0 in
      let step = one_step schema Enforced db next.0 edit (still (taken_by db edit) edit.news) next.1 in (
        asked.0,
        asked.1.answer,
        record {
          schema_is = ap (λ (d : Database). d.schema) now;
          step = subst (Applies schema Enforced db edit) (sym trees ∙ sym (ap (λ (d : Database). d.trees) now)) step;
        },
        w.counted ∙ ap (λ (p : Tally × Database). unwrap_or p.0.rows 0) (same_value shown.2) ∙ ap
            (λ (it : Written). length it.rows) (same_value next.2),
      )

-- A query that shows the rows of one table that pass, each with its row number first.
module _ (tree : ℕ) (stored : (db : Trees) → overlay db [] tree ≡ db tree) (tests shows : List Term)
    (values : Row) where
  abbrev pub one_table : Query
  one_table = record {
    from = inner tree end;
    filter = tests;
    group = None;
    project = shows;
    distinct = false;
    collations = [];
    order = [];
    limit = lit (Int (negsuc 0));
    offset = lit (Int (pos 0));
  }

  abbrev env : Row → Env
  env row = values ∷ row ∷ []

  abbrev pub passes : Row → Bool
  passes row = list_all (holds (env row)) tests

  abbrev pub show : Row → Row
  show row = eval_all shows (env row)

  pub answered : (db : Trees) (answer : List Row) → IsAnswer one_table (overlay db []) values answer → IsPermutation
      (map show (filter passes (db tree))) answer
  answered db answer a =
      let found = filter passes (overlay db [] tree) in
      let staged : a.staged ≡ map env found = a.grouped ∙ matched env passes (overlay db [] tree) in
      let kept : a.kept ≡ map (λ r. output one_table (env r)) found =
      a.distinct ∙ ap (map (output one_table)) staged ∙ map_twice (output one_table) env found in
      let row : Output → Row = λ o. o.1 in
      let shuffled : IsPermutation (map row a.kept) (map row a.ordered) =
      IsPermutation-map row a.kept a.ordered a.same in
      subst₂ IsPermutation
      (ap (map row) kept ∙ map_twice row (λ r. output one_table (env r)) found ∙ ap
      (λ rows. map show (filter passes rows)) (stored db)) (sym a.shown) shuffled

-- Each row that passes is replaced by one with its own row number.
module _ (schema : Schema) (place tree : ℕ) (name : List ℕ) (columns : List Column) (primary : List ℕ)
    (uniques : List (List ℕ)) (orders : List keys.Order)
    (found : slice_get schema.tables place ≡ Some (plain_table tree name columns primary uniques orders))
    (still : (olds news : List Row) → works schema Enforced 0 tree olds news ≡ [])
    (stored : (db : Trees) → overlay db [] tree ≡ db tree) (tests shows : List Term) (values : Row)
    (alike : (r : Row) → (rowid (show tree stored tests shows values r) ≡ rowid r) ×
    (column (drop 1 (show tree stored tests shows values r)) 0 ≡ rowid r)) where
  abbrev table : Table
  table = plain_table tree name columns primary uniques orders

  abbrev pub changed : Row → Row
  changed row = if passes tree stored tests shows values row then cast_row table
      (drop 1 (show tree stored tests shows values row)) else row

  -- what an UPDATE with such a query leaves
  pub record Sets (old new : State) (count : ℕ) : Type 0 where
    pub schema_is : new.now.schema ≡ schema
    pub rows : new.now.trees tree ≡ map changed (old.now.trees tree)
    pub shaped : IsShaped shape.Table (map changed (old.now.trees tree))
    pub others : AllByRecursion (λ t. t.tree ≢ tree → new.now.trees t.tree ≡ old.now.trees t.tree) schema.tables
    pub counted : count ≡ length (filter (passes tree stored tests shows values) (old.now.trees tree))

  pub sets : (old new : State) (text : List ℕ) (count : ℕ) → old.now.schema ≡ schema → IsShaped shape.Table
      (old.now.trees tree)
      → Writes old new None
      (Update place (record { lets = []; body = one_table tree stored tests shows values })) text values count
      → Sets old new count
  sets old new text count has shaped w =
      let db = old.now.trees in
      let did = updates schema place tree name columns primary uniques orders found still old new values text
      (record { lets = []; body = one_table tree stored tests shows values }) count has w in
      let answer = did.0 in
      let step = did.2.step in
      let found_rows = filter (passes tree stored tests shows values) (db tree) in
      let same = answered tree stored tests shows values db answer (did.1 Null) in
      let left = without_all (db tree) (ids_of answer) in
      let news = map (λ s. cast_row table (drop 1 s)) answer in
      let put : numbered Given left news ≡ news = given left _ in
      let fresh : are_fresh left news ≡ true = ap (are_fresh left) (sym put) ∙ step.fresh in
      record {
        schema_is = did.2.schema_is;
        rows = step.rows ∙ ap (put_all left) put ∙ replaced table (show tree stored tests shows values)
            (passes tree stored tests shows values) (db tree) answer shaped same alike fresh;
        shaped = still_shaped table (show tree stored tests shows values) (passes tree stored tests shows values)
            (db tree) answer shaped same alike;
        others = step.tables;
        counted = did.3 ∙ ap length put ∙ length_map (λ s. cast_row table (drop 1 s)) answer
            ∙ length_permutation _ _ same ∙ length_map (show tree stored tests shows values) found_rows;
      }
