-- Proves what DELETE does to the trees.
use Rattle.std.proofs.Common.{◌≡◌, ◌≢◌, Bool, not, ℕ, List, [], slice_get, Some, None, Ok, ap, subst, sym, filter, ◌∙◌}
use Rattle.std.specs.List.{AllByRecursion}
use Rattle.sqlite_value.specs.declared.value.Value.TheVariants.{Null}
use Rattle.sqlite_value.specs.Order.{Row}
use Rattle.sqlite_sql.specs.Term.{Term}
use Rattle.sqlite_sql.specs.Program.{overlay}
use Rattle.sqlite_trees.specs.Tree.{Trees, rowid}
use Rattle.sqlite_trees.specs.View.{IsShaped}
use Rattle.sqlite_trees.specs.declared.store.Shape.TheVariants as shape
use Rattle.sqlite.specs.Schema.{Schema}
use Rattle.sqlite_value.specs.declared.keys.Order as keys
use Rattle.sqlite_schema.specs.declared.schema.Column.{Column}
use Rattle.sqlite_schema.specs.declared.schema.Keys.TheVariants.{Enforced}
use Rattle.sqlite.specs.Command.TheVariants.{Delete}
use Rattle.sqlite.specs.Edit.{edit_of}
use Rattle.sqlite.specs.Rowids.TheVariants.{Given}
use Rattle.sqlite_rules.specs.Edit.{Applies, taken_by}
use Rattle.sqlite_rules.specs.Action.{works}
use Rattle.sqlite_rules.specs.Calls.{ids_of}
use Rattle.sqlite_schema.specs.declared.program.Program.{Program}
use Rattle.sqlite_schema.specs.Program.{lets_of}
use Rattle.sqlite_sql.specs.Program.{IsProgramAnswer}
use Rattle.sqlite.specs.Does.{Tally, Does}
use Rattle.sqlite.specs.Rows.{Written}
use Rattle.sqlite.specs.Effect.{Database}
use Rattle.sqlite.specs.State.{State, mode_of, Writes}
use Rattle.sqlite.proofs.Callers.{one_step}
use Rattle.sql_rows.specs.Tables.{plain_table}
use Rattle.sql_rows.proofs.Inserts.{LeavesTable, went, same_value}
use Rattle.sql_rows.proofs.Sets.{taken_out, kept_shaped}
use Rattle.sql_rows.proofs.Updates.{one_table, passes, show, answered}

module _ (schema : Schema) (place tree : ℕ) (name : List ℕ) (columns : List Column) (primary : List ℕ)
    (uniques : List (List ℕ)) (orders : List keys.Order)
    (found : slice_get schema.tables place ≡ Some (plain_table tree name columns primary uniques orders))
    (still : (olds news : List Row) → works schema Enforced 0 tree olds news ≡ []) where
  pub deletes : (old new : State) (params : Row) (text : List ℕ) (q : Program) (count : ℕ) → old.now.schema ≡ schema
      → Writes old new None (Delete place q) text params count
      → (rows : List Row) × IsProgramAnswer (lets_of q) q.body old.now.trees params rows × LeavesTable schema old.now.trees
      (edit_of old.now.trees (plain_table tree name columns primary uniques orders) (ids_of rows) Given 0 []) new.now
  deletes old new params text q count has w =
      let table = plain_table tree name columns primary uniques orders in
      let db = old.now.trees in
      let done = went (rw found at
      (subst (λ s. Does old.step_limit (mode_of old) params (record old.now { schema = s }) text None
      (Delete place q) (Ok (w.tally, new.now))) has w.changed)) in
      let asked = went done.1 in
      let next = went asked.2 in
      let tested = went done.2 in
      let shown = went tested.2 in
      let now = ap (λ (p : Tally × Database). p.1) (same_value shown.2) in
      let trees : done.0.trees ≡ next.0 = ap (λ (it : Written). it.trees) (same_value next.2) in
      let edit = edit_of db table (ids_of asked.0) Given 0 [] in
      let step = one_step schema Enforced db next.0 edit (still (taken_by db edit) edit.news) next.1 in (
        asked.0,
        asked.1.answer,
        record {
          schema_is = ap (λ (d : Database). d.schema) now;
          step = subst (Applies schema Enforced db edit) (sym trees ∙ sym (ap (λ (d : Database). d.trees) now)) step;
        },
      )

-- Each row that passes is deleted.
module _ (schema : Schema) (place tree : ℕ) (name : List ℕ) (columns : List Column) (primary : List ℕ)
    (uniques : List (List ℕ)) (orders : List keys.Order)
    (found : slice_get schema.tables place ≡ Some (plain_table tree name columns primary uniques orders))
    (still : (olds news : List Row) → works schema Enforced 0 tree olds news ≡ [])
    (stored : (db : Trees) → overlay db [] tree ≡ db tree) (tests shows : List Term) (values : Row)
    (alike : (r : Row) → rowid (show tree stored tests shows values r) ≡ rowid r) where
  -- the rows that stay
  abbrev pub stays : Row → Bool
  stays row = not (passes tree stored tests shows values row)

  -- what a DELETE with such a query leaves
  pub record Removes (old new : State) : Type 0 where
    pub schema_is : new.now.schema ≡ schema
    pub rows : new.now.trees tree ≡ filter stays (old.now.trees tree)
    pub shaped : IsShaped shape.Table (filter stays (old.now.trees tree))
    pub others : AllByRecursion (λ t. t.tree ≢ tree → new.now.trees t.tree ≡ old.now.trees t.tree) schema.tables

  pub removes : (old new : State) (text : List ℕ) (count : ℕ) → old.now.schema ≡ schema → IsShaped shape.Table
      (old.now.trees tree)
      → Writes old new None
      (Delete place (record { lets = []; body = one_table tree stored tests shows values })) text values count
      → Removes old new
  removes old new text count has shaped w =
      let db = old.now.trees in
      let did = deletes schema place tree name columns primary uniques orders found still old new values text
      (record { lets = []; body = one_table tree stored tests shows values }) count has w in
      let answer = did.0 in
      let step = did.2.step in
      let same = answered tree stored tests shows values db answer (did.1 Null) in
      record {
        schema_is = did.2.schema_is;
        rows = step.rows ∙ taken_out (show tree stored tests shows values)
            (passes tree stored tests shows values) (db tree) answer shaped same alike;
        shaped = kept_shaped (show tree stored tests shows values) (passes tree stored tests shows values)
            (db tree) answer shaped same alike;
        others = step.tables;
      }
