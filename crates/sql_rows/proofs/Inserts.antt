-- Proves what INSERT does to the trees.
use Rattle.std.proofs.Common.{◌≡◌, ◌⊎◌, inl, inr, ℕ, ◌/◌, ℤ, length, List, [], ◌++◌, slice_get, Bool, true, false, cond}
use Rattle.std.proofs.Common.{Some, None, Ok, Err, Result, refl, sym, ap, subst, ◌∙◌}
use Rattle.sqlite.specs.declared.types.Value.{Value}
use Rattle.sqlite.specs.declared.types.Value.TheVariants.{Null, Int}
use Rattle.sqlite.specs.Order.{Row}
use Rattle.sqlite.specs.Term.{Term}
use Rattle.sqlite.specs.Ops.{unary}
use Rattle.sqlite.specs.Schema.{Schema}
use Rattle.sqlite_value.specs.declared.keys.Order as keys
use Rattle.sqlite_schema.specs.declared.schema.Column.{Column}
use Rattle.sqlite_schema.specs.declared.schema.Keys.TheVariants.{Enforced}
use Rattle.sqlite.specs.Kind.TheVariants.{Integer}
use Rattle.sqlite.specs.Source.TheVariants.{Values}
use Rattle.sqlite.specs.Command.TheVariants.{Insert}
use Rattle.sqlite.specs.Edit.{Edit, edit_of}
use Rattle.sqlite.specs.Cast.{cast}
use Rattle.sqlite.specs.Rowids.TheVariants.{Chosen}
use Rattle.sqlite_rules.specs.Edit.{Applies, taken_by}
use Rattle.sqlite_rules.specs.Action.{works}
use Rattle.sqlite.specs.Does.{Tally, Does}
use Rattle.sqlite.specs.Rows.{Written}
use Rattle.sqlite.specs.Tree.{Trees}
use Rattle.sqlite.specs.Effect.{Database, value_rows}
use Rattle.sqlite.specs.State.{State, mode_of, Writes}
use Rattle.sqlite.proofs.Callers.{one_step}
use Rattle.sql_rows.specs.Tables.{plain_table}

either : (b : Bool) (x : Value) → cond b x x ≡ x
either true x = refl
either false x = refl

pub cast_null : cast Integer Null ≡ Null
unfolding unary
cast_null = either _ Null

pub cast_int : (n : ℤ) → cast Integer (Int n) ≡ Int n
unfolding unary
cast_int n = either _ (Int n)

pub same_value : {B E : Type 0} {a b : B} → ◌≡◌ {A = Result B E} (Ok a) (Ok b) → a ≡ b
same_value e = cc

-- a part that gave a value was not stopped
pub went : {B E R : Type 0} {b : B} {Stops : E → Type 0} → ((stop : E) × Stops stop × (Ok b ≡ Err stop)) ⊎ R → R
went (inl stopped) = absurd (let e = stopped.2 in cc)
went (inr on) = on

-- what one step on a table leaves
pub record LeavesTable (schema : Schema) (old : Trees) (edit : Edit) (now : Database) : Type 0 where
  pub schema_is : now.schema ≡ schema
  pub step : Applies schema Enforced old edit now.trees

module _ (schema : Schema) (place tree : ℕ) (name : List ℕ) (columns : List Column) (primary : List ℕ)
    (uniques : List (List ℕ)) (orders : List keys.Order)
    (found : slice_get schema.tables place ≡ Some (plain_table tree name columns primary uniques orders))
    (still : (olds news : List Row) → works schema Enforced 0 tree olds news ≡ []) where
  pub inserts : (old new : State) (params : Row) (text : List ℕ) (terms : List Term) (width count : ℕ)
      → old.now.schema ≡ schema → Writes old new None (Insert place (Values terms width)) text params count
      → LeavesTable schema old.now.trees
      (edit_of old.now.trees (plain_table tree name columns primary uniques orders) [] Chosen 0
      (value_rows (params ++ []) width (length terms / width) terms)) new.now
  inserts old new params text terms width count has w =
      let table = plain_table tree name columns primary uniques orders in
      let db = old.now.trees in
      let command = Insert place (Values terms width) in
      let done = went (rw found at
      (subst (λ s. Does old.step_limit (mode_of old) params (record old.now { schema = s }) text None command
      (Ok (w.tally, new.now))) has w.changed)) in
      let given = went done.1 in
      let counter = went given.2 in
      let mid = went counter.2 in
      let last = went mid.2 in
      let tested = went done.2 in
      let shown = went tested.2 in
      let now = ap (λ (p : Tally × Database). p.1) (same_value shown.2) in
      let trees : done.0.trees ≡ mid.0 = ap (λ (it : Written). it.trees) (same_value last.2) ∙ same_value last.1 in
      let edit = edit_of db table [] Chosen 0 given.0 in
      let step = one_step schema Enforced db mid.0 edit (still (taken_by db edit) edit.news) mid.1 in
      record {
        schema_is = ap (λ (d : Database). d.schema) now;
        step = subst (Applies schema Enforced db _) (sym trees ∙ sym (ap (λ (d : Database). d.trees) now))
            (subst (λ rows. Applies schema Enforced db (edit_of db table [] Chosen 0 rows) mid.0) given.1.1 step);
      }
