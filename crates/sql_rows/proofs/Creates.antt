-- Proves what CREATE TABLE does.
use Rattle.std.proofs.Common.{◌≡◌, ℕ, List, [], false, None, Ok, sym, ap, subst, ◌∙◌}
use Rattle.sqlite.specs.Table.{Table}
use Rattle.sqlite.specs.Schema.{Schema}
use Rattle.sqlite.specs.Command.TheVariants.{CreateTable}
use Rattle.sqlite.specs.Compile.{table_defined_by}
use Rattle.sqlite.specs.Change.{created}
use Rattle.sqlite_catalog.specs.Calls.{CreatesTable}
use Rattle.sqlite.specs.Does.{Tally, lacks_sequence}
use Rattle.sqlite.specs.Effect.{Database}
use Rattle.sqlite.specs.State.{State, Writes}
use Rattle.sql_rows.proofs.Inserts.{went, same_value}

-- CREATE TABLE makes the table of its text
pub creates : (schema : Schema) (text : List ℕ) (table : Table) → table_defined_by text ≡ Ok table →
    (lacks_sequence (created schema table) ≡ false) → (old new : State) (count : ℕ) → old.now.schema ≡ schema
    → Writes old new None CreateTable text [] count → CreatesTable schema text old.now.trees
    (created schema table) new.now.trees × (new.now.schema ≡ created schema table)
creates schema text table defined calm old new count has w =
    let all = went w.changed in
    let first = went all.1 in
    let made = first.1 in
    let both : Ok made.table ≡ Ok table = sym made.defined ∙ defined in
    let same : made.table ≡ table = same_value both in
    let is : first.0.schema ≡ created schema table =
    made.is ∙ ap (λ s. created s made.table) has ∙ ap (created schema) same in
    let plain : lacks_sequence first.0.schema ≡ false = ap lacks_sequence is ∙ calm in
    let now : new.now ≡ first.0 =
    ap (λ (p : Tally × Database). p.1) (same_value all.2) ∙ same_value (rw plain at first.2) in
    let it : CreatesTable schema text old.now.trees first.0.schema first.0.trees =
    subst (λ s. CreatesTable s text old.now.trees first.0.schema first.0.trees) has made in (
      subst (λ t. CreatesTable schema text old.now.trees (created schema table) t)
          (ap (λ (d : Database). d.trees) (sym now))
          (subst (λ s. CreatesTable schema text old.now.trees s first.0.trees) is it),
      ap
          (λ (d : Database). d.schema) now ∙ is,
    )
