-- Proves why an INSERT is refused because a key exists already.
use Rattle.std.proofs.Common.{◌≡◌, refl, inl, inr, ℕ, zero, suc, length, length-append, List, [], ◌∷◌, false, Option}
use Rattle.std.proofs.Common.{Some, None, option_map, Err, Result, ap, arith, slice_get, ◌/◌, append-nil, sym, subst}
use Rattle.std.proofs.Common.{◌∙◌, IsTrue, ◌++◌}
use Rattle.std.proofs.lemmas.Bool.{cases_Bool}
use Rattle.sqlite_value.specs.declared.keys.Order as keys
use Rattle.sqlite_sql.specs.Term.{Term}
use Rattle.sqlite_schema.specs.declared.schema.Column.{Column}
use Rattle.sqlite_schema.specs.declared.command.Source.TheVariants.{Values}
use Rattle.sqlite_schema.specs.declared.command.Command.TheVariants.{Insert}
use Rattle.sqlite_rules.specs.declared.error.Rowids.TheVariants.{Chosen}
use Rattle.sql_rows.specs.Tables.{plain_table}
use Rattle.sqlite.specs.Effect.{IsSource, value_rows}
use Rattle.sqlite_rules.specs.Edit.{edit_of}
use Rattle.sqlite.proofs.Callers.{IsPlain, command_of}
use Rattle.sqlite_value.specs.Order.{Row}
use Rattle.sqlite_trees.specs.Tree.{Trees, with_tree}
use Rattle.sqlite_trees.specs.declared.error.StoreError.{StoreError}
use Rattle.sqlite_trees.specs.declared.error.StoreError.TheVariants as cause
use Rattle.sqlite_schema.specs.declared.schema.Schema.{Schema}
use Rattle.sqlite_schema.specs.declared.schema.Constraint.TheVariants.{Unique}
use Rattle.sqlite_schema.specs.declared.schema.Keys.TheVariants.{Enforced}
use Rattle.sqlite_schema.specs.Rules.{Keeps}
use Rattle.sqlite_resolve.specs.declared.compiled.Compiled.{Compiled}
use Rattle.sqlite_rules.specs.declared.error.Refusal.{Refusal}
use Rattle.sqlite_rules.specs.declared.error.Refusal.TheVariants as why
use Rattle.sqlite_rules.specs.Edit.{Edit, edited, taken_by}
use Rattle.sqlite_rules.specs.Action.{works, Leads, Writes}
use Rattle.sqlite.specs.declared.error.Error.{Error}
use Rattle.sqlite.specs.declared.error.Error.TheVariants.{SqliteFailure}
use Rattle.sqlite.specs.declared.error.ErrorCode.TheVariants as code
use Rattle.sqlite.specs.Clock.{timed}
use Rattle.sqlite.specs.Listing.{understood}
use Rattle.sqlite.specs.Does.{Does, OnRows}
use Rattle.sqlite.specs.Effect.{edit_error}
use Rattle.sqlite.specs.Rows.{Edited, Inserts, Sourced, Task, stamped}
use Rattle.sqlite.specs.declared.run.Mode.{Mode}
use Rattle.sqlite_schema.specs.declared.schema.Table.{Table}
use Rattle.sqlite.specs.State.{State, mode_of, store_error, text_of, shows_rows, IsStatement, IsNoStatement, IsNotRun}
use Rattle.sqlite.specs.State.{IsUnchanged, IsMisplaced, RunsCommand, ExecutesIn, ExecutesInside}

abbrev pub not_unique : Error
not_unique = SqliteFailure (code.ConstraintViolation Unique)

-- it is not a fault of the store
no_store_error : (kind : StoreError) → not_unique ≡ store_error kind → ⊥
no_store_error cause.OutOfMemory e = cc
no_store_error cause.Io e = cc
no_store_error cause.Corrupt e = cc
no_store_error cause.Full e = cc
no_store_error cause.Broken e = cc
no_store_error cause.Unstorable e = cc

no_statement : (s : State) (sql : List ℕ) (params : Row) → IsNoStatement s sql params not_unique → ⊥
no_statement s sql params (inl h) = let e = h.2 in cc
no_statement s sql params (inr (c, is, inl h)) = let e = h.1 in cc
no_statement s sql params (inr (c, is, inr (inl h))) = let e = h.1 in cc
no_statement s sql params (inr (c, is, inr (inr h))) = let e = h.1 in cc

not_misplaced : (s : State) (c : Compiled) → IsMisplaced s c.command not_unique → ⊥
not_misplaced s c (inl h) = let e = h.0 in cc
not_misplaced s c (inr h) = let e = h.0 in cc

-- how the command ended if it was refused for this reason
abbrev pub IsRefusedFor : State → List ℕ → Row → Compiled → ℕ → Type 0
IsRefusedFor old sql params c now =
    Does old.step_limit (mode_of old) (timed params c.formats now) old.now (text_of sql c) c.returning c.command
    (Err (Some not_unique))

command_refused : (old new : State) (sql : List ℕ) (c : Compiled) (params : Row) (now : ℕ) → RunsCommand old new sql c
    (timed params c.formats now) (Err not_unique) → IsUnchanged old new × IsRefusedFor old sql params c now
command_refused old new sql c params now (inl (inl misplaced, same)) = absurd (not_misplaced old c misplaced)
command_refused old new sql c params now (inl (inr did, same)) = (same, did.1)
command_refused old new sql c params now (inr fails) = absurd (no_store_error fails.0 fails.1)

pub why_refused : (old new : State) (sql : List ℕ) (params : Row) → ExecutesInside 0 sql params old new (Err not_unique)
    → IsUnchanged old new × ((c : Compiled) × (it : IsStatement old sql params c) × IsRefusedFor old sql params c it.now)
unfolding ExecutesIn IsNotRun
why_refused old new sql params (inr ends) = absurd (let e = ends.1 in cc)
why_refused old new sql params (inl (inl (inl none), later)) = absurd (no_statement old sql params none.0)
why_refused old new sql params (inl (inl (inr fails), later)) = absurd (no_store_error fails.0 fails.1)
why_refused old new sql params (inl (inr (c, it, ran), later)) = elim (cases_Bool (shows_rows false c)) [
  | inl shows ↦ absurd (let e = (rw shows at ran).0 in cc)
  | inr runs ↦ let both = command_refused old new sql c params it.now (rw runs at ran) in (both.0, (c, it, both.1))
]

same_error : {A : Type 0} {s t : Option Error} → ◌≡◌ {A = Result A (Option Error)} (Err s) (Err t) → s ≡ t
same_error e = cc

-- the edit that is refused for this reason
refusal_is : (r : Option Refusal) → Some not_unique ≡ option_map edit_error r → r ≡ Some (why.Violates Unique)
refusal_is None e = cc
refusal_is (Some (why.Violates rule)) e = cc
refusal_is (Some why.Mismatch) e = cc
refusal_is (Some why.NoRowid) e = cc
refusal_is (Some why.BadReference) e = cc
refusal_is (Some why.TooDeep) e = cc

write_refused : (schema : Schema) (db : Trees) (edit : Edit) → works schema Enforced 0 edit.table.tree
    (taken_by db edit) edit.news ≡ [] → Writes schema Enforced db edit (Err (Some (why.Violates Unique)))
    → ¬ Keeps Unique schema (with_tree db edit.table.tree (edited db edit))
write_refused schema db edit none (inl (reason, refused, e)) =
    let is : reason ≡ why.Violates Unique = cc in rw is at refused
write_refused schema db edit none (inr (inl big)) = absurd (let e = big.3 in cc)
write_refused schema db edit none (inr (inr went)) = absurd (never went.2.0 (rw none at went.2.1))
  where
    never : (n : ℕ) → Leads schema Enforced n went.0 [] (Err (Some (why.Violates Unique))) → ⊥
    never zero h = let e = h.1 in cc
    never (suc n) h = omega (arith, ap length h.2, length-append h.0 (h.1 ∷ []))

edit_refused : (schema : Schema) (db : Trees) (edit : Edit) → works schema Enforced 0 edit.table.tree
    (taken_by db edit) edit.news ≡ [] → Edited schema Enforced db edit (Err (Some not_unique))
    → ¬ Keeps Unique schema (with_tree db edit.table.tree (edited db edit))
edit_refused schema db edit none (reason, wrote, e) =
    write_refused schema db edit none (rw (refusal_is reason e) at wrote)

module _ (schema : Schema) (place tree : ℕ) (name : List ℕ) (columns : List Column) (primary : List ℕ)
    (uniques : List (List ℕ)) (orders : List keys.Order)
    (found : slice_get schema.tables place ≡ Some (plain_table tree name columns primary uniques orders))
    (still : (olds news : List Row) → works schema Enforced 0 tree olds news ≡ [])
    (limit : Option ℕ) (mode : Mode) (enforced : mode.keys ≡ Enforced) (params : Row) (db : Trees) (terms : List Term)
    (width : ℕ) where
  abbrev table : Table
  table = plain_table tree name columns primary uniques orders

  abbrev task : Task
  task = record { limit = limit; keys = mode.keys; schema = schema; table = table; params = params }

  abbrev pub edit_for : List Row → Edit
  edit_for rows = edit_of db table [] Chosen 0 rows

  -- the values are the source of the row
  sourced_is : (rows : List Row) → IsSource (record { schema = schema; trees = db }) (stamped table params)
      (Values terms width) rows → rows ≡ value_rows (params ++ []) width (length terms / width) terms
  sourced_is rows h = h.1

  no_source : (s : Option Error) → ◌≡◌ {A = Option Error} (Some not_unique) s → ¬ Sourced limit
      (record { schema = schema; trees = db }) (stamped table params) (Values terms width) (Err s)
  no_source None e h = h
  no_source (Some x) e (inl h) = let bad = h.0 in cc
  no_source (Some x) e (inr h) = let bad = h.0 in cc

  insert_refused : (s : Option Error) → ◌≡◌ {A = Option Error} (Some not_unique) s → Inserts task
      (Values terms width) db (Err s) → Edited schema mode.keys db
      (edit_for (value_rows (params ++ []) width (length terms / width) terms)) (Err (Some not_unique))
  insert_refused s e (inl (t, stops, is)) = absurd (no_source t (e ∙ same_error is) stops)
  insert_refused s e (inr (rows, sourced, inl (t, stops, is))) = absurd (let bad = stops in cc)
  insert_refused s e (inr (rows, sourced, inr (counter, none, inl (t, stops, is)))) =
      subst (λ rs. Edited schema mode.keys db (edit_for rs) (Err (Some not_unique))) (sourced_is rows sourced)
      (subst (λ t. Edited schema mode.keys db (edit_for rows) (Err t)) (sym (e ∙ same_error is)) stops)
  insert_refused s e (inr (rows, sourced, inr (counter, none, inr (mid, edited, inl (t, stops, is))))) =
      absurd (let bad = stops in cc)
  insert_refused s e (inr (rows, sourced, inr (counter, none, inr (mid, edited, inr (next, counts, gives))))) =
      absurd (let bad = gives in cc)

  on_rows_refused : OnRows task mode None (Insert place (Values terms width)) db (Err (Some not_unique))
      → Edited schema mode.keys db (edit_for (value_rows (params ++ []) width (length terms / width) terms))
      (Err (Some not_unique))
  on_rows_refused (inl (s, stops, is)) = insert_refused s (same_error is) stops
  on_rows_refused (inr (w, wrote, inl (s, (broken, foreign), is))) = absurd (let bad = same_error is ∙ foreign in cc)
  on_rows_refused (inr (w, wrote, inr (doubt, tested, inl (s, stops, is)))) = absurd (let bad = stops in cc)
  on_rows_refused (inr (w, wrote, inr (doubt, tested, inr (rows, shown, gives)))) = absurd (let bad = gives in cc)

  -- the row's key would exist already
  pub does_refused : (text : List ℕ) → Does limit mode params (record { schema = schema; trees = db }) text None
      (Insert place (Values terms width)) (Err (Some not_unique))
      → ¬ Keeps Unique schema
      (with_tree db tree (edited db (edit_for (value_rows (params ++ []) width (length terms / width) terms))))
  does_refused text h =
      let edit = edit_for (value_rows (params ++ []) width (length terms / width) terms) in
      edit_refused schema db edit (still (taken_by db edit) edit.news)
      (subst (λ keys. Edited schema keys db edit (Err (Some not_unique))) enforced
      (on_rows_refused (rw found at h)))

module _ (schema : Schema) (place tree : ℕ) (name : List ℕ) (columns : List Column) (primary : List ℕ)
    (uniques : List (List ℕ)) (orders : List keys.Order)
    (found : slice_get schema.tables place ≡ Some (plain_table tree name columns primary uniques orders))
    (still : (olds news : List Row) → works schema Enforced 0 tree olds news ≡ [])
    (sql : List ℕ) (terms : List Term) (width : ℕ)
    (is : command_of (understood schema sql) ≡ Insert place (Values terms width))
    (plain : IsPlain (understood schema sql))
    (old new : State) (params : Row) where
  -- an INSERT that is refused for this reason would break a key, and the connection is open
  pub refused : ExecutesInside 0 sql params old new (Err not_unique) → IsTrue old.is_open × (old.now.schema ≡ schema
      → ¬ Keeps Unique schema
      (with_tree old.now.trees tree
      (edited old.now.trees
      (edit_of old.now.trees (plain_table tree name columns primary uniques orders) [] Chosen 0
      (value_rows (params ++ []) width (length terms / width) terms)))))
  refused h = (
    (why_refused old new sql params h).0.0.was_open,
    λ has.
        let it = (why_refused old new sql params h).1 in
        let c = it.0 in
        let known = sym it.1.is ∙ ap (λ s. understood s sql) has in
        let bare = subst IsPlain (sym known) plain in
        let command : c.command ≡ Insert place (Values terms width) = ap command_of known ∙ is in
        let full = rw (bare.0, bare.1, append-nil params) at it.2 in
        let there = subst (λ k. Does old.step_limit (mode_of old) params old.now (text_of sql c) None k
        (Err (Some not_unique))) command full in
        let here = subst (λ s. Does old.step_limit (mode_of old) params (record old.now { schema = s })
        (text_of sql c) None (Insert place (Values terms width)) (Err (Some not_unique))) has there in
        does_refused schema place tree name columns primary uniques orders found still old.step_limit
        (mode_of old) refl params old.now.trees terms width (text_of sql c) here,
  )
