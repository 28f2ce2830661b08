-- Proves why a query without values can fail, if its text selects from the tables of a schema.
use Rattle.std.proofs.Common.{◌≡◌, ◌≤◌, nat_le, inl, inr, ℕ, true, List, [], length, IsSome, Result, Ok, Err}
use Rattle.std.proofs.Common.{None, sym, ◌∙◌, ap, subst, arith, true≢false}
use Rattle.std.proofs.lemmas.Bool.{cases_Bool}
use Rattle.std.proofs.lemmas.Bool.Decides.{nat_tests}
use Rattle.sqlite_disk.specs.Disk.{MoreFaults}
use Rattle.sqlite_value.specs.Order.{Row}
use Rattle.sqlite_trees.specs.Tree.{Trees}
use Rattle.sqlite_trees.specs.declared.error.StoreError.{StoreError}
use Rattle.sqlite_trees.specs.declared.error.StoreError.TheVariants as store
use Rattle.sqlite_sql.specs.Query.{Query}
use Rattle.sqlite_sql.specs.Term.{Term}
use Rattle.sqlite_value.specs.declared.keys.Key.{Key}
use Rattle.sqlite_sql.specs.Program.{QueryOverflows}
use Rattle.sqlite_schema.specs.declared.command.Command.TheVariants.{Select}
use Rattle.sqlite_schema.specs.declared.schema.Schema.{Schema}
use Rattle.sqlite_resolve.specs.declared.compiled.Compiled.{Compiled}
use Rattle.sqlite_resolve.specs.declared.error.CompileError.{CompileError}
use Rattle.sqlite_typing.specs.Types.{accepts_program}
use Rattle.sqlite.specs.Effect.{Database, RefusesToRead}
use Rattle.sqlite.specs.Listing.{understood, reads_listing, IsSourceOf}
use Rattle.sqlite.specs.State.{State, HasCleanDisk, FailsToQuery, FailsToShow, IsNotRun, IsNoStatement, Fails, HasCause}
use Rattle.sqlite.specs.State.{Survives, store_error}
use Rattle.sqlite.specs.Clock.{timed}
use Rattle.sqlite.specs.declared.error.Error.{Error}
use Rattle.sqlite.proofs.Callers.{IsPlain, command_of}
use Rattle.hub_store.specs.declared.fault.StoreFault.{StoreFault}
use Rattle.hub_store.specs.declared.fault.StoreFault.TheVariants.{Disk}
use Rattle.sql_rows.proofs.Transactions.{clean_before}
use Rattle.hub_tables.specs.Tables.{Tables}
use Rattle.hub_schema.specs.Faults.{fault_of}
use Rattle.hub_schema.specs.State.{LooksAmong, Never}
use Rattle.hub_rows.specs.Asks.{Asks, HasDiskCause, DiskHasCause}
use Rattle.hub_rows.proofs.Finding.{all_of}
use Rattle.hub_rows.proofs.Looking.{SelectsFrom}

abbrev pub names_of : Result Compiled CompileError → List (List ℕ)
names_of (Ok c) = c.names
names_of (Err e) = []

abbrev pub tail_of : Result Compiled CompileError → ℕ
tail_of (Ok c) = c.tail
tail_of (Err e) = 0

-- the text is one statement without parameters, whose types fit and in which no sum can overflow
pub record IsBare (schema : Schema) (text : List ℕ) (query : Query) : Type 0 where
  pub unnamed : names_of (understood schema text) ≡ []
  pub whole : nat_le (length text) (tail_of (understood schema text)) ≡ true
  pub typed : accepts_program schema [] query [] ≡ true
  pub steady : (db : Trees) (params : Row) → QueryOverflows query db params → ⊥

-- a fault of the storage other than `Memory` is one that was counted, or the connection was shut
by_store : (old new : State) (cause : StoreError) → fault_of (store_error cause) ≡ Disk → HasCause old new ⊥ cause → HasDiskCause old new
by_store old new store.OutOfMemory disk has = absurd (let bad = disk in cc)
by_store old new store.Io disk has = inl has
by_store old new store.Corrupt disk has = inl has
by_store old new store.Full disk has = inl has
by_store old new store.Broken disk has = inr (inl has)
by_store old new store.Unstorable disk has = absurd has

failed_below : (old new : State) (e : Error) → fault_of e ≡ Disk → Fails old new ⊥ e → HasDiskCause old new
failed_below old new e disk failed = by_store old new failed.0 (ap fault_of (sym failed.1) ∙ disk) failed.2

module _ {schema : Schema} {text : List ℕ} {query : Query} {names : List (List ℕ)} (it : SelectsFrom schema text query names)
    (bare : IsBare schema text query) where
  -- the text is compiled to this statement
  record IsIt (c : Compiled) : Type 0 where
    shows : c.returning ≡ None
    formats : c.formats ≡ []
    unnamed : c.names ≡ []
    whole : length text ≤ c.tail
    selects : c.command ≡ Select (record { lets = []; body = query }) names

  within : (a b : ℕ) → nat_le a b ≡ true → a ≤ b
  within a b h = grind (arith, nat_tests)

  is_it : (c : Compiled) → understood schema text ≡ Ok c → IsIt c
  is_it c is =
      let plain = subst IsPlain is it.plain in
      record {
        shows = plain.0;
        formats = plain.1;
        unnamed = ap names_of (sym is) ∙ bare.unnamed;
        whole = within (length text) c.tail (subst (λ r. nat_le (length text) (tail_of r) ≡ true) is bare.whole);
        selects = ap command_of (sym is) ∙ it.is;
      }

  is_one : (s : State) (e : Error) → s.now.schema ≡ schema → IsNoStatement s text [] e → ⊥
  is_one s e has (inl (fault, not, told)) = subst IsPlain (ap (λ x. understood x text) (sym has) ∙ not) it.plain
  is_one s e has (inr (c, is, inl (cut, told))) = cut (is_it c (ap (λ x. understood x text) (sym has) ∙ is)).whole
  is_one s e has (inr (c, is, inr (inl (given, told)))) =
      given (ap length (sym (is_it c (ap (λ x. understood x text) (sym has) ∙ is)).unnamed))
  is_one s e has (inr (c, is, inr (inr (timed, told)))) = timed (is_it c (ap (λ x. understood x text) (sym has) ∙ is)).formats

  refused : (old new : State) (db : Database) (e : Error) → old.now.schema ≡ schema → db ≡ old.now
      → RefusesToRead old.step_limit (Select (record { lets = []; body = query }) names) db [] e → HasDiskCause old new
  refused old new db e has from (inl (told, wrong)) =
      absurd (true≢false (sym bare.typed ∙ ap (λ x. accepts_program x [] query []) (sym has)
      ∙ ap (λ (d : Database). accepts_program d.schema [] query []) (sym from) ∙ wrong))
  refused old new db e has from (inr (inl (told, overflows))) = absurd (bare.steady _ [] overflows)
  refused old new db e has from (inr (inr (told, limited))) = inr (inr limited)

  not_shown : (old new : State) (c : Compiled) (now : ℕ) (e : Error) → old.now.schema ≡ schema → IsIt c
      → FailsToShow old new text c (timed [] c.formats now) e c.returning → HasDiskCause old new
  not_shown old new c now e has is failed =
      let plainly = subst (FailsToShow old new text c (timed [] c.formats now) e) is.shows failed in
      let source = subst (λ b. IsSourceOf b old.now plainly.0) (ap (λ x. reads_listing x text) has ∙ it.unlisted) plainly.1 in
      let untimed = subst (λ formats. RefusesToRead old.step_limit c.command plainly.0 (timed [] formats now) e) is.formats plainly.2 in
      refused old new plainly.0 e has source (subst (λ command. RefusesToRead old.step_limit command plainly.0 [] e) is.selects untimed)

  query_failed : (old new : State) (e : Error) → old.now.schema ≡ schema → fault_of e ≡ Disk → FailsToQuery text [] old new e
      → HasDiskCause old new
  unfolding FailsToQuery IsNotRun
  query_failed old new e has disk (inl (inl h)) = absurd (is_one old e has h.0)
  query_failed old new e has disk (inl (inr h)) = failed_below old new e disk h
  query_failed old new e has disk (inr (c, is, failed)) =
      not_shown old new c is.now e has (is_it c (ap (λ x. understood x text) (sym has) ∙ is.is)) failed

  -- so a fault of the disk has a cause
  pub disk_has_cause : {X : Type 0} (Reads : List Row → X → Type 0) (Spoil : List Row → Type 0) (old new : State)
      (result : Result X StoreFault) → Asks Reads Spoil text [] old new result → DiskHasCause schema old new result
  disk_has_cause Reads Spoil old new result asks clean holds told = elim (cases_Bool old.is_open) [
    | inl up ↦ let h = asks.disk clean told in query_failed old new h.0 (holds up) h.2 h.1
    | inr shut ↦ inr (inl shut)
  ]

-- faults counted later are more than before
pub more_faults : {a b c : ℕ} → a ≤ b → MoreFaults b c → MoreFaults a c
more_faults less more = omega (arith, less, more)

-- a cause that arose after a successful look-up is also one from before it
module _ {schema : Schema} {Are : State → Type 0} {X : Type 0} (says : Tables → X → Type 0) (spoilt : Tables → Type 0) (old mid new : State)
    (x : X) (first : LooksAmong schema Are says spoilt old mid (Ok x)) where
  came_before : HasCleanDisk mid → HasDiskCause mid new → HasDiskCause old new
  came_before clean (inl more) = inl (more_faults first.crash.counts more)
  came_before clean (inr (inl shut)) = absurd (true≢false (sym (first.same clean).1 ∙ shut))
  came_before clean (inr (inr limited)) = inr (inr (subst IsSome first.crash.limit limited))

  pub cause_before : {Y : Type 0} (result : Result Y StoreFault) → Survives mid new Never → DiskHasCause schema mid new result
      → DiskHasCause schema old new result
  cause_before result survives later clean holds told =
      let early = clean_before mid new _ survives clean in
      let same = first.same early in
      came_before early (later clean (λ up. ap (λ (db : Database). db.schema) same.2 ∙ holds same.0) told)

-- in a query of one table no sum can overflow
pub one_table : (tree : ℕ) (tests columns : List Term) (order : List (Term × Key)) (db : Trees) (params : Row)
    → QueryOverflows (all_of tree tests columns order) db params → ⊥
one_table tree tests columns order db params (inl none) = none
one_table tree tests columns order db params (inr found) = found.4
