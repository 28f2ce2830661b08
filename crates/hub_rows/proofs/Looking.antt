-- Proves what a look-up by a text that selects does.
use Rattle.std.proofs.Common.{◌≡◌, ℕ, true, false, Ok, Err, Result, List, [], IsTrue}
use Rattle.sqlite_value.specs.declared.value.Value.TheVariants.{Null}
use Rattle.sqlite_value.specs.Order.{Row}
use Rattle.sqlite_sql.specs.Query.{Query, IsAnswer}
use Rattle.sqlite_sql.specs.Program.{overlay}
use Rattle.sqlite_schema.specs.declared.command.Command.TheVariants.{Select}
use Rattle.sqlite_schema.specs.declared.schema.Schema.{Schema}
use Rattle.sqlite_resolve.specs.Compile.{first}
use Rattle.sqlite.specs.Listing.{understood, reads_listing}
use Rattle.sqlite.specs.State.{State, Shown}
use Rattle.sqlite.proofs.Callers.{IsPlain, command_of, reads_as}
use Rattle.hub_store.specs.Clean.{are_clean}
use Rattle.hub_store.specs.declared.fault.StoreFault.{StoreFault}
use Rattle.hub_tables.specs.Tables.{Tables}
use Rattle.hub_schema.specs.Rows.{tables_in}
use Rattle.hub_schema.specs.Schema.{hub_schema}
use Rattle.hub_schema.specs.State.{HasTables, IsHub, LooksAmong, LooksFor, LooksIn, LooksUp}
use Rattle.hub_rows.specs.Asks.{OnlyReads, Asks}
use Rattle.hub_rows.proofs.Asking.{shown_same, reads_no_commit}
use Rattle.hub_rows.proofs.Selecting.{begins_query, only_reads}

-- the text selects by the query from the tables of a schema
pub record SelectsFrom (schema : Schema) (text : List ℕ) (query : Query) (names : List (List ℕ)) : Type 0 where
  pub first : begins_query (first text) ≡ true
  pub plain : IsPlain (understood schema text)
  pub unlisted : reads_listing schema text ≡ false
  pub is : command_of (understood schema text) ≡ Select (record { lets = []; body = query }) names

-- the text selects from the tables of a hub
abbrev pub Selects : List ℕ → Query → List (List ℕ) → Type 0
Selects = SelectsFrom hub_schema

module _ {schema : Schema} {Are : State → Type 0} (has : (s : State) → Are s → s.now.schema ≡ schema) {text : List ℕ} {query : Query}
    {names : List (List ℕ)} (it : SelectsFrom schema text query names) where
  reads_none : OnlyReads text
  reads_none = only_reads text it.first

  answered : (params : Row) (old new : State) (rows : List Row) → Are old → Shown text params old new rows
      → IsAnswer query (overlay old.now.trees []) params rows
  answered params old new rows are h =
      (reads_as text params old new schema (has old are) _ it.is it.plain it.unlisted rows h).answer Null

  was_open : (params : Row) (old new : State) (rows : List Row) → Shown text params old new rows → IsTrue old.is_open
  was_open params old new rows h = (shown_same text params old new rows reads_none h).0.was_open

  pub looks_among : {X : Type 0} (says : Tables → X → Type 0) (spoilt : Tables → Type 0) (Reads : List Row → X → Type 0)
      (Spoil : List Row → Type 0) (params : Row) (old new : State)
      → (Are old → (rows : List Row) → IsAnswer query (overlay old.now.trees []) params rows → (x : X) → Reads rows x
      → says (tables_in old.now.trees) x)
      → (Are old → (rows : List Row) → IsAnswer query (overlay old.now.trees []) params rows → Spoil rows
      → spoilt (tables_in old.now.trees))
      → (result : Result X StoreFault) → Asks Reads Spoil text params old new result
      → LooksAmong schema Are says spoilt old new result
  looks_among says spoilt Reads Spoil params old new right wrong (Ok x) asks = record {
    answers = λ clean holds. let h = asks.reads clean in
        let are = holds (was_open params old new h.0 h.1) in right are h.0 (answered params old new h.0 are h.1) x h.2;
    same = λ clean. asks.same clean reads_none;
    stays = λ clean idle has up. asks.stays clean idle reads_none up;
    leaves = λ clean. let left = asks.leaves clean reads_none in record { done = left.done; fault = left.fault };
    mode = asks.mode;
    crash = reads_no_commit text params old new reads_none asks.survives;
    unclean = λ clean holds e. absurd cc;
  }
  looks_among says spoilt Reads Spoil params old new right wrong (Err fault) asks = record {
    answers = λ clean holds. tt;
    same = λ clean. tt;
    stays = λ clean idle has up. asks.stays clean idle reads_none up;
    leaves = λ clean. let left = asks.leaves clean reads_none in record { done = left.done; fault = left.fault };
    mode = asks.mode;
    crash = reads_no_commit text params old new reads_none asks.survives;
    unclean = λ clean holds e. let h = asks.spoils clean e in
        let up = was_open params old new h.0 h.1 in
        let are = holds up in (up, wrong are h.0 (answered params old new h.0 are h.1) h.2);
  }

module _ {text : List ℕ} {query : Query} {names : List (List ℕ)} (it : Selects text query names) where
  pub looks_for : {X : Type 0} (says : Tables → X → Type 0) (spoilt : Tables → Type 0) (Reads : List Row → X → Type 0)
      (Spoil : List Row → Type 0) (params : Row) (old new : State)
      → (IsHub old → (rows : List Row) → IsAnswer query (overlay old.now.trees []) params rows → (x : X) → Reads rows x
      → says (tables_in old.now.trees) x)
      → (IsHub old → (rows : List Row) → IsAnswer query (overlay old.now.trees []) params rows → Spoil rows
      → spoilt (tables_in old.now.trees))
      → (result : Result X StoreFault) → Asks Reads Spoil text params old new result → LooksFor says spoilt old new result
  looks_for = looks_among (λ s (hub : IsHub s). hub.schema) it

  pub looks_in : {X : Type 0} (says : Tables → X → Type 0) (spoilt : Tables → Type 0) (Reads : List Row → X → Type 0)
      (Spoil : List Row → Type 0) (params : Row) (old new : State)
      → (HasTables old → (rows : List Row) → IsAnswer query (overlay old.now.trees []) params rows → (x : X) → Reads rows x
      → says (tables_in old.now.trees) x)
      → (HasTables old → (rows : List Row) → IsAnswer query (overlay old.now.trees []) params rows → Spoil rows
      → spoilt (tables_in old.now.trees))
      → (result : Result X StoreFault) → Asks Reads Spoil text params old new result → LooksIn says spoilt old new result
  looks_in = looks_among (λ s (has : HasTables s). has.schema) it

  pub looks : {X : Type 0} (answer : Tables → X) (Reads : List Row → X → Type 0) (Spoil : List Row → Type 0) (params : Row)
      (old new : State)
      → (IsHub old → (rows : List Row) → IsAnswer query (overlay old.now.trees []) params rows → (x : X) → Reads rows x
      → x ≡ answer (tables_in old.now.trees))
      → (IsHub old → (rows : List Row) → IsAnswer query (overlay old.now.trees []) params rows → Spoil rows
      → are_clean (tables_in old.now.trees) ≡ false)
      → (result : Result X StoreFault) → Asks Reads Spoil text params old new result → LooksUp answer old new result
  looks answer = looks_for (λ t x. x ≡ answer t) (λ t. are_clean t ≡ false)
