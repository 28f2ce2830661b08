-- Shows what making a table leaves.
use Rattle.std.proofs.Common.{◌≡◌, ◌⊎◌, ◌<◌, ◌≤◌, ℕ, pos, if◌then◌else◌, List, [], ◌∷◌, ◌++◌, length, map, drop, take}
use Rattle.std.proofs.Common.{◌-◌, get_or, ◌==◌, None, Result, Ok, Err, OnOk, OnErr, inl, inr, false, refl, sym, ap, subst}
use Rattle.std.proofs.Common.{append_assoc, append-nil, ◌∙◌, arith}
use Rattle.std.specs.List.{AllByRecursion}
use Rattle.std.specs.Prelude.{fold}
use Rattle.std.proofs.lemmas.Bool.Decides.{nat_tests}
use Rattle.std.proofs.Math.Seq.{take-length}
use Rattle.sqlite.specs.Command.TheVariants.{CreateTable}
use Rattle.sqlite.specs.Schema.{Schema}
use Rattle.sqlite.specs.Table.{Table}
use Rattle.sqlite.specs.Tree.{Trees}
use Rattle.sqlite.specs.State.{State, Writes, ExecutesInside, Shows, HasCleanDisk, KeepsCommit}
use Rattle.sqlite.specs.declared.error.Error.{Error}
use Rattle.sqlite.proofs.Callers.{runs_as}
use Rattle.sqlite_catalog.specs.Change.{created, next_tree, KeepsRows}
use Rattle.sql_rows.proofs.Creates.{creates}
use Rattle.sqlite.specs.declared.types.Value.TheVariants.{Null, Int}
use Rattle.sqlite.specs.Edit.{edit_of, edited}
use Rattle.sqlite.specs.Rowids.TheVariants.{Chosen}
use Rattle.sqlite_rules.specs.Edit.{next_rowid}
use Rattle.sqlite_trees.specs.Tree.{no_trees, put_row}
use Rattle.sqlite_trees.specs.View.{IsShaped}
use Rattle.sqlite_trees.specs.declared.store.Shape.TheVariants.{Table as Rows}
use Rattle.sqlite_value.specs.Order.{Row, column}
use Rattle.sql_rows.proofs.Inserts.{inserts, cast_null, cast_int}
use Rattle.hub_tables.specs.Tables.{empty as no_rows}
use Rattle.hub_schema.specs.Schema.{schema_table, hub_schema, hub_tables, no_schema}
use Rattle.hub_schema.specs.State.{IsUndone, StatementLeaves, Makes, ShowsTheSame}
use Rattle.hub_schema.proofs.Leaving.{undone_later}
use Rattle.hub_schema.proofs.Texts.{put_number, put_number_is, put_number_plain}
use Rattle.hub_schema.specs.Definitions.{Make}
use Rattle.hub_schema.specs.Making.{HasMade, HaveNoRows, Defines, MakesOn, MakesFirstTables, LeavesTables, schema_with}
use Rattle.hub_schema.specs.declared.definitions.Definition.{Definition}

still_same : (tables : List Table) (rows old new : Trees) → KeepsRows tables old new
    → AllByRecursion (λ t. old t.tree ≡ rows t.tree) tables → AllByRecursion (λ t. new t.tree ≡ rows t.tree) tables
still_same [] rows old new kept same = tt
still_same (t ∷ tables) rows old new kept same = (kept.0 ∙ same.0, still_same tables rows old new kept.1 same.1)

and_last : {X : Type 0} (P : X → Type 0) (xs : List X) (x : X) → AllByRecursion P xs → P x
    → AllByRecursion P (xs ++ x ∷ [])
and_last P [] x all h = (h, tt)
and_last P (y ∷ ys) x all h = (all.0, and_last P ys x all.1 h)

pub made_one : (text : List ℕ) (old new : State) (r : Result ℕ Error) (rows : Trees) (schema : Schema) (table : Table)
    → Defines text schema table → rows (next_tree schema) ≡ [] → HasMade rows schema old
    → ExecutesInside 0 text [] old new r → OnOk r (MakesOn rows (created schema table) old new)
made_one text old new (Err e) rows schema table defines bare has h = tt
made_one text old new (Ok count) rows schema table defines bare has h =
    let w = subst (λ t. Writes old new None CreateTable t [] count) defines.whole (runs_as text [] old new schema
    has.schema CreateTable defines.command defines.plain count h.0) in
    let did = creates schema text table defines.defined defines.calm old new count has.schema w in
    record {
      made = record {
        schema = did.1;
        same = and_last (λ t. new.now.trees t.tree ≡ rows t.tree) schema.tables _ (still_same schema.tables rows
            old.now.trees new.now.trees did.0.others has.same) (did.0.empty ∙ sym bare);
        mode = w.shown.mode ∙ has.mode;
      };
      committed = (subst (λ b. Shows old new new.now (if b then old.committed else new.now) b) has.mode
          w.shown).committed_is;
    }

-- Making tables one after another.

with_more : (made : Schema) (begun : List Table) (table : Table)
    → fold (λ schema t. created schema (record t { tree = 0 })) made (begun ++ table ∷ [])
    ≡ created (fold (λ schema t. created schema (record t { tree = 0 })) made begun) (record table { tree = 0 })
with_more made [] table = refl
with_more made (first ∷ begun) table = with_more (created made (record first { tree = 0 })) begun table

module _ (rows : Trees) (d : Definition) (definitions : List Definition) (old mid new : State)
    (one : (schema : Schema) (table : Table) → Defines d.text.now schema table → rows (next_tree schema) ≡ []
    → HasMade rows schema old → MakesOn rows (created schema table) old mid) where
  first_made : (begun tables : List Table) (table : Table) → Make begun (d ∷ definitions) (table ∷ tables)
      → HaveNoRows (table ∷ tables) rows → HasMade rows (schema_with begun) old
      → MakesOn rows (schema_with (begun ++ table ∷ [])) old mid
  first_made begun tables table make none has =
      subst (λ schema. MakesOn rows schema old mid) (sym (with_more no_schema begun table))
      (one (schema_with begun) (record table { tree = 0 }) make.0 (ap rows (sym make.1) ∙ none.0) has)

  joined : {X : Type 0} (r : Result X Error) (schema : Schema) → mid.committed ≡ old.committed
      → OnOk r (MakesOn rows schema mid new) → OnOk r (MakesOn rows schema old new)
  joined (Ok x) schema first more = record { made = more.made; committed = more.committed ∙ first }
  joined (Err e) schema first more = tt

  pub made_more : {X : Type 0} (r : Result X Error)
      → ((begun tables : List Table) → Make begun definitions tables → HaveNoRows tables rows
      → HasMade rows (schema_with begun) mid → OnOk r (MakesOn rows (schema_with (begun ++ tables)) mid new))
      → (begun tables : List Table) → Make begun (d ∷ definitions) tables → HaveNoRows tables rows
      → HasMade rows (schema_with begun) old → OnOk r (MakesOn rows (schema_with (begun ++ tables)) old new)
  made_more r rest begun [] make none has = absurd make
  made_more r rest begun (table ∷ tables) make none has =
      let first = first_made begun tables table make none has in
      subst (λ all. OnOk r (MakesOn rows (schema_with all) old new)) (append_assoc begun (table ∷ []) tables)
      (joined r (schema_with ((begun ++ table ∷ []) ++ tables)) first.committed
      (rest (begun ++ table ∷ []) tables make.2 none.1 first.made))

  later_fault : {X : Type 0} (r : Result X Error) → mid.committed ≡ old.committed → KeepsCommit old mid
      → OnErr r (MakesFirstTables rows mid new ⊎ IsUndone mid new)
      → OnErr r (MakesFirstTables rows old new ⊎ IsUndone old new)
  later_fault (Ok x) first kept left = tt
  later_fault (Err e) first kept (inl some) = inl (record {
    first = some.first;
    rest = some.rest;
    are = some.are;
    made = record { made = some.made.made; committed = some.made.committed ∙ first };
  })
  later_fault (Err e) first kept (inr back) = inr (undone_later old mid new kept back)

  pub stops_on : {X : Type 0} (r : Result X Error) → KeepsCommit old mid
      → ((begun tables rest : List Table) → Make begun definitions tables → HaveNoRows tables rows
      → hub_tables ≡ begun ++ (tables ++ rest) → HasMade rows (schema_with begun) mid
      → OnErr r (MakesFirstTables rows mid new ⊎ IsUndone mid new))
      → (begun tables rest : List Table) → Make begun (d ∷ definitions) tables → HaveNoRows tables rows
      → hub_tables ≡ begun ++ (tables ++ rest) → HasMade rows (schema_with begun) old
      → OnErr r (MakesFirstTables rows old new ⊎ IsUndone old new)
  stops_on r kept left begun [] rest make none are has = absurd make
  stops_on r kept left begun (table ∷ tables) rest make none are has =
      let first = first_made begun tables table make none has in
      later_fault r first.committed kept
      (left (begun ++ table ∷ []) tables rest make.2 none.1 (are ∙ sym (append_assoc begun (table ∷ []) (tables ++ rest)))
      first.made)

others : {X : Type 0} (x : X) (xs : List X) → take (length (x ∷ xs) - 1) (drop 1 (x ∷ xs)) ≡ xs
others x xs = let less : length (x ∷ xs) - 1 ≡ length xs = omega arith in ap (λ n. take n xs) less ∙ take-length xs

-- the first of the definitions, then the rest
module _ (rows : Trees) (none : Definition) (old mid new : State) where
  pub all_made : {X : Type 0} (r : Result X Error) (definitions : List Definition) → 1 ≤ length definitions
      → ((schema : Schema) (table : Table) → Defines (get_or definitions 0 none).text.now schema table
      → rows (next_tree schema) ≡ [] → HasMade rows schema old → MakesOn rows (created schema table) old mid)
      → ((begun tables : List Table) → Make begun (take (length definitions - 1) (drop 1 definitions)) tables
      → HaveNoRows tables rows
      → HasMade rows (schema_with begun) mid → OnOk r (MakesOn rows (schema_with (begun ++ tables)) mid new))
      → (begun tables : List Table) → Make begun definitions tables → HaveNoRows tables rows
      → HasMade rows (schema_with begun) old → OnOk r (MakesOn rows (schema_with (begun ++ tables)) old new)
  all_made r [] some one rest = absurd (omega (arith, some))
  all_made r (d ∷ definitions) some one rest =
      made_more rows d definitions old mid new one r
      (λ begun tables make bare has.
      rest begun tables (subst (λ ds. Make begun ds tables) (sym (others d definitions)) make) bare has)

  pub all_stop : {X : Type 0} (r : Result X Error) (definitions : List Definition) → 1 ≤ length definitions
      → KeepsCommit old mid
      → ((schema : Schema) (table : Table) → Defines (get_or definitions 0 none).text.now schema table
      → rows (next_tree schema) ≡ [] → HasMade rows schema old → MakesOn rows (created schema table) old mid)
      → ((begun tables rest : List Table) → Make begun (take (length definitions - 1) (drop 1 definitions)) tables
      → HaveNoRows tables rows → hub_tables ≡ begun ++ (tables ++ rest) → HasMade rows (schema_with begun) mid
      → OnErr r (MakesFirstTables rows mid new ⊎ IsUndone mid new))
      → (begun tables rest : List Table) → Make begun definitions tables → HaveNoRows tables rows
      → hub_tables ≡ begun ++ (tables ++ rest) → HasMade rows (schema_with begun) old
      → OnErr r (MakesFirstTables rows old new ⊎ IsUndone old new)
  all_stop r [] some kept one left = absurd (omega (arith, some))
  all_stop r (d ∷ definitions) some kept one left =
      stops_on rows d definitions old mid new one r kept
      (λ begun tables rest make bare are has.
      left begun tables rest (subst (λ ds. Make begun ds tables) (sym (others d definitions)) make) bare are has)

-- if there is nothing to make, nothing is made
pub made_none : (rows : Trees) (begun tables : List Table) (definitions : List Definition) (s : State)
    → length definitions < 1 → Make begun definitions tables → HasMade rows (schema_with begun) s
    → MakesOn rows (schema_with (begun ++ tables)) s s
made_none rows begun [] [] s low make has =
    record { made = subst (λ all. HasMade rows (schema_with all) s) (sym (append-nil begun)) has; committed = refl }
made_none rows begun (table ∷ tables) [] s low make has = absurd make
made_none rows begun tables (d ∷ definitions) s low make has = absurd (omega (arith, low))

pub none_left : (definitions : List Definition) → length definitions < 1 → definitions ≡ []
none_left [] low = refl
none_left (d ∷ definitions) low = absurd (omega (arith, low))

-- the first row of the table with the schema's number; all other tables are empty
pub number_put : (old new : State) (r : Result ℕ Error) → HasMade no_trees hub_schema old
    → ExecutesInside 0 put_number [] old new r → OnOk r (Makes (λ _. no_rows) old new)
number_put old new (Err e) has h = tt
number_put old new (Ok count) has h =
    let db = old.now.trees in
    let w : Writes old new _ _ _ [] count =
    runs_as put_number [] old new hub_schema has.schema _ put_number_is put_number_plain count h.0 in
    let did = inserts hub_schema 0 0 _ _ _ _ _ refl (λ _ _. refl) old new [] _ _ _ count has.schema w in
    let row : Row = Int (next_rowid (db 0)) ∷ Int (pos 3) ∷ [] in
    let edit : edited db (edit_of db schema_table [] Chosen 0 ((Null ∷ Int (pos 3) ∷ []) ∷ [])) ≡ put_row row (db 0) =
    rw (cast_null, cast_int (pos 3)) in
    let first : new.now.trees 0 ≡ row ∷ [] = did.step.rows ∙ edit ∙ ap (put_row row) has.same.0 in
    let rest = did.step.tables.1 in
    let orders : new.now.trees 1 ≡ [] = rest.0 (λ e. absurd (omega (arith, e))) ∙ has.same.1.0 in
    let lines : new.now.trees 3 ≡ [] = rest.1.0 (λ e. absurd (omega (arith, e))) ∙ has.same.1.1.0 in
    let advices : new.now.trees 5 ≡ [] = rest.1.1.0 (λ e. absurd (omega (arith, e))) ∙ has.same.1.1.1.0 in
    let pallets : new.now.trees 7 ≡ [] = rest.1.1.1.0 (λ e. absurd (omega (arith, e))) ∙ has.same.1.1.1.1.0 in
    let contents : new.now.trees 10 ≡ [] = rest.1.1.1.1.0 (λ e. absurd (omega (arith, e))) ∙ has.same.1.1.1.1.1.0 in
    let receipts : new.now.trees 12 ≡ [] =
    rest.1.1.1.1.1.0 (λ e. absurd (omega (arith, e))) ∙ has.same.1.1.1.1.1.1.0 in
    let remembered : new.now.trees 14 ≡ [] =
    rest.1.1.1.1.1.1.0 (λ e. absurd (omega (arith, e))) ∙ has.same.1.1.1.1.1.1.1.0 in
    let mail : new.now.trees 16 ≡ [] =
    rest.1.1.1.1.1.1.1.0 (λ e. absurd (omega (arith, e))) ∙ has.same.1.1.1.1.1.1.1.1.0 in
    let hubs : new.now.trees 18 ≡ [] =
    rest.1.1.1.1.1.1.1.1.0 (λ e. absurd (omega (arith, e))) ∙ has.same.1.1.1.1.1.1.1.1.1.0 in
    let keys : new.now.trees 20 ≡ [] =
    rest.1.1.1.1.1.1.1.1.1.0 (λ e. absurd (omega (arith, e))) ∙ has.same.1.1.1.1.1.1.1.1.1.1.0 in
    let prefixes : new.now.trees 22 ≡ [] =
    rest.1.1.1.1.1.1.1.1.1.1.0 (λ e. absurd (omega (arith, e))) ∙ has.same.1.1.1.1.1.1.1.1.1.1.1.0 in
    let bare = λ (rows : List Row) (none : rows ≡ []). subst (IsShaped Rows) (sym none) (tt, tt) in
    record {
      hub = record {
        schema = did.schema_is;
        numbered = ap (map (λ r. column r 1)) first;
        ordered = (
          subst (IsShaped Rows) (sym first) ((tt, tt), (refl, tt)),
          (
            bare _ orders,
            (
              bare _ lines,
              (
                bare _ advices,
                (
                  bare _ pallets,
                  (
                    bare _ contents,
                    (bare _ receipts, (bare _ remembered, (bare _ mail, (bare _ hubs, (bare _ keys, (bare _ prefixes, tt)))))),
                  ),
                ),
              ),
            ),
          ),
        );
        sound = w.sound;
      };
      tables = rw (hubs, keys, prefixes, orders, lines, advices, pallets, contents, receipts, remembered, mail);
      committed = (subst (λ b. Shows old new new.now (if b then old.committed else new.now) b) has.mode
          w.shown).committed_is;
      mode = w.shown.mode ∙ has.mode;
    }

-- if tables are to be made, there are definitions
pub some_made : (begun : List Table) (definitions : List Definition) (tables : List Table) → (length tables == 0) ≡ false
    → Make begun definitions tables → definitions ≡ [] → ⊥
some_made begun [] [] some make none = absurd (grind (arith, nat_tests, some))
some_made begun [] (table ∷ tables) some make none = make
some_made begun (d ∷ definitions) tables some make none = absurd cc

-- What is left if the making stops.

still_made : (rows : Trees) (schema : Schema) (old new : State) → ShowsTheSame old new → HasMade rows schema old
    → HasMade rows schema new
still_made rows schema old new same has = record {
  schema = ap (λ d. d.schema) same.rows ∙ has.schema;
  same = subst (λ d. AllByRecursion (λ table. d.trees table.tree ≡ rows table.tree) schema.tables) (sym same.rows)
      has.same;
  mode = same.mode ∙ has.mode;
}

-- a statement failed after these tables were made
pub stops_at : {X Y : Type 0} (rows : Trees) (first rest : List Table) → hub_tables ≡ first ++ rest → (old new : State)
    (e : Error) → StatementLeaves {X = X} old new (Err e) → LeavesTables {X = Y} rows first old new (Err e)
stops_at rows first rest are old new e left = record {
  fault = λ clean has. elim (left.fault clean has.mode) [
    | inl same ↦ inl (record {
      first = first;
      rest = rest;
      are = are;
      made = record { made = still_made rows (schema_with first) old new same has; committed = same.committed };
    })
    | inr back ↦ inr back
  ];
  ended = left.ended;
}

-- a later part of the making failed, after one that was done
pub stops_later : {X Y : Type 0} (rows : Trees) (begun made : List Table) (old mid new : State) (e : Error)
    → (HasCleanDisk mid → HasMade rows (schema_with begun) old → MakesOn rows (schema_with made) old mid)
    → (old.in_transaction ≡ false → ⊥) → (HasCleanDisk mid → KeepsCommit old mid)
    → (HasCleanDisk new → HasCleanDisk mid) → LeavesTables {X = X} rows made mid new (Err e)
    → LeavesTables {X = Y} rows begun old new (Err e)
stops_later rows begun made old mid new e makes ran kept early left = record {
  fault = λ clean has.
      let did = makes (early clean) has in
      elim (left.fault clean did.made) [
        | inl some ↦ inl (record {
          first = some.first;
          rest = some.rest;
          are = some.are;
          made = record { made = some.made.made; committed = some.made.committed ∙ did.committed };
        })
        | inr back ↦ inr (undone_later old mid new (kept (early clean)) back)
      ];
  ended = λ none. absurd (ran none);
}

-- a part that was done ran in an open transaction
pub ran_before : {X : Type 0} (x : X) (old new : State) → StatementLeaves {E = Error} old new (Ok x) → old.in_transaction ≡ false
    → ⊥
ran_before x old new left none = (left.ended none).0

pub part_ran : {X : Type 0} (rows : Trees) (begun : List Table) (x : X) (old new : State)
    → LeavesTables rows begun old new (Ok x) → old.in_transaction ≡ false → ⊥
part_ran rows begun x old new left none = (left.ended none).0

-- all of it is done
pub stops_nowhere : {X : Type 0} (rows : Trees) (begun : List Table) (old new : State) (x : X)
    → (old.in_transaction ≡ false → ⊥) → LeavesTables rows begun old new (Ok x)
stops_nowhere rows begun old new x ran = record { fault = λ clean has. tt; ended = λ none. absurd (ran none) }

-- what is left if the first part stopped
pub stops_first : {X : Type 0} (rows : Trees) (begun : List Table) (old new : State) (e : Error)
    → (HasCleanDisk new → HasMade rows (schema_with begun) old → MakesFirstTables rows old new ⊎ IsUndone old new)
    → (old.in_transaction ≡ false → ShowsTheSame old new) → LeavesTables {X = X} rows begun old new (Err e)
stops_first rows begun old new e fault ended = record { fault = fault; ended = λ none. (tt, ended none) }

-- the row with the schema's number, after all tables
pub number_leaves : (rows : Trees) (old new : State) (r : Result ℕ Error) → StatementLeaves old new r
    → LeavesTables rows hub_tables old new r
number_leaves rows old new (Ok count) left = record {
  fault = λ clean has. tt;
  ended = λ none. let it = left.ended none in (it.0, it.1);
}
number_leaves rows old new (Err e) left = stops_at rows hub_tables [] refl old new e left
