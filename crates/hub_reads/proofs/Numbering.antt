-- Proves what the number of the schema is, from the answer.
use Rattle.std.proofs.Common.{Vec, ◌≡◌, ◌↔◌, ℕ, pos, Bool, IsTrue, List, [], ◌∷◌, map, filter, codes}
use Rattle.std.proofs.Common.{◌⊎◌, inl, inr, Result, Ok, Err, refl, sym, ap, subst, ◌∙◌}
use Rattle.std.specs.List.Sorted.{IsPermutation}
use Rattle.std.specs.declared.alloc.Global.{Global}
use Rattle.std.proofs.lemmas.List.Sorted.{IsPermutation-map, IsPermutation-sym}
use Rattle.sqlite_value.specs.declared.value.Value.TheVariants.{Null, Int}
use Rattle.sqlite_value.specs.Order.{Row, column}
use Rattle.sqlite_trees.specs.Tree.{Trees}
use Rattle.sqlite_sql.specs.Term.{col}
use Rattle.sqlite_tied.specs.Compute.{everything}
use Rattle.sqlite.specs.Listing.{understood}
use Rattle.sqlite.specs.State.{State, Shown}
use Rattle.sqlite.proofs.Callers.{reads_as, one_permutation}
use Rattle.sqlite_schema.specs.declared.schema.Schema.{Schema}
use Rattle.hub_schema.specs.Schema.{old_schema, hub_schema}
use Rattle.hub_store.specs.declared.fault.StoreFault.{StoreFault}
use Rattle.hub_store.specs.declared.fault.StoreFault.TheVariants.{Memory, Disk}
use Rattle.hub_schema.specs.State.{HasNumber}
use Rattle.hub_rows.specs.Asks.{OnlyReads, Asks}
use Rattle.hub_reads.specs.Numbered.{TellsNumber}
use Rattle.hub_rows.proofs.Asking.{reads_no_commit}
use Rattle.hub_rows.proofs.Causes.{IsBare, disk_has_cause, one_table}
use Rattle.hub_rows.proofs.Finding.{all_of, no_limit, passes, FindsRows, finds}
use Rattle.hub_rows.proofs.Looking.{SelectsFrom}
use Rattle.hub_rows.proofs.Selecting.{only_reads}

abbrev pub number_text : List ℕ
number_text = codes "SELECT number FROM schema"

abbrev SelectsNumber : Schema → Type 0
SelectsNumber schema = SelectsFrom schema number_text (all_of 0 [] (col 1 1 ∷ []) []) (codes "number" ∷ [])

number_selects : SelectsNumber hub_schema
unfolding understood everything
number_selects = record { first = refl; plain = (refl, refl); unlisted = refl; is = refl }

old_number_selects : SelectsNumber old_schema
unfolding understood everything
old_number_selects = record { first = refl; plain = (refl, refl); unlisted = refl; is = refl }

number_bare : IsBare hub_schema number_text (all_of 0 [] (col 1 1 ∷ []) [])
unfolding understood everything
number_bare = record { unnamed = refl; whole = refl; typed = refl; steady = one_table 0 [] (col 1 1 ∷ []) [] }

old_number_bare : IsBare old_schema number_text (all_of 0 [] (col 1 1 ∷ []) [])
unfolding understood everything
old_number_bare = record { unnamed = refl; whole = refl; typed = refl; steady = one_table 0 [] (col 1 1 ∷ []) [] }

-- without tests, every row passes
pub all_pass : (rows : List Row) → filter (passes [] []) rows ≡ rows
all_pass [] = refl
all_pass (row ∷ rows) = ap (λ more. row ∷ more) (all_pass rows)

module _ (n : ℕ) where
  one_source : (sources : List Row) → (Int (pos n) ∷ []) ∷ [] ≡ map (λ row. column row 1 ∷ []) sources
      → map (λ row. column row 1) sources ≡ Int (pos n) ∷ []
  one_source [] e = cc
  one_source (row ∷ []) e = let here : column row 1 ≡ Int (pos n) = cc in ap (λ v. v ∷ []) here
  one_source (row ∷ other ∷ more) e = cc

  shown_source : (sources : List Row) → map (λ row. column row 1) sources ≡ Int (pos n) ∷ []
      → map (λ row. column row 1 ∷ []) sources ≡ (Int (pos n) ∷ []) ∷ []
  shown_source [] e = cc
  shown_source (row ∷ []) e = let here : column row 1 ≡ Int (pos n) = cc in ap (λ v. (v ∷ []) ∷ []) here
  shown_source (row ∷ other ∷ more) e = cc

  module _ (schema : Schema) (it : SelectsNumber schema) (old new : State) (rows : List Row) (has : old.now.schema ≡ schema)
      (h : Shown number_text [] old new rows) where
    abbrev db : Trees
    db = old.now.trees

    found : FindsRows (db 0) [] (col 1 1 ∷ []) [] no_limit [] rows
    found =
        let answer = (reads_as number_text [] old new schema has _ it.is it.plain it.unlisted rows h).answer Null in
        finds db 0 [] (col 1 1 ∷ []) [] no_limit [] rows refl answer

    same : IsPermutation (db 0) found.sources
    same = subst (λ xs. IsPermutation xs found.sources) (all_pass (db 0)) found.same

    number_read : rows ≡ (Int (pos n) ∷ []) ∷ [] → HasNumber n db
    number_read is =
        let first = one_source found.sources (sym is ∙ found.is) in
        let turned = IsPermutation-sym (map (λ row. column row 1) (db 0)) (map (λ row. column row 1) found.sources)
        (IsPermutation-map (λ row. column row 1) (db 0) found.sources same) in
        one_permutation (Int (pos n)) (map (λ row. column row 1) (db 0))
        (subst (λ xs. IsPermutation xs (map (λ row. column row 1) (db 0))) first turned)

    number_shown : HasNumber n db → rows ≡ (Int (pos n) ∷ []) ∷ []
    number_shown is =
        let moved = IsPermutation-map (λ row. column row 1) (db 0) found.sources same in
        let one = one_permutation (Int (pos n)) (map (λ row. column row 1) found.sources)
        (subst (λ xs. IsPermutation xs (map (λ row. column row 1) found.sources)) is moved) in
        found.is ∙ shown_source found.sources one

    number_is : (rows ≡ (Int (pos n) ∷ []) ∷ []) ↔ HasNumber n db
    number_is = (number_read, number_shown)

number_reads : OnlyReads number_text
number_reads = only_reads number_text number_selects.first

-- under either schema
either : (n : ℕ) (old new : State) (rows : List Row) → (old.now.schema ≡ hub_schema) ⊎ (old.now.schema ≡ old_schema)
    → Shown number_text [] old new rows
    → (rows ≡ (Int (pos n) ∷ []) ∷ []) ↔ HasNumber n old.now.trees
either n old new rows (inl has) h = number_is n hub_schema number_selects old new rows has h
either n old new rows (inr has) h = number_is n old_schema old_number_selects old new rows has h

pub tells : (n : ℕ) (old new : State) (rows : Vec Row Global) (is : Bool)
    → Asks {X = Vec Row Global} (λ rows answer. answer.items ≡ rows) (λ _. ⊥) number_text [] old new (Ok rows)
    → (IsTrue is ↔ (rows.items ≡ (Int (pos n) ∷ []) ∷ [])) → TellsNumber n old new (Ok is)
tells n old new rows is asks one = record {
  number = λ clean has. let h = asks.reads clean in
      let it = either n old new h.0 has h.1 in
      (λ yes. it.0 (sym h.2 ∙ one.0 yes), λ numbered. one.1 (h.2 ∙ it.1 numbered));
  same = λ clean. let it = asks.same clean number_reads in
      (it.0, it.1, it.2, asks.kept clean number_reads);
  fault = tt;
  disk = λ has clean told. absurd cc;
  leaves = λ clean. let left = asks.leaves clean number_reads in record { done = left.done; fault = left.fault };
  mode = asks.mode;
  crash = reads_no_commit number_text [] old new number_reads asks.survives;
}

pub tells_none : (n : ℕ) (old new : State) (fault : StoreFault) → (fault ≡ Memory) ⊎ (fault ≡ Disk)
    → Asks {X = Vec Row Global} (λ rows answer. answer.items ≡ rows) (λ _. ⊥) number_text [] old new (Err fault)
    → TellsNumber n old new (Err fault)
tells_none n old new fault which asks = record {
  number = λ clean has. tt;
  same = λ clean. tt;
  fault = which;
  disk = λ has clean told. elim has [
    | inl hub ↦ disk_has_cause number_selects number_bare _ _ old new _ asks clean (λ up. hub) (same_fault told)
    | inr before ↦ disk_has_cause old_number_selects old_number_bare _ _ old new _ asks clean (λ up. before) (same_fault told)
  ];
  leaves = λ clean. let left = asks.leaves clean number_reads in record { done = left.done; fault = left.fault };
  mode = asks.mode;
  crash = reads_no_commit number_text [] old new number_reads asks.survives;
}
  where
    same_fault : ◌≡◌ {A = Result Bool StoreFault} (Err fault) (Err Disk)
        → ◌≡◌ {A = Result (Vec Row Global) StoreFault} (Err fault) (Err Disk)
    same_fault e = cc
