-- Whether a pallet was received, by a query.
use Rattle.std.proofs.Common.{◌≡◌, ℕ, ◌==◌, Bool, not, ◌&&◌, length, Result, List, [], ◌∷◌, refl, map, sym, ap₂, ◌∙◌, arith}
use Rattle.sqlite_value.specs.declared.value.Value.TheVariants.{Blob}
use Rattle.sqlite_value.specs.Order.{Row, column}
use Rattle.sqlite_sql.specs.Term.{col}
use Rattle.sqlite_sql.specs.Query.{IsAnswer}
use Rattle.sqlite_sql.specs.Program.{overlay}
use Rattle.sqlite.specs.State.{State}
use Rattle.sql_rows.proofs.Answers.{and_true}
use Rattle.hub_rows.specs.Asks.{Asks}
use Rattle.hub_reads.proofs.Comparing.{cell_differs}
use Rattle.hub_rows.proofs.Counting.{cell_bytes, all_such, any_shown, some_found}
use Rattle.hub_rows.proofs.Finding.{all_of, no_limit, passes, finds}
use Rattle.hub_rows.proofs.Looking.{looks_for}
use Rattle.hub_schema.specs.Rows.{pallet_in, tables_in}
use Rattle.hub_schema.specs.State.{IsHub, LooksFor}
use Rattle.hub_schema.proofs.InKeyOrder.{listed_any}
use Rattle.hub_schema.proofs.Single.{pallet_cells}
use Rattle.hub_sound.specs.HubRules.Sound.{was_received}
use Rattle.hub_store.specs.declared.fault.StoreFault.{StoreFault}
use Rattle.hub_tables.specs.Rows.{same, pallet_cmp}
use Rattle.hub_tables.specs.State.{is_announced}
use Rattle.hub_tables.specs.declared.rows.PalletRow.{PalletRow}
use Rattle.hub_audit.proofs.Texts.{received_tests, received_text, received_select}

received_right : (s : State) → IsHub s → (sscc : List ℕ) (rows : List Row)
    → IsAnswer (all_of 7 received_tests (col 1 2 ∷ []) []) (overlay s.now.trees []) (Blob sscc ∷ []) rows
    → not (length rows == 0) ≡ was_received (tables_in s.now.trees) sscc
received_right s hub sscc rows answer =
    let test : PalletRow → Bool = λ pallet. same pallet.sscc sscc && not (is_announced pallet) in
    let it = finds s.now.trees 7 received_tests (col 1 2 ∷ []) [] no_limit (Blob sscc ∷ []) rows refl answer in
    some_found (s.now.trees 7) received_tests (col 1 2 ∷ []) [] (Blob sscc ∷ []) rows it
    ∙ any_shown pallet_in test (passes received_tests (Blob sscc ∷ [])) (s.now.trees 7)
    (all_such _ _ (λ row it. ap₂ (λ v w. v && w) (cell_bytes (column row 1) sscc it.0)
    (and_true _ ∙ cell_differs (column row 4) 0 (omega arith) it.1.1.1.0))
    (s.now.trees 7) (pallet_cells s.now hub.schema hub.sound hub.ordered))
    ∙ sym (listed_any pallet_cmp test (map pallet_in (s.now.trees 7)))

pub received_looked : (old new : State) (sscc : List ℕ) (result : Result Bool StoreFault)
    → Asks (λ rows answer. answer ≡ not (length rows == 0)) (λ _. ⊥) received_text (Blob sscc ∷ []) old new result
    → LooksFor (λ t received. received ≡ was_received t sscc) (λ _. ⊥) old new result
received_looked old new sscc =
    looks_for received_select (λ t received. received ≡ was_received t sscc) (λ _. ⊥) _ _ (Blob sscc ∷ []) old new
    (λ hub rows answer x is. is ∙ received_right old hub sscc rows answer) (λ hub rows answer no. absurd no)
