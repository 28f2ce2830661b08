-- Proves whether a document is known.
use Rattle.std.proofs.Common.{◌≡◌, ℕ, ◌==◌, Bool, not, ◌&&◌, Result, List, [], ◌∷◌, map, length, refl, sym, ap₂, ◌∙◌}
use Rattle.sqlite_value.specs.declared.value.Value.TheVariants.{Blob}
use Rattle.sqlite_value.specs.Order.{Row, column}
use Rattle.sqlite_schema.specs.declared.schema.Kind.TheVariants as kind
use Rattle.sqlite_sql.specs.Query.{IsAnswer}
use Rattle.sqlite_sql.specs.Program.{overlay}
use Rattle.sqlite.specs.State.{State}
use Rattle.sql_rows.specs.Cells.{AreOf}
use Rattle.sql_rows.proofs.Answers.{and_true}
use Rattle.hub_store.specs.declared.fault.StoreFault.{StoreFault}
use Rattle.hub_tables.specs.Rows.{same, order_cmp, advice_cmp}
use Rattle.hub_tables.specs.State.{knows_order, knows_advice}
use Rattle.hub_tables.specs.Tables.{view}
use Rattle.hub_tables.specs.declared.rows.OrderRow.{OrderRow}
use Rattle.hub_tables.specs.declared.rows.AdviceRow.{AdviceRow}
use Rattle.hub_schema.specs.Cells.{bytes_in}
use Rattle.hub_schema.specs.Rows.{order_in, advice_in, tables_in}
use Rattle.hub_schema.specs.State.{IsHub, LooksUp}
use Rattle.hub_schema.proofs.InKeyOrder.{listed_any}
use Rattle.hub_rows.specs.Asks.{Asks}
use Rattle.hub_rows.proofs.Counting.{cell_bytes, any_filter, any_shown, some_found, all_such}
use Rattle.hub_rows.proofs.Finding.{no_limit, passes, finds}
use Rattle.hub_rows.proofs.Looking.{looks}
use Rattle.hub_schema.proofs.Single.{order_cells, advice_cells}
use Rattle.hub_reads.proofs.Texts.{given_at, document, order_text, order_selects, advice_text, advice_selects}

-- the row is the supplier's and has the number
passed : (supplier number : List ℕ) (row : Row) → AreOf (kind.Blob ∷ kind.Blob ∷ []) 0 row
    → passes (given_at 1 0 ∷ given_at 2 1 ∷ []) (Blob supplier ∷ Blob number ∷ []) row
    ≡ (same (bytes_in (column row 1)) supplier && same (bytes_in (column row 2)) number)
passed supplier number row it =
    ap₂ (λ v w. v && w) (cell_bytes (column row 1) supplier it.0) (and_true _ ∙ cell_bytes (column row 2) number it.1.0)

orders_right : (s : State) (supplier number : List ℕ) (rows : List Row) → IsHub s
    → IsAnswer (document 1) (overlay s.now.trees []) (Blob supplier ∷ Blob number ∷ []) rows
    → not (length rows == 0) ≡ knows_order (view supplier (tables_in s.now.trees)) number
orders_right s supplier number rows hub answer =
    let db = s.now.trees in
    let both : OrderRow → Bool = λ order. same order.supplier supplier && same order.number number in
    some_found (db 1) _ _ _ _ rows (finds db 1 _ _ _ no_limit _ rows refl answer)
    ∙ any_shown order_in both (passes (given_at 1 0 ∷ given_at 2 1 ∷ []) (Blob supplier ∷ Blob number ∷ [])) (db 1)
    (all_such _ _ (passed supplier number) (db 1) (order_cells s.now hub.schema hub.sound hub.ordered))
    ∙ sym (listed_any order_cmp both (map order_in (db 1)))
    ∙ sym (any_filter (λ order. same order.supplier supplier) (λ order. same order.number number) (tables_in db).orders)

pub order_looks : (old new : State) (supplier number : List ℕ) (result : Result Bool StoreFault)
    → Asks (λ rows answer. answer ≡ not (length rows == 0)) (λ _. ⊥) order_text (Blob supplier ∷ Blob number ∷ []) old new result
    → LooksUp (λ t. knows_order (view supplier t) number) old new result
order_looks old new supplier number =
    looks order_selects _ _ _ _ old new (λ hub rows answer x is. is ∙ orders_right old supplier number rows hub answer)
    (λ hub rows answer no. absurd no)

advices_right : (s : State) (supplier number : List ℕ) (rows : List Row) → IsHub s
    → IsAnswer (document 5) (overlay s.now.trees []) (Blob supplier ∷ Blob number ∷ []) rows
    → not (length rows == 0) ≡ knows_advice (view supplier (tables_in s.now.trees)) number
advices_right s supplier number rows hub answer =
    let db = s.now.trees in
    let both : AdviceRow → Bool = λ advice. same advice.supplier supplier && same advice.number number in
    some_found (db 5) _ _ _ _ rows (finds db 5 _ _ _ no_limit _ rows refl answer)
    ∙ any_shown advice_in both (passes (given_at 1 0 ∷ given_at 2 1 ∷ []) (Blob supplier ∷ Blob number ∷ [])) (db 5)
    (all_such _ _ (passed supplier number) (db 5) (advice_cells s.now hub.schema hub.sound hub.ordered))
    ∙ sym (listed_any advice_cmp both (map advice_in (db 5)))
    ∙ sym (any_filter (λ advice. same advice.supplier supplier) (λ advice. same advice.number number) (tables_in db).advices)

pub advice_looks : (old new : State) (supplier number : List ℕ) (result : Result Bool StoreFault)
    → Asks (λ rows answer. answer ≡ not (length rows == 0)) (λ _. ⊥) advice_text (Blob supplier ∷ Blob number ∷ []) old new result
    → LooksUp (λ t. knows_advice (view supplier t) number) old new result
advice_looks old new supplier number =
    looks advice_selects _ _ _ _ old new (λ hub rows answer x is. is ∙ advices_right old supplier number rows hub answer)
    (λ hub rows answer no. absurd no)
