-- Proves that orders kept between messages are those of the tables after the changes.
use Rattle.std.proofs.Common.{◌≡◌, ℕ, false, ◌||◌, List, [], ◌∷◌, filter, true, refl, sym, ap, subst, ◌∙◌}
use Rattle.std.specs.List.{list_any}
use Rattle.hub_tables.specs.Change.{apply, apply_all}
use Rattle.hub_tables.specs.Rows.{same}
use Rattle.hub_tables.specs.State.{knows_order, lines_of}
use Rattle.hub_tables.specs.Tables.{Tables, view}
use Rattle.hub_tables.specs.declared.change.Change.{Change}
use Rattle.hub_tables.specs.declared.change.Change.TheVariants.{AddHub, SetHub, AddKey, SetKey, AddPrefix}
use Rattle.hub_tables.specs.declared.change.Change.TheVariants.{AddOrder, AddLine, SetLine, AddAdvice}
use Rattle.hub_tables.specs.declared.change.Change.TheVariants.{AddPallet, SetPallet, AddContent, AddReceipt, ClearReceipts}
use Rattle.hub_tables.specs.declared.change.Change.TheVariants.{Remember, AddMail, SetMail}
use Rattle.hub_order_lines.specs.Book.{Orders}
use Rattle.hub_order_lines.specs.KnownOrders.{rows_after, adds_lines, Follows}
use Rattle.hub_order_lines.proofs.Follow.{in_turn}
use Rattle.hub_order_lines.proofs.RowsOfOrder.{set_among_order, set_among_suppliers}
use Rattle.hub_transactions.specs.Orders.{KeepsOrders}

-- if no change adds lines, neither does the first one
pub first_none : (change : Change) (changes : List Change) → list_any adds_lines (change ∷ changes) ≡ false → adds_lines change ≡ false
first_none change changes none =
    elim (adds_lines change) as (λ v. (v || list_any adds_lines changes) ≡ false → v ≡ false) [ true ↦ λ no. no | false ↦ λ no. refl ] none

pub later_none : (change : Change) (changes : List Change)
    → list_any adds_lines (change ∷ changes) ≡ false
    → list_any adds_lines changes ≡ false
later_none change changes none =
    elim (adds_lines change) as (λ v. (v || list_any adds_lines changes) ≡ false → list_any adds_lines changes ≡ false)
    [ true ↦ λ no. absurd (cc (no)) | false ↦ λ no. no ] none

module _ (supplier order : List ℕ) where
  -- a change that adds no order and no line
  lines_one : (change : Change) (t : Tables) → adds_lines change ≡ false
      → lines_of (view supplier (apply change t)) order ≡ rows_after (change ∷ []) (lines_of (view supplier t) order)
  lines_one (SetLine row) t none =
      ap (filter (λ line. same line.number order)) (set_among_suppliers row supplier t.lines)
      ∙ set_among_order row order (view supplier t).lines
  lines_one (AddHub row) t none = refl
  lines_one (SetHub row) t none = refl
  lines_one (AddKey row) t none = refl
  lines_one (SetKey row) t none = refl
  lines_one (AddPrefix row) t none = refl
  lines_one (AddOrder row) t none = absurd (cc)
  lines_one (AddLine row) t none = absurd (cc)
  lines_one (AddAdvice row) t none = refl
  lines_one (AddPallet row) t none = refl
  lines_one (SetPallet row) t none = refl
  lines_one (AddContent row) t none = refl
  lines_one (AddReceipt row) t none = refl
  lines_one (ClearReceipts sscc) t none = refl
  lines_one (Remember row) t none = refl
  lines_one (AddMail row) t none = refl
  lines_one (SetMail row) t none = refl

  orders_one : (change : Change) (t : Tables) → adds_lines change ≡ false → (apply change t).orders ≡ t.orders
  orders_one (SetLine row) t none = refl
  orders_one (AddHub row) t none = refl
  orders_one (SetHub row) t none = refl
  orders_one (AddKey row) t none = refl
  orders_one (SetKey row) t none = refl
  orders_one (AddPrefix row) t none = refl
  orders_one (AddOrder row) t none = absurd (cc)
  orders_one (AddLine row) t none = absurd (cc)
  orders_one (AddAdvice row) t none = refl
  orders_one (AddPallet row) t none = refl
  orders_one (SetPallet row) t none = refl
  orders_one (AddContent row) t none = refl
  orders_one (AddReceipt row) t none = refl
  orders_one (ClearReceipts sscc) t none = refl
  orders_one (Remember row) t none = refl
  orders_one (AddMail row) t none = refl
  orders_one (SetMail row) t none = refl

  lines_after : (changes : List Change) (t : Tables) → list_any adds_lines changes ≡ false
      → lines_of (view supplier (apply_all changes t)) order ≡ rows_after changes (lines_of (view supplier t) order)
  lines_after [] t none = refl
  lines_after (change ∷ changes) t none =
      lines_after changes (apply change t) (later_none change changes none)
      ∙ ap (rows_after changes) (lines_one change t (first_none change changes none))
      ∙ sym (in_turn change changes (lines_of (view supplier t) order))

  orders_after : (changes : List Change) (t : Tables) → list_any adds_lines changes ≡ false → (apply_all changes t).orders ≡ t.orders
  orders_after [] t none = refl
  orders_after (change ∷ changes) t none =
      orders_after changes (apply change t) (later_none change changes none) ∙ orders_one change t (first_none change changes none)

  knows_after : (changes : List Change) (t : Tables) → list_any adds_lines changes ≡ false
      → knows_order (view supplier (apply_all changes t)) order ≡ knows_order (view supplier t) order
  knows_after changes t none =
      ap (λ orders. list_any (λ row. same row.number order) (filter (λ row. same row.supplier supplier) orders))
      (orders_after changes t none)

-- orders that are kept and updated are those of the new tables
pub kept_after : (supplier : List ℕ) (changes : List Change) (t : Tables) (old new : Orders)
    → Follows changes old new
    → KeepsOrders old (view supplier t)
    → KeepsOrders new (view supplier (apply_all changes t))
kept_after supplier changes t old new follows keeps = record {
  there = λ order kept. knows_after supplier order changes t (follows.none_added order kept)
      ∙ keeps.there order (follows.was order kept)
      ∙ sym (follows.there order kept);
  lines = λ order kept. lines_after supplier order changes t (follows.none_added order kept)
      ∙ ap (rows_after changes) (keeps.lines order (follows.was order kept))
      ∙ sym (follows.lines order kept);
  adds_up = λ order kept. follows.add_up order kept (keeps.adds_up order (follows.was order kept));
}

-- what is looked up besides the kept orders, in the same state
pub keeps_through : (old middle new : Orders) (state here : Tables)
    → here ≡ state
    → new ≡ middle
    → (KeepsOrders old here → KeepsOrders middle here)
    → KeepsOrders old state
    → KeepsOrders new state
keeps_through old middle new state here same is looked keeps =
    subst (λ (orders : Orders). KeepsOrders orders state) (sym is)
    (subst (KeepsOrders middle) same (looked (subst (KeepsOrders old) (sym same) keeps)))
