-- Defines the orders that are kept in memory from one message to the next.
use Rattle.std.specs.Prelude.{◌≡◌, ℕ, Bool, true, false, List, [], ◌∷◌, is_some, Some}
use Rattle.std.specs.List.{AllByRecursion, list_any}
use Rattle.hub_parties.specs.KeyOrder.{replace}
use Rattle.hub_tables.specs.Rows.{same, same_line}
use Rattle.hub_tables.specs.declared.change.Change.{Change}
use Rattle.hub_tables.specs.declared.change.Change.TheVariants.{AddOrder, AddLine, SetLine}
use Rattle.hub_tables.specs.declared.rows.LineRow.{LineRow}
use Rattle.hub_order_lines.specs.Book.{Orders, facts_of, has_order, lines_in, order_in, rows}
use Rattle.hub_order_lines.specs.KnownLines.{AddsUp}
use Rattle.hub_order_lines.specs.declared.facts.LineFacts.{LineFacts}

-- whether the order is kept
abbrev pub is_kept : Orders → List ℕ → Bool
is_kept orders order = is_some (order_in orders order)

-- the order is known once, and its lines belong to it
pub record IsKnownOnce (orders : Orders) (known : List ℕ × (Bool × List LineFacts)) : Type 0 where
  pub once : lines_in orders known.0 ≡ known.1.1
  pub own : AllByRecursion (λ line. line.row.number ≡ known.0) known.1.1

abbrev pub AreKnownOnce : Orders → Type 0
AreKnownOnce orders = AllByRecursion (IsKnownOnce orders) orders

-- one more order is known, from its rows; all others stay as they were
pub record AddsOrder (number : List ℕ) (is_there : Bool) (given : List LineRow) (old new : Orders) : Type 0 where
  pub facts : List LineFacts
  pub rows_are : rows facts ≡ given
  pub adds_up : AllByRecursion AddsUp facts
  pub known : order_in new number ≡ Some (is_there, facts_of facts number)
  pub others : (order : List ℕ) → same order number ≡ false → order_in new order ≡ order_in old order

-- an order is no longer known; all others stay as they were
pub record ForgetsOrder (number : List ℕ) (old new : Orders) : Type 0 where
  pub gone : is_kept new number ≡ false
  pub others : (order : List ℕ) → same order number ≡ false → order_in new order ≡ order_in old order

-- the rows of lines after changes that only set existing lines
abbrev pub rows_after : List Change → List LineRow → List LineRow
rows_after [] given = given
rows_after (SetLine row ∷ changes) given = rows_after changes (replace (same_line row) row given)
rows_after (change ∷ changes) given = rows_after changes given

-- whether the change adds an order or a line
abbrev pub adds_lines : Change → Bool
adds_lines (AddOrder row) = true
adds_lines (AddLine row) = true
adds_lines change = false

-- Each order that is still kept was kept before, and its rows are the earlier ones after the changes, which add no
-- order and no line. Lines that added up still do.
pub record Follows (changes : List Change) (old new : Orders) : Type 0 where
  pub was : (order : List ℕ) → is_kept new order ≡ true → is_kept old order ≡ true
  pub none_added : (order : List ℕ) → is_kept new order ≡ true → list_any adds_lines changes ≡ false
  pub there : (order : List ℕ) → is_kept new order ≡ true → has_order new order ≡ has_order old order
  pub lines : (order : List ℕ) → is_kept new order ≡ true
      → rows (lines_in new order) ≡ rows_after changes (rows (lines_in old order))
  pub add_up : (order : List ℕ) → is_kept new order ≡ true
      → AllByRecursion AddsUp (lines_in old order) → AllByRecursion AddsUp (lines_in new order)
