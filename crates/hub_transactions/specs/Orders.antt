-- Defines what is known of a supplier's orders.
use Rattle.std.specs.Prelude.{◌≡◌, ℕ, ◌==◌, Bool, true, false, List, [], find, Option, Some, None}
use Rattle.std.specs.List.{AllByRecursion}
use Rattle.edi_base.specs.Seen.{is_among}
use Rattle.hub_parties.specs.declared.row.SupplierRow.{SupplierRow}
use Rattle.hub_tables.specs.State.{knows_order, lines_of}
use Rattle.hub_tables.specs.Tables.{Tables}
use Rattle.hub_order_lines.specs.Book.{Orders, order_in, has_order, lines_in, rows}
use Rattle.hub_order_lines.specs.KnownLines.{AddsUp}
use Rattle.hub_order_lines.specs.KnownOrders.{is_kept}
use Rattle.hub_rules.specs.Judging.{Judge}

-- whether each known order exists, and its lines, are as in the state
pub record KeepsOrders (orders : Orders) (state : Tables) : Type 0 where
  pub there : (order : List ℕ) → is_kept orders order ≡ true → knows_order state order ≡ has_order orders order
  pub lines : (order : List ℕ) → is_kept orders order ≡ true → lines_of state order ≡ rows (lines_in orders order)
  pub adds_up : (order : List ℕ) → is_kept orders order ≡ true → AllByRecursion AddsUp (lines_in orders order)

-- What is known is right for some rows over which the rules decide the same as over the state.
pub record TellsAlike (tells : Tables → Type 0) (judge : List ℕ → Option SupplierRow → Judge) (state : Tables) : Type 0 where
  pub seen : Tables
  pub alike : (retailer : List ℕ) (supplier : Option SupplierRow) → judge retailer supplier seen ≡ judge retailer supplier state
  pub told : tells seen

-- tables without the lines of orders
abbrev pub bare : Tables → Tables
bare t = record t { lines = [] }

-- Two tables are the same except for lines, and agree on each line that is asked for: by its order and number or,
-- without a number, on all lines of the order.
pub record AgreeOnLines (asks : List ℕ → Option ℕ → Bool) (a b : Tables) : Type 0 where
  pub rest : bare a ≡ bare b
  pub one : (order : List ℕ) (number : ℕ) → asks order (Some number) ≡ true
      → find (λ line. line.line == number) (lines_of a order) ≡ find (λ line. line.line == number) (lines_of b order)
  pub all : (order : List ℕ) → asks order None ≡ true → lines_of a order ≡ lines_of b order

-- The known orders are those of tables that agree with the state on what is asked for. These tables have all lines of
-- each order, except orders known by single lines, all of which are known.
pub record KeepsAsked (asks : List ℕ → Option ℕ → Bool) (orders : Orders) (apart : List (List ℕ)) (state : Tables) : Type 0 where
  pub seen : Tables
  pub agree : AgreeOnLines asks seen state
  pub keeps : KeepsOrders orders seen
  pub whole : (order : List ℕ) → is_among order apart ≡ false → lines_of seen order ≡ lines_of state order
  pub put : (order : List ℕ) → is_among order apart ≡ true → is_kept orders order ≡ true

-- these orders are forgotten, and what was known of all others stays
pub record ForgetsOrders (numbers : List (List ℕ)) (old new : Orders) : Type 0 where
  pub gone : (order : List ℕ) → is_among order numbers ≡ true → is_kept new order ≡ false
  pub others : (order : List ℕ) → is_among order numbers ≡ false → order_in new order ≡ order_in old order
