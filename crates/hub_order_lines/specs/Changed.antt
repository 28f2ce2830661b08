-- Defines which lines were set while a message is checked.
use Rattle.std.specs.Prelude.{◌≡◌, ℕ, List, Option}
use Rattle.std.specs.Borrow.{Bor}
use Rattle.std.specs.BTreeMap.{BTreeMap, get_by}
use Rattle.std.specs.List.{AllByRecursion}
use Rattle.std.specs.Option.{unwrap_or, IfSome}
use Rattle.std.specs.Ordering.{nat_cmp, ordering_then}
use Rattle.hub_parties.specs.KeyOrder.{bytes_cmp}
use Rattle.hub_order_lines.specs.Book.{Orders, IsCovered, answered_row}
use Rattle.hub_order_lines.specs.declared.facts.LineFacts.{LineFacts}

-- set lines by order number and line number
abbrev pub SetLines : Type 0
SetLines = BTreeMap (Bor (List ℕ) × ℕ) LineFacts

-- what the line was set to, if it was
abbrev pub set_at : SetLines → List ℕ → ℕ → Option LineFacts
set_at changed number line = get_by (λ at. ordering_then (bytes_cmp number at.0.now) (nat_cmp line at.1)) changed

-- the current form of a line
abbrev pub now_of : SetLines → LineFacts → LineFacts
now_of changed line = unwrap_or (set_at changed line.row.number line.row.line) line

-- only the quantities and the answer of a line are set, and the result is covered
pub record IsSetOf (line set : LineFacts) : Type 0 where
  pub row : answered_row line.row set.row.open_qty set.row.refused set.row.cancelled set.row.answer ≡ set.row
  pub despatched : set.despatched ≡ line.despatched
  pub covered : IsCovered set

abbrev pub KeepKeys : SetLines → Orders → Type 0
KeepKeys changed orders = AllByRecursion (λ known.
    AllByRecursion (λ line. IfSome (set_at changed line.row.number line.row.line) (IsSetOf line)) known.1.1) orders
