-- Defines which order lines a supplier's message names, by their numbers or by their articles.
use Rattle.std.specs.Prelude.{◌≡◌, ℕ, Bool, true, false, nat_eq, List, Option, Some, None}
use Rattle.std.specs.List.{AllByRecursion}
use Rattle.std.specs.Borrow.{Bor}
use Rattle.std.specs.BTreeMap.{is_at}
use Rattle.std.specs.Map.{lookup}
use Rattle.edi_base.specs.Seen.{comes_among}
use Rattle.edi_orders.specs.declared.response.Answer.{Answer}
use Rattle.edi_orders.specs.declared.response.Answer.TheVariants.{AllAccepted, AllRefused, Lines}
use Rattle.edi_goods.specs.declared.despatch.DespatchLine.{DespatchLine}
use Rattle.hub_parties.specs.KeyOrder.{bytes_cmp}
use Rattle.hub_naming.specs.declared.lines.LinesNamed.{LinesNamed}

-- a line is named by one of these numbers, and not by its article
abbrev pub has_number : List ℕ → Option ℕ → Bool
has_number numbers None = false
has_number numbers (Some number) = comes_among nat_eq number numbers

-- each answered line is named by one of these numbers
abbrev pub NamesByNumber : List ℕ → Answer → Type 0
NamesByNumber numbers AllAccepted = ⊥
NamesByNumber numbers AllRefused = ⊥
NamesByNumber numbers (Lines said) = AllByRecursion (λ line. has_number numbers line.order_line ≡ true) said

-- whether a line is named: by its number or, without one, by its article
abbrev pub is_named : Option LinesNamed → Option ℕ → Bool
is_named None number = false
is_named (Some lines) None = lines.by_article
is_named (Some lines) (Some number) = comes_among nat_eq number lines.numbers.keys

-- the lines that are named of each order, by order number
abbrev pub LinesOfOrders : Type 0
LinesOfOrders = List (Bor (List ℕ) × LinesNamed)

abbrev pub lines_named_of : LinesOfOrders → List ℕ → Option LinesNamed
lines_named_of named order = lookup (is_at (λ key. bytes_cmp order key.now)) named

abbrev pub names_line : LinesOfOrders → List ℕ → Option ℕ → Bool
names_line named order number = is_named (lines_named_of named order) number

-- each of these lines is named
abbrev pub NamesLines : LinesOfOrders → List DespatchLine → Type 0
NamesLines named lines = AllByRecursion (λ line. names_line named line.order line.order_line ≡ true) lines

-- every line that was named before is still named
abbrev pub NamesMore : LinesOfOrders → LinesOfOrders → Type 0
NamesMore old new = (order : List ℕ) (number : Option ℕ) → names_line old order number ≡ true → names_line new order number ≡ true
