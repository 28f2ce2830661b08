-- Defines the keys by which order lines are looked up.
use Rattle.std.specs.Prelude.{ℕ, Bool, List, map}
use Rattle.std.specs.List.{prefix_len}
use Rattle.std.specs.Ordering.{nat_cmp, ordering_then, is_lt}
use Rattle.hub_parties.specs.KeyOrder.{bytes_cmp}
use Rattle.hub_order_lines.specs.declared.facts.LineFacts.{LineFacts}

-- the keys of a line: the order number, the line number, and the article
pub record LineKey : Type 0 where
  pub number : List ℕ
  pub line : ℕ
  pub gtin : List ℕ

abbrev pub key_of : LineFacts → LineKey
key_of line = record { number = line.row.number; line = line.row.line; gtin = line.row.gtin }

abbrev pub keys_of : List LineFacts → List LineKey
keys_of lines = map key_of lines

-- whether the line comes before this line number of this order
abbrev pub is_below : List ℕ → ℕ → LineKey → Bool
is_below number line key = is_lt (ordering_then (bytes_cmp key.number number) (nat_cmp key.line line))

-- how many lines come before this line number of this order, if the lines rise
abbrev pub place_from : List ℕ → ℕ → List LineKey → ℕ
place_from number line keys = prefix_len (is_below number line) keys
