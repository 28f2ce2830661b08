-- What is on the pallets of a supplier, against the lines of its orders.
use Rattle.std.specs.Prelude.{ℕ, ◌+◌, ◌==◌, nat_lt, Bool, ◌&&◌, List, [], ◌∷◌, ◌++◌, if◌then◌else◌, Option, None, Some}
use Rattle.std.specs.Prelude.{option_map}
use Rattle.std.specs.Borrow.{Bor}
use Rattle.std.specs.BTreeMap.{BTreeMap, get_by}
use Rattle.std.specs.Option.{unwrap_or}
use Rattle.std.specs.Ordering.{nat_cmp, ordering_then}
use Rattle.edi_base.specs.Limits.{greatest}
use Rattle.hub_parties.specs.KeyOrder.{bytes_cmp}
use Rattle.hub_tables.specs.Rows.{same}
use Rattle.hub_tables.specs.State.{contents_of}
use Rattle.hub_tables.specs.Tables.{Tables, empty, view}
use Rattle.hub_tables.specs.declared.rows.LineRow.{LineRow}
use Rattle.hub_tables.specs.declared.rows.ContentRow.{ContentRow}
use Rattle.hub_tables.specs.declared.rows.PalletRow.{PalletRow}
use Rattle.hub_sound.specs.Finding.{RowKey, line_key, content_key}
use Rattle.hub_sound.specs.Showing.{FailsTest, IsSettled, ShowsUnsound, has_line, is_balanced}
use Rattle.hub_sound.specs.declared.finding.Finding.{Finding}
use Rattle.hub_sound.specs.declared.finding.RowKind.{RowKind}
use Rattle.hub_sound.specs.declared.finding.RowKind.TheVariants.{Line, Content}

-- tables with these lines and contents alone
abbrev pub goods_of : List LineRow → List ContentRow → Tables
goods_of lines contents = record empty { lines = lines; contents = contents }

-- the row of this kind and key shows that they are not settled
abbrev pub ShowsUnsettled : Tables → RowKind → RowKey → Type 0
ShowsUnsettled state Content key = FailsTest content_key (has_line state) state.contents key
ShowsUnsettled state Line key = FailsTest line_key (is_balanced state) state.lines key
ShowsUnsettled state _ key = ⊥

-- what is found of them: a row that shows it, or where there is none, that they are settled
abbrev pub TellsSettled : Tables → Option Finding → Type 0
TellsSettled state None = IsSettled state
TellsSettled state (Some found) = ShowsUnsettled state found.kind found.key

-- what is on some pallets, one pallet after another
abbrev pub gathered : Tables → List PalletRow → List ContentRow
gathered t [] = []
gathered t (pallet ∷ pallets) = contents_of t pallet.sscc ++ gathered t pallets

-- the lines of a supplier, with what is on its pallets
abbrev pub goods_in : List ℕ → Tables → Tables
goods_in gln t = goods_of (view gln t).lines (gathered t (view gln t).pallets)

-- what is found of them, as the tables have it
abbrev pub TellsOfSupplier : List ℕ → Tables → Option Finding → Type 0
TellsOfSupplier gln t None = IsSettled (view gln t)
TellsOfSupplier gln t (Some found) = ShowsUnsound t found.kind found.key

-- what is despatched of lines, by order number and line number
abbrev pub Sent : Type 0
Sent = BTreeMap (Bor (List ℕ) × ℕ) ℕ

abbrev pub sent_at : Sent → List ℕ → ℕ → Option ℕ
sent_at sent number line = get_by (λ at. ordering_then (bytes_cmp number at.0.now) (nat_cmp line at.1)) sent

-- a sum with one more, as far as it may still be what a line orders
abbrev pub with_more : ℕ → ℕ → ℕ
with_more sum quantity = if nat_lt greatest sum then sum else sum + quantity

-- nothing is despatched of the lines so far
abbrev pub none_from : Option ℕ → List ℕ → ℕ → List LineRow → Option ℕ
none_from before number n [] = before
none_from before number n (line ∷ lines) =
    none_from (if same line.number number && (line.line == n) then Some 0 else before) number n lines

-- what the contents say is despatched of a line that is known, after what is so before them
abbrev pub sent_from : Option ℕ → List ℕ → ℕ → List ContentRow → Option ℕ
sent_from before number n [] = before
sent_from before number n (content ∷ contents) =
    sent_from (if same content.number number && (content.line == n)
    then option_map (λ sum. with_more sum content.quantity) before
    else before) number n contents

abbrev pub is_sent_settled : Sent → LineRow → Bool
is_sent_settled sent line =
    line.ordered == line.open_qty + line.refused + line.cancelled + unwrap_or (sent_at sent line.number line.line) 0
