-- Defines the status report on a supplier's rows.
use Rattle.std.specs.Prelude.{ℕ, ◌+◌, ◌-◌, nat_le, List, [], ◌∷◌, ◌++◌, filter, map, sum_by, if◌then◌else◌, codes, Some}
use Rattle.std.specs.Prelude.{option_map}
use Rattle.std.specs.Fmt.{decimal}
use Rattle.std.specs.List.{flat_map, list_any}
use Rattle.std.specs.Option.{unwrap_or}
use Rattle.hub_parties.specs.KeyOrder.{bytes_cmp, put}
use Rattle.hub_tables.specs.Rows.{same}
use Rattle.hub_tables.specs.State.{line_of, despatched, contents_of, receipts_of, is_announced, is_replaced}
use Rattle.hub_tables.specs.Tables.{Tables}
use Rattle.hub_tables.specs.declared.rows.ContentRow.{ContentRow}
use Rattle.hub_tables.specs.declared.rows.LineRow.{LineRow}
use Rattle.hub_tables.specs.declared.rows.PalletRow.{PalletRow}
use Rattle.hub_tables.specs.declared.rows.ReceiptRow.{ReceiptRow}
use Rattle.hub_law.specs.Widths.{left, right, line}

-- `L`, the order number (left-aligned in 35 columns), the line number (right-aligned in 6), the GTIN and the answer;
-- then ordered, open, refused, cancelled and despatched, each right-aligned in 9 columns
abbrev pub line_text : Tables → LineRow → List ℕ
line_text state row = line (
    codes "L" ∷ left 35 row.number ∷ right 6 (decimal row.line) ∷ row.gtin ∷ (row.answer ∷ [])
    ∷ map (λ quantity. right 9 (decimal quantity))
    (row.ordered ∷ row.open_qty ∷ row.refused ∷ row.cancelled ∷ despatched state row ∷ []))

-- the GTIN of a content, which is that of the order line it belongs to
abbrev pub article_of_content : Tables → ContentRow → List ℕ
article_of_content state content =
    unwrap_or (option_map (λ row. row.gtin) (line_of state content.number (Some content.line) [])) []

-- adds an article to the others in the order of their digits, unless it is among them
abbrev pub with_article : List ℕ → List (List ℕ) → List (List ℕ)
with_article gtin articles = if list_any (same gtin) articles then articles else put bytes_cmp gtin articles

abbrev pub in_digit_order : List (List ℕ) → List (List ℕ)
in_digit_order [] = []
in_digit_order (gtin ∷ articles) = with_article gtin (in_digit_order articles)

-- the articles that are announced or received on a pallet
abbrev pub articles_on : Tables → PalletRow → List (List ℕ)
articles_on state pallet =
    in_digit_order (
    map (article_of_content state) (contents_of state pallet.sscc)
    ++ map (λ receipt. receipt.gtin) (receipts_of state pallet.sscc))

-- the despatched quantity of an article on a pallet
abbrev pub despatched_on : Tables → PalletRow → List ℕ → ℕ
despatched_on state pallet gtin =
    sum_by (λ content. content.quantity)
    (filter (λ content. same (article_of_content state content) gtin) (contents_of state pallet.sscc))

-- the total of one received quantity of an article on a pallet
abbrev pub received_on : (ReceiptRow → ℕ) → Tables → PalletRow → List ℕ → ℕ
received_on kind state pallet gtin =
    sum_by kind (filter (λ receipt. same receipt.gtin gtin) (receipts_of state pallet.sscc))

-- the difference of two numbers, with its sign
abbrev pub signed : ℕ → ℕ → List ℕ
signed number less =
    if nat_le less number then codes "+" ++ decimal (number - less)
    else codes "-" ++ decimal (less - number)

-- the state of a pallet: `A` announced, `R` received, `C` corrected by an advice that replaces
abbrev pub arrival_text : PalletRow → List ℕ
arrival_text pallet =
    if is_announced pallet then codes "A" else if is_replaced pallet then codes "C" else codes "R"

-- all that was received minus what was despatched, or `+0` while the pallet is only announced
abbrev pub difference : PalletRow → ℕ → ℕ → List ℕ
difference pallet received despatched = if is_announced pallet then signed 0 0 else signed received despatched

-- `P`, the SSCC, the GTIN and the pallet's state; then despatched, accepted, returned and destroyed, each right-aligned
-- in 14 columns, and the difference, right-aligned in 15
abbrev pub article_text : PalletRow → List ℕ → ℕ → ℕ → ℕ → ℕ → List ℕ
article_text pallet gtin despatched accepted returned destroyed = line (
    codes "P" ∷ pallet.sscc ∷ gtin ∷ arrival_text pallet
    ∷ map (λ quantity. right 14 (decimal quantity)) (despatched ∷ accepted ∷ returned ∷ destroyed ∷ [])
    ++ right 15 (difference pallet (accepted + returned + destroyed) despatched) ∷ [])

abbrev pub pallet_text : Tables → PalletRow → List ℕ
pallet_text state pallet = flat_map (λ gtin.
    article_text pallet gtin (despatched_on state pallet gtin)
    (received_on (λ receipt. receipt.accepted) state pallet gtin)
    (received_on (λ receipt. receipt.returned) state pallet gtin)
    (received_on (λ receipt. receipt.destroyed) state pallet gtin)) (articles_on state pallet)

-- lines by order number and line number, then pallets by SSCC and GTIN
unfoldable pub status_text : Tables → List ℕ
status_text state =
    flat_map (line_text state) state.lines ++ flat_map (pallet_text state) state.pallets ++ line (codes "end" ∷ [])
