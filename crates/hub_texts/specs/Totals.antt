-- Defines the totals of what is announced and received of each article on a pallet.
use Rattle.std.specs.Prelude.{◌≡◌, ◌⊎◌, ℕ, ◌+◌, ◌^◌, ◌≤◌, true, not, List, ◌++◌, map, filter, sum_by, None}
use Rattle.std.specs.List.{list_any}
use Rattle.std.specs.BTreeMap.{insert_entry}
use Rattle.std.specs.Map.{lookup}
use Rattle.std.specs.Option.{unwrap_or, is_some}
use Rattle.std.specs.Ordering.{is_eq}
use Rattle.hub_parties.specs.KeyOrder.{bytes_cmp}
use Rattle.hub_tables.specs.Rows.{same}
use Rattle.hub_tables.specs.declared.rows.ContentRow.{ContentRow}
use Rattle.hub_tables.specs.declared.rows.LineRow.{LineRow}
use Rattle.hub_tables.specs.declared.rows.PalletRow.{PalletRow}
use Rattle.hub_tables.specs.declared.rows.ReceiptRow.{ReceiptRow}
use Rattle.hub_law.specs.StatusText.{in_digit_order, article_text}
use Rattle.hub_texts.specs.Articles.{article_among, article_in}
use Rattle.hub_texts.specs.declared.totals.Totals.{Totals}

abbrev pub Table : Type 0
Table = List (List ℕ × Totals)

abbrev pub nothing : Totals
nothing = record { despatched = 0; accepted = 0; returned = 0; destroyed = 0 }

-- the totals of an article in a table
abbrev pub totals_at : Table → List ℕ → Totals
totals_at table gtin = unwrap_or (lookup (λ other. is_eq (bytes_cmp gtin other)) table) nothing

-- the totals after one more content, and after one more receipt
abbrev pub with_content : ContentRow → Totals → Totals
with_content content t =
    record {
      despatched = t.despatched + content.quantity;
      accepted = t.accepted;
      returned = t.returned;
      destroyed = t.destroyed;
    }

abbrev pub with_receipt : ReceiptRow → Totals → Totals
with_receipt receipt t = record {
  despatched = t.despatched;
  accepted = t.accepted + receipt.accepted;
  returned = t.returned + receipt.returned;
  destroyed = t.destroyed + receipt.destroyed;
}

-- the table with changed totals of one article
abbrev pub with_totals : Table → List ℕ → (Totals → Totals) → Table
with_totals table gtin change = insert_entry bytes_cmp table gtin (change (totals_at table gtin))

abbrev pub count_content : List LineRow → ContentRow → Table → Table
count_content lines content table = with_totals table (article_in lines content) (with_content content)

abbrev pub count_receipt : ReceiptRow → Table → Table
count_receipt receipt table = with_totals table receipt.gtin (with_receipt receipt)

-- all that is received of an article: in these totals, and by one receipt
abbrev pub received : Totals → ℕ
received t = t.accepted + t.returned + t.destroyed

abbrev pub pieces_of : ReceiptRow → ℕ
pieces_of receipt = receipt.accepted + receipt.returned + receipt.destroyed

-- the content cannot be counted: it names no line, or the sum for its article does not fit 64 bits
abbrev pub Uncounted : List LineRow → ContentRow → Table → Type 0
Uncounted lines content table =
    (article_among lines content ≡ None)
    ⊎ (2 ^ 64 ≤ (totals_at table (article_in lines content)).despatched + content.quantity)

-- a content names no line, or the quantities of all contents, or of all receipts, do not fit 64 bits
abbrev pub IsUnclean : List LineRow → List ContentRow → List ReceiptRow → Type 0
IsUnclean lines contents receipts =
    (list_any (λ content. not (is_some (article_among lines content))) contents ≡ true)
    ⊎ ((2 ^ 64 ≤ sum_by (λ content. content.quantity) contents) ⊎ (2 ^ 64 ≤ sum_by pieces_of receipts))

-- the quantity of an article that these contents despatch
abbrev pub despatched_by : List LineRow → List ContentRow → List ℕ → ℕ
despatched_by lines contents gtin =
    sum_by (λ content. content.quantity) (filter (λ content. same (article_in lines content) gtin) contents)

-- the total of one quantity of an article over these receipts
abbrev pub received_by : (ReceiptRow → ℕ) → List ReceiptRow → List ℕ → ℕ
received_by kind receipts gtin = sum_by kind (filter (λ receipt. same receipt.gtin gtin) receipts)

-- the totals of an article on a pallet that has these contents and receipts
abbrev pub totals_of : List LineRow → List ContentRow → List ReceiptRow → List ℕ → Totals
totals_of lines contents receipts gtin = record {
  despatched = despatched_by lines contents gtin;
  accepted = received_by (λ receipt. receipt.accepted) receipts gtin;
  returned = received_by (λ receipt. receipt.returned) receipts gtin;
  destroyed = received_by (λ receipt. receipt.destroyed) receipts gtin;
}

-- the articles of a pallet that has these contents and receipts
abbrev pub articles_of : List LineRow → List ContentRow → List ReceiptRow → List (List ℕ)
articles_of lines contents receipts =
    in_digit_order (map (article_in lines) contents ++ map (λ receipt. receipt.gtin) receipts)

-- each article with its totals
abbrev pub table_of : List LineRow → List ContentRow → List ReceiptRow → Table
table_of lines contents receipts =
    map (λ gtin. (gtin, totals_of lines contents receipts gtin)) (articles_of lines contents receipts)

-- the line of text of an article with its totals
abbrev pub article_line : PalletRow → List ℕ × Totals → List ℕ
article_line pallet entry =
    article_text pallet entry.0 entry.1.despatched entry.1.accepted entry.1.returned entry.1.destroyed
