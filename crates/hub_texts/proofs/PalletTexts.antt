-- Shows the text of a pallet from the table of its articles.
use Rattle.std.proofs.Common.{◌≡◌, List, [], ◌∷◌, ◌++◌, map, refl, sym, ap, ◌∙◌}
use Rattle.std.specs.List.{flat_map}
use Rattle.hub_tables.specs.State.{contents_of, receipts_of}
use Rattle.hub_tables.specs.Tables.{Tables}
use Rattle.hub_tables.specs.declared.rows.ContentRow.{ContentRow}
use Rattle.hub_tables.specs.declared.rows.LineRow.{LineRow}
use Rattle.hub_tables.specs.declared.rows.PalletRow.{PalletRow}
use Rattle.hub_tables.specs.declared.rows.ReceiptRow.{ReceiptRow}
use Rattle.hub_law.specs.StatusText.{pallet_text}
use Rattle.hub_texts.specs.Totals.{article_line, articles_of, table_of, totals_of}

flat_map-map : {X Y Z : Type 0} (f : Y → List Z) (g : X → Y) (xs : List X) → flat_map f (map g xs) ≡ flat_map (λ x. f (g x)) xs
flat_map-map f g [] = refl
flat_map-map f g (x ∷ xs) = ap (λ rest. f (g x) ++ rest) (flat_map-map f g xs)

pub text_is : (state : Tables) (lines : List LineRow) (pallet : PalletRow) (contents : List ContentRow)
    (receipts : List ReceiptRow)
    → state.lines ≡ lines
    → contents_of state pallet.sscc ≡ contents
    → receipts_of state pallet.sscc ≡ receipts
    → flat_map (article_line pallet) (table_of lines contents receipts) ≡ pallet_text state pallet
text_is state lines pallet contents receipts on of_contents of_receipts =
    flat_map-map (article_line pallet) (λ gtin. (gtin, totals_of lines contents receipts gtin)) (articles_of lines contents receipts)
    ∙ sym (λ i. flat_map (λ gtin. article_line pallet (gtin, totals_of (on i) (of_contents i) (of_receipts i) gtin))
    (articles_of (on i) (of_contents i) (of_receipts i)))
