-- Defines the text of the articles on a pallet.
use Rattle.std.specs.Prelude.{ℕ, List, ◌∷◌, ◌++◌, codes}
use Rattle.hub_tables.specs.declared.rows.PalletRow.{PalletRow}
use Rattle.hub_law.specs.StatusText.{arrival_text}
use Rattle.hub_texts.specs.Lines.{number_text}
use Rattle.hub_texts.specs.declared.totals.Totals.{Totals}

-- the pallet, the article, and whether the pallet was received
abbrev pub article_start : PalletRow → List ℕ → List ℕ
article_start pallet gtin = codes "P" ++ (0x20 ∷ pallet.sscc ++ (0x20 ∷ gtin ++ 0x20 ∷ arrival_text pallet))

-- the despatched, accepted, returned and destroyed quantities
abbrev pub totals_text : Totals → List ℕ
totals_text totals =
    number_text 14 totals.despatched
    ++ (number_text 14 totals.accepted ++ (number_text 14 totals.returned ++ number_text 14 totals.destroyed))
