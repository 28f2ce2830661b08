-- Adds up amounts by article.
use Rattle.std.specs.Prelude.{ℕ, ◌+◌, Bool, nat_le, if◌then◌else◌, List, [], ◌∷◌}
use Rattle.std.specs.List.{list_all}
use Rattle.std.specs.Str.{bytes_eq}
use Rattle.edi_base.specs.Limits.{greatest}
use Rattle.edi_goods.specs.declared.sums.Amount.{Amount}

-- the sum of the amounts of one article
abbrev pub sum_of : List ℕ → List Amount → ℕ
sum_of article [] = 0
sum_of article (amount ∷ amounts) =
    (if bytes_eq amount.gtin article then amount.quantity else 0) + sum_of article amounts

-- no article's sum is too great
abbrev pub sums_within : List Amount → Bool
sums_within amounts = list_all (λ amount. nat_le (sum_of amount.gtin amounts) greatest) amounts
