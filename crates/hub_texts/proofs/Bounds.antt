-- Bounds the sums of an article by those of all contents and receipts.
use Rattle.std.proofs.Common.{◌≡◌, ℕ, ◌+◌, ◌-◌, ◌^◌, ◌<◌, ◌≤◌, Bool, true, false, cond, not, ◌||◌, inl, inr, List, [], ◌∷◌}
use Rattle.std.proofs.Common.{length, get_or, drop, filter, sum_by, zero, suc, ap, ◌∙◌, arith}
use Rattle.std.specs.List.{list_any}
use Rattle.std.specs.Option.{is_some}
use Rattle.std.proofs.lemmas.Bool.{or_right}
use Rattle.std.proofs.lemmas.List.Sums.{sum_by-cons}
use Rattle.hub_tables.specs.Rows.{same}
use Rattle.hub_tables.specs.declared.rows.ContentRow.{ContentRow}
use Rattle.hub_tables.specs.declared.rows.LineRow.{LineRow}
use Rattle.hub_tables.specs.declared.rows.ReceiptRow.{ReceiptRow}
use Rattle.hub_texts.specs.Articles.{article_among, article_in}
use Rattle.hub_texts.specs.Totals.{Table, totals_at, received, pieces_of, Uncounted, IsUnclean, table_of}
use Rattle.hub_texts.specs.declared.totals.Totals.{Totals}
use Rattle.hub_texts.proofs.Tables.{totals_known, drop_before}

sum_filter : {X : Type 0} (test : X → Bool) (size : X → ℕ) (rows : List X) → sum_by size (filter test rows) ≤ sum_by size rows
sum_filter test size [] = omega arith
sum_filter test size (row ∷ rows) =
    let rest = sum_filter test size rows in
    let all = sum_by-cons size row rows in
    elim (test row) as (λ v. sum_by size (cond v (row ∷ filter test rows) (filter test rows)) ≤ sum_by size (row ∷ rows)) [
      | true ↦ let some = sum_by-cons size row (filter test rows) in omega (arith, rest, all, some)
      | false ↦ omega (arith, rest, all)
    ]

sum_drop : {X : Type 0} (size : X → ℕ) (n : ℕ) (rows : List X) → sum_by size (drop n rows) ≤ sum_by size rows
sum_drop size zero rows = omega arith
sum_drop size (suc n) [] = omega arith
sum_drop size (suc n) (row ∷ rows) = let rest = sum_drop size n rows in omega (arith, rest, sum_by-cons size row rows)

any_drop : {X : Type 0} (test : X → Bool) (n : ℕ) (rows : List X) → list_any test (drop n rows) ≡ true → list_any test rows ≡ true
any_drop test zero rows h = h
any_drop test (suc n) [] h = h
any_drop test (suc n) (row ∷ rows) h = or_right (test row) (list_any test rows) (any_drop test n rows h)

sum_three : {X : Type 0} (a b c : X → ℕ) (rows : List X)
    → sum_by a rows + sum_by b rows + sum_by c rows ≡ sum_by (λ row. a row + b row + c row) rows
sum_three a b c [] = omega arith
sum_three a b c (row ∷ rows) =
    let rest = sum_three a b c rows in
    omega (
      arith,
      rest,
      sum_by-cons a row rows,
      sum_by-cons b row rows,
      sum_by-cons c row rows,
      sum_by-cons (λ row. a row + b row + c row) row rows,
    )

-- a content that cannot be counted after those that follow it
pub unclean_content : (lines : List LineRow) (contents : List ContentRow) (receipts : List ReceiptRow) (left : ℕ)
    (content : ContentRow) (table : Table)
    → 0 < left
    → left ≤ length contents
    → content ≡ get_or contents (left - 1) content
    → table ≡ table_of lines (drop left contents) receipts → Uncounted lines content table → IsUnclean lines contents receipts
unclean_content lines contents receipts left content table some within is so_far h =
    let size = λ (content : ContentRow). content.quantity in
    let rest = drop left contents in
    let from = drop_before contents left content some within is in
    elim h [
      | inl none ↦
          let test = λ (content : ContentRow). not (is_some (article_among lines content)) in
          let here : test content ≡ true = ap (λ article. not (is_some article)) none in
          inl (any_drop test (left - 1) contents (ap (list_any test) from ∙ ap (λ v. v || list_any test rest) here))
      | inr big ↦
          let x = article_in lines content in
          let known : (totals_at table x).despatched ≡ sum_by size (filter (λ content. same (article_in lines content) x) rest) =
          ap (λ table. (totals_at table x).despatched) so_far ∙ ap (λ (t : Totals). t.despatched) (totals_known lines rest receipts x) in
          let of_article = sum_filter (λ (content : ContentRow). same (article_in lines content) x) size rest in
          let with_it : sum_by size (drop (left - 1) contents) ≡ size content + sum_by size rest =
          ap (sum_by size) from ∙ sum_by-cons size content rest in
          let part = sum_drop size (left - 1) contents in
          inr (inl (omega (arith, big, known, of_article, with_it, part)))
    ]

-- a receipt that cannot be counted after those that follow it
pub unclean_receipt : (lines : List LineRow) (receipts : List ReceiptRow) (left : ℕ) (receipt : ReceiptRow) (table : Table)
    → 0 < left
    → left ≤ length receipts
    → receipt ≡ get_or receipts (left - 1) receipt
    → table ≡ table_of lines [] (drop left receipts)
    → 2 ^ 64 ≤ received (totals_at table receipt.gtin) + pieces_of receipt
    → 2 ^ 64 ≤ sum_by pieces_of receipts
unclean_receipt lines receipts left receipt table some within is so_far big =
    let x = receipt.gtin in
    let rest = drop left receipts in
    let from = drop_before receipts left receipt some within is in
    let of_article = filter (λ (receipt : ReceiptRow). same receipt.gtin x) rest in
    let known : received (totals_at table x) ≡ sum_by pieces_of of_article =
    ap (λ table. received (totals_at table x)) so_far ∙ ap received (totals_known lines [] rest x)
    ∙ sum_three (λ (receipt : ReceiptRow). receipt.accepted) (λ receipt. receipt.returned) (λ receipt. receipt.destroyed) of_article in
    let below = sum_filter (λ (receipt : ReceiptRow). same receipt.gtin x) pieces_of rest in
    let with_it : sum_by pieces_of (drop (left - 1) receipts) ≡ pieces_of receipt + sum_by pieces_of rest =
    ap (sum_by pieces_of) from ∙ sum_by-cons pieces_of receipt rest in
    let part = sum_drop pieces_of (left - 1) receipts in
    omega (arith, big, known, below, with_it, part)
