-- Shows what one more content or receipt does to a table of articles.
use Rattle.std.proofs.Common.{◌≡◌, ℕ, ◌+◌, ◌-◌, ◌<◌, ◌≤◌, Bool, true, false, cond, ◌||◌, inl, inr, List, [], ◌∷◌, ◌++◌}
use Rattle.std.proofs.Common.{length, get_or, drop, map, filter, sum_by, Some, refl, sym, ap, ap₂, ◌∙◌, subst, arith}
use Rattle.std.specs.BTreeMap.{insert_entry}
use Rattle.std.specs.List.{AllByRecursion, list_any}
use Rattle.std.specs.Map.{lookup}
use Rattle.std.specs.Option.{unwrap_or}
use Rattle.std.specs.declared.cmp.Ordering.{Ordering}
use Rattle.std.specs.declared.cmp.Ordering.TheVariants.{Less, Equal, Greater}
use Rattle.std.specs.Ordering.{is_eq, is_gt, match_ordering, ordering_reverse}
use Rattle.std.proofs.lemmas.Cmp.{nat_list_cmp_total}
use Rattle.std.proofs.lemmas.List.{drop_more}
use Rattle.std.proofs.lemmas.List.Sums.{sum_by-cons}
use Rattle.std.proofs.lemmas.Map.Text.{is_eq-slice_cmp}
use Rattle.std.proofs.lemmas.Bool.{or_parts}
use Rattle.hub_parties.specs.KeyOrder.{bytes_cmp, put, Rises}
use Rattle.hub_tables.specs.Rows.{same}
use Rattle.hub_tables.specs.declared.rows.ContentRow.{ContentRow}
use Rattle.hub_tables.specs.declared.rows.LineRow.{LineRow}
use Rattle.hub_tables.specs.declared.rows.ReceiptRow.{ReceiptRow}
use Rattle.hub_tables.proofs.KeyOrder.{all_put, any_put}
use Rattle.hub_tables.proofs.Lists.{decide, same_is, same_if, all_weaker}
use Rattle.hub_law.specs.StatusText.{with_article, in_digit_order}
use Rattle.hub_texts.specs.Articles.{article_in}
use Rattle.hub_texts.specs.Totals.{Table, nothing, totals_at, with_content, with_receipt, count_content, count_receipt}
use Rattle.hub_texts.specs.Totals.{totals_of, articles_of, table_of}
use Rattle.hub_texts.specs.declared.totals.Totals.{Totals}

below_differs : (x y : List ℕ) → bytes_cmp x y ≡ Less → same x y ≡ false
below_differs x y h = sym (is_eq-slice_cmp x y) ∙ ap is_eq h

equal_is : (x y : List ℕ) → bytes_cmp x y ≡ Equal → x ≡ y
equal_is x y h = same_is x y (sym (is_eq-slice_cmp x y) ∙ ap is_eq h)

turned : (x y : List ℕ) (o : Ordering) → bytes_cmp x y ≡ o → bytes_cmp y x ≡ ordering_reverse o
turned x y o h = nat_list_cmp_total.antisymm y x ∙ ap ordering_reverse h

above_differs : (x y : List ℕ) → bytes_cmp x y ≡ Greater → same x y ≡ false
above_differs x y h = sym (is_eq-slice_cmp x y) ∙ ap is_eq h

all_above : (x y : List ℕ) (ys : List (List ℕ))
    → bytes_cmp x y ≡ Less
    → AllByRecursion (λ z. bytes_cmp y z ≡ Less) ys
    → AllByRecursion (λ z. bytes_cmp x z ≡ Less) ys
all_above x y ys h all =
    all_weaker (λ z. bytes_cmp y z ≡ Less) (λ z. bytes_cmp x z ≡ Less) (λ z g. nat_list_cmp_total.trans x y z h g) ys all

none_above : (x : List ℕ) (ys : List (List ℕ)) → AllByRecursion (λ z. bytes_cmp x z ≡ Less) ys → list_any (same x) ys ≡ false
none_above x [] all = refl
none_above x (y ∷ ys) all = ap₂ (λ a b. a || b) (below_differs x y all.0) (none_above x ys all.1)

-- One more article.

with_below : (x y : List ℕ) (ys : List (List ℕ))
    → bytes_cmp x y ≡ Less
    → AllByRecursion (λ z. bytes_cmp y z ≡ Less) ys
    → with_article x (y ∷ ys) ≡ x ∷ y ∷ ys
with_below x y ys h all =
    ap (λ v. cond v (y ∷ ys) (put bytes_cmp x (y ∷ ys))) (none_above x (y ∷ ys) (h, all_above x y ys h all))
    ∙ ap (λ o. cond (is_gt o) (x ∷ y ∷ ys) (y ∷ put bytes_cmp x ys)) (turned x y Less h)

with_same : (x y : List ℕ) (ys : List (List ℕ)) → x ≡ y → with_article x (y ∷ ys) ≡ y ∷ ys
with_same x y ys e = ap (λ v. cond (v || list_any (same x) ys) (y ∷ ys) (put bytes_cmp x (y ∷ ys))) (same_if x y e)

with_above : (x y : List ℕ) (ys : List (List ℕ)) → bytes_cmp x y ≡ Greater → with_article x (y ∷ ys) ≡ y ∷ with_article x ys
with_above x y ys h =
    ap₂ (λ v o. cond (v || list_any (same x) ys) (y ∷ ys) (cond (is_gt o) (x ∷ y ∷ ys) (y ∷ put bytes_cmp x ys)))
    (above_differs x y h) (turned x y Greater h)
    ∙ elim (list_any (same x) ys) as (λ v. cond v (y ∷ ys) (y ∷ put bytes_cmp x ys) ≡ y ∷ cond v ys (put bytes_cmp x ys))
    [ true ↦ refl | false ↦ refl ]

with_rises : (x : List ℕ) (ys : List (List ℕ)) → Rises bytes_cmp ys → Rises bytes_cmp (with_article x ys)
with_rises x [] rise = (tt, tt)
with_rises x (y ∷ ys) rise =
    elim (bytes_cmp x y) as (λ o. bytes_cmp x y ≡ o → Rises bytes_cmp (with_article x (y ∷ ys))) [
      | Less ↦ λ e. subst (Rises bytes_cmp) (sym (with_below x y ys e rise.0)) ((e, all_above x y ys e rise.0), rise)
      | Equal ↦ λ e. subst (Rises bytes_cmp) (sym (with_same x y ys (equal_is x y e))) rise
      | Greater ↦ λ e. subst (Rises bytes_cmp) (sym (with_above x y ys e))
          (all_with ys rise.0 (turned x y Greater e), with_rises x ys rise.1)
    ] refl
  where
    all_with : (zs : List (List ℕ))
        → AllByRecursion (λ z. bytes_cmp y z ≡ Less) zs
        → bytes_cmp y x ≡ Less
        → AllByRecursion (λ z. bytes_cmp y z ≡ Less) (with_article x zs)
    all_with zs all h =
        elim (list_any (same x) zs) as (λ v. AllByRecursion (λ z. bytes_cmp y z ≡ Less) (cond v zs (put bytes_cmp x zs)))
        [ true ↦ all | false ↦ all_put bytes_cmp (λ z. bytes_cmp y z ≡ Less) zs x all h ]

order_rises : (xs : List (List ℕ)) → Rises bytes_cmp (in_digit_order xs)
order_rises [] = tt
order_rises (x ∷ xs) = with_rises x (in_digit_order xs) (order_rises xs)

-- an article that is not in the sorted list is none of the articles
not_ordered : (x : List ℕ) (xs : List (List ℕ)) → list_any (same x) (in_digit_order xs) ≡ false → list_any (same x) xs ≡ false
not_ordered x [] none = refl
not_ordered x (y ∷ ys) none =
    let order = in_digit_order ys in
    elim (decide (list_any (same y) order)) [
      | inl there ↦
          let rest : list_any (same x) order ≡ false =
          sym (ap (λ v. list_any (same x) (cond v order (put bytes_cmp y order))) there) ∙ none in
          elim (decide (same x y)) [
            | inl e ↦ absurd (cc (ap (λ z. list_any (same z) order) (same_is x y e), rest, there))
            | inr e ↦ ap₂ (λ a b. a || b) e (not_ordered x ys rest)
          ]
      | inr new ↦
          let parts = or_parts (list_any (same x) order) (same x y || false) (sym (any_put bytes_cmp (same x) order y)
          ∙ sym (ap (λ v. list_any (same x) (cond v order (put bytes_cmp y order))) new)
          ∙ none) in
          ap₂ (λ a b. a || b) (or_parts (same x y) false parts.1).0 (not_ordered x ys parts.0)
    ]

-- Tables of these articles, with what a function gives for each.

abbrev entries : (List ℕ → Totals) → List (List ℕ) → Table
entries f keys = map (λ key. (key, f key)) keys

alike : (f g : List ℕ → Totals) (x : List ℕ)
    → ((key : List ℕ) → same x key ≡ false → g key ≡ f key)
    → (keys : List (List ℕ))
    → AllByRecursion (λ z. bytes_cmp x z ≡ Less) keys
    → entries f keys ≡ entries g keys
alike f g x others [] all = refl
alike f g x others (key ∷ keys) all =
    ap₂ (λ t rest. (key, t) ∷ rest) (sym (others key (below_differs x key all.0))) (alike f g x others keys all.1)

-- a table in which one article gets other totals, and the others keep theirs
put_totals : (x : List ℕ) (v : Totals) (f g : List ℕ → Totals)
    → g x ≡ v
    → ((key : List ℕ) → same x key ≡ false → g key ≡ f key)
    → (keys : List (List ℕ))
    → Rises bytes_cmp keys
    → insert_entry bytes_cmp (entries f keys) x v ≡ entries g (with_article x keys)
put_totals x v f g here others [] rise = ap (λ t. (x, t) ∷ []) (sym here)
put_totals x v f g here others (y ∷ ys) rise =
    let rest = entries f ys in
    elim (bytes_cmp x y) as (λ o. bytes_cmp x y ≡ o
    → match_ordering o ((x, v) ∷ (y, f y) ∷ rest) ((y, v) ∷ rest) ((y, f y) ∷ insert_entry bytes_cmp rest x v)
    ≡ entries g (with_article x (y ∷ ys))) [
      | Less ↦ λ e.
          ap₂ (λ t more. (x, t) ∷ more) (sym here) (alike f g x others (y ∷ ys) (e, all_above x y ys e rise.0))
          ∙ ap (entries g) (sym (with_below x y ys e rise.0))
      | Equal ↦ λ e.
          let is = equal_is x y e in
          ap₂ (λ t more. (y, t) ∷ more) (sym here ∙ ap g is)
          (alike f g x others ys (subst (λ z. AllByRecursion (λ q. bytes_cmp z q ≡ Less) ys) (sym is) rise.0))
          ∙ ap (entries g) (sym (with_same x y ys is))
      | Greater ↦ λ e.
          ap₂ (λ t more. (y, t) ∷ more) (sym (others y (above_differs x y e))) (put_totals x v f g here others ys rise.1)
          ∙ ap (entries g) (sym (with_above x y ys e))
    ] refl

-- what a table has for an article; zero if the article is not in it
found : (x : List ℕ) (f : List ℕ → Totals) (keys : List (List ℕ))
    → (list_any (same x) keys ≡ false → f x ≡ nothing)
    → totals_at (entries f keys) x ≡ f x
found x f [] none = sym (none refl)
found x f (y ∷ ys) none =
    let rest = lookup (λ other. is_eq (bytes_cmp x other)) (entries f ys) in
    let at : Bool → Totals = λ v. unwrap_or (cond v (Some (f y)) rest) nothing in
    let here : at (same x y) ≡ f x = elim (decide (same x y)) [
      | inl e ↦ ap at e ∙ ap f (sym (same_is x y e))
      | inr e ↦ ap at e ∙ found x f ys (λ h. none (ap₂ (λ a b. a || b) e h))
    ] in
    ap at (is_eq-slice_cmp x y) ∙ here

-- Totals from contents and receipts.

any_append : {X : Type 0} (p : X → Bool) (xs ys : List X) → list_any p (xs ++ ys) ≡ (list_any p xs || list_any p ys)
any_append p [] ys = refl
any_append p (x ∷ xs) ys =
    elim (p x) as (λ v. (v || list_any p (xs ++ ys)) ≡ ((v || list_any p xs) || list_any p ys))
    [ true ↦ refl | false ↦ any_append p xs ys ]

same_back : (x y : List ℕ) → same x y ≡ false → same y x ≡ false
same_back x y h = elim (decide (same y x)) [ inl e ↦ absurd (cc (same_if x y (sym (same_is y x e)), h)) | inr e ↦ e ]

none_of : {X : Type 0} (article : X → List ℕ) (x : List ℕ) (rows : List X)
    → list_any (same x) (map article rows) ≡ false
    → filter (λ row. same (article row) x) rows ≡ []
none_of article x [] none = refl
none_of article x (row ∷ rows) none =
    let parts = or_parts (same x (article row)) (list_any (same x) (map article rows)) none in
    ap (λ v. cond v (row ∷ filter (λ row. same (article row) x) rows) (filter (λ row. same (article row) x) rows))
    (same_back x (article row) parts.0)
    ∙ none_of article x rows parts.1

-- an article that is neither announced nor received has zero totals
no_totals : (lines : List LineRow) (contents : List ContentRow) (receipts : List ReceiptRow) (x : List ℕ)
    → list_any (same x) (articles_of lines contents receipts) ≡ false
    → totals_of lines contents receipts x ≡ nothing
no_totals lines contents receipts x none =
    let articles = map (article_in lines) contents in
    let gtins = map (λ (receipt : ReceiptRow). receipt.gtin) receipts in
    let parts = or_parts (list_any (same x) articles) (list_any (same x) gtins)
    (sym (any_append (same x) articles gtins) ∙ not_ordered x (articles ++ gtins) none) in
    let despatched = none_of (article_in lines) x contents parts.0 in
    let received = none_of (λ (receipt : ReceiptRow). receipt.gtin) x receipts parts.1 in
    λ i. record {
      despatched = sum_by (λ (content : ContentRow). content.quantity) (despatched i);
      accepted = sum_by (λ (receipt : ReceiptRow). receipt.accepted) (received i);
      returned = sum_by (λ (receipt : ReceiptRow). receipt.returned) (received i);
      destroyed = sum_by (λ (receipt : ReceiptRow). receipt.destroyed) (received i);
    }

-- what a table has for an article
pub totals_known : (lines : List LineRow) (contents : List ContentRow) (receipts : List ReceiptRow) (x : List ℕ)
    → totals_at (table_of lines contents receipts) x ≡ totals_of lines contents receipts x
totals_known lines contents receipts x =
    found x (totals_of lines contents receipts) (articles_of lines contents receipts) (no_totals lines contents receipts x)

-- the sum over the rows that pass, after one more row
sum_with : {X : Type 0} (test : X → Bool) (size : X → ℕ) (row : X) (rows : List X)
    → test row ≡ true
    → sum_by size (filter test (row ∷ rows)) ≡ sum_by size (filter test rows) + size row
sum_with test size row rows h =
    ap (λ v. sum_by size (cond v (row ∷ filter test rows) (filter test rows))) h
    ∙ sum_by-cons size row (filter test rows)
    ∙ turn (size row) (sum_by size (filter test rows))
  where
    turn : (a b : ℕ) → a + b ≡ b + a
    turn a b = omega arith

sum_without : {X : Type 0} (test : X → Bool) (size : X → ℕ) (row : X) (rows : List X)
    → test row ≡ false
    → sum_by size (filter test (row ∷ rows)) ≡ sum_by size (filter test rows)
sum_without test size row rows h = ap (λ v. sum_by size (cond v (row ∷ filter test rows) (filter test rows))) h

-- a table after one more content
content_counted : (lines : List LineRow) (content : ContentRow) (contents : List ContentRow) (receipts : List ReceiptRow)
    → count_content lines content (table_of lines contents receipts) ≡ table_of lines (content ∷ contents) receipts
content_counted lines content contents receipts =
    let x = article_in lines content in
    let old = totals_of lines contents receipts in
    let new = totals_of lines (content ∷ contents) receipts in
    let keys = articles_of lines contents receipts in
    let size = λ (content : ContentRow). content.quantity in
    let here : new x ≡ with_content content (old x) =
    λ i. record (old x)
    { despatched = sum_with (λ content. same (article_in lines content) x) size content contents (same_if x x refl) i } in
    let others : (key : List ℕ) → same x key ≡ false → new key ≡ old key =
    λ key h. λ i.
    record (old key) { despatched = sum_without (λ content. same (article_in lines content) key) size content contents h i } in
    ap (λ t. insert_entry bytes_cmp (entries old keys) x (with_content content t)) (totals_known lines contents receipts x)
    ∙ put_totals x (with_content content (old x)) old new here others keys
    (order_rises (map (article_in lines) contents ++ map (λ (receipt : ReceiptRow). receipt.gtin) receipts))

-- a table after one more receipt
receipt_counted : (lines : List LineRow) (receipt : ReceiptRow) (receipts : List ReceiptRow)
    → count_receipt receipt (table_of lines [] receipts) ≡ table_of lines [] (receipt ∷ receipts)
receipt_counted lines receipt receipts =
    let x = receipt.gtin in
    let old = totals_of lines [] receipts in
    let new = totals_of lines [] (receipt ∷ receipts) in
    let keys = articles_of lines [] receipts in
    let here : new x ≡ with_receipt receipt (old x) = λ i. record {
      despatched = 0;
      accepted = sum_with (λ (r : ReceiptRow). same r.gtin x) (λ r. r.accepted) receipt receipts (same_if x x refl) i;
      returned = sum_with (λ (r : ReceiptRow). same r.gtin x) (λ r. r.returned) receipt receipts (same_if x x refl) i;
      destroyed = sum_with (λ (r : ReceiptRow). same r.gtin x) (λ r. r.destroyed) receipt receipts (same_if x x refl) i;
    } in
    let others : (key : List ℕ) → same x key ≡ false → new key ≡ old key = λ key h. λ i. record {
      despatched = 0;
      accepted = sum_without (λ (r : ReceiptRow). same r.gtin key) (λ r. r.accepted) receipt receipts h i;
      returned = sum_without (λ (r : ReceiptRow). same r.gtin key) (λ r. r.returned) receipt receipts h i;
      destroyed = sum_without (λ (r : ReceiptRow). same r.gtin key) (λ r. r.destroyed) receipt receipts h i;
    } in
    ap (λ t. insert_entry bytes_cmp (entries old keys) x (with_receipt receipt t)) (totals_known lines [] receipts x)
    ∙ put_totals x (with_receipt receipt (old x)) old new here others keys
    (order_rises (map (λ (receipt : ReceiptRow). receipt.gtin) receipts))

-- one more row, counting from the end
pub drop_before : {X : Type 0} (xs : List X) (left : ℕ) (x : X)
    → 0 < left
    → left ≤ length xs
    → x ≡ get_or xs (left - 1) x
    → drop (left - 1) xs ≡ x ∷ drop left xs
drop_before xs left x some within is =
    let inside : left - 1 < length xs = omega arith in
    let again : left - 1 + 1 ≡ left = omega arith in
    drop_more xs (left - 1) x inside ∙ ap₂ (λ y n. y ∷ drop n xs) (sym is) again

pub contents_counted : (lines : List LineRow) (contents : List ContentRow) (receipts : List ReceiptRow) (left : ℕ)
    (content : ContentRow) (table : Table)
    → 0 < left
    → left ≤ length contents
    → content ≡ get_or contents (left - 1) content
    → table ≡ table_of lines (drop left contents) receipts
    → count_content lines content table ≡ table_of lines (drop (left - 1) contents) receipts
contents_counted lines contents receipts left content table some within is so_far =
    ap (count_content lines content) so_far ∙ content_counted lines content (drop left contents) receipts
    ∙ ap (λ rows. table_of lines rows receipts) (sym (drop_before contents left content some within is))

pub receipts_counted : (lines : List LineRow) (receipts : List ReceiptRow) (left : ℕ) (receipt : ReceiptRow) (table : Table)
    → 0 < left
    → left ≤ length receipts
    → receipt ≡ get_or receipts (left - 1) receipt
    → table ≡ table_of lines [] (drop left receipts) → count_receipt receipt table ≡ table_of lines [] (drop (left - 1) receipts)
receipts_counted lines receipts left receipt table some within is so_far =
    ap (count_receipt receipt) so_far ∙ receipt_counted lines receipt (drop left receipts)
    ∙ ap (table_of lines []) (sym (drop_before receipts left receipt some within is))
