-- Shows that pallets are never removed, so contents and receipts stay on existing pallets.
use Rattle.std.proofs.Common.{◌≡◌, ℕ, true, not, ◌||◌, List, [], ◌∷◌, ap, ◌∙◌}
use Rattle.std.specs.Prelude.{⊤}
use Rattle.std.specs.List.{AllByRecursion, list_any}
use Rattle.hub_tables.specs.Change.{apply}
use Rattle.hub_tables.specs.Rows.{same, pallet_cmp, content_cmp, receipt_cmp, same_pallet}
use Rattle.hub_tables.specs.Tables.{Tables, has_pallet}
use Rattle.hub_tables.specs.declared.change.Change.{Change}
use Rattle.hub_tables.specs.declared.change.Change.TheVariants.{AddPallet, SetPallet, AddContent, AddReceipt, ClearReceipts}
use Rattle.hub_tables.specs.declared.rows.ContentRow.{ContentRow}
use Rattle.hub_tables.specs.declared.rows.ReceiptRow.{ReceiptRow}
use Rattle.hub_tables.proofs.KeyOrder.{all_put, any_put}
use Rattle.hub_tables.proofs.Lists.{any_replaced, same_is, all_filter, all_weaker}

-- a pallet still exists after a change
pub pallet_stays : (sscc : List ℕ) (t : Tables) (change : Change)
    → has_pallet t sscc ≡ true
    → has_pallet (apply change t) sscc ≡ true
pallet_stays sscc t (AddPallet r) h =
    any_put pallet_cmp (λ p. same p.sscc sscc) t.pallets r ∙ ap (λ v. v || list_any (λ p. same p.sscc sscc) (r ∷ [])) h
pallet_stays sscc t (SetPallet r) h =
    any_replaced (λ p. same p.sscc sscc) (same_pallet r) r t.pallets (λ y e. ap (λ n. same n sscc) (same_is y.sscc r.sscc e)) ∙ h
pallet_stays sscc t other h = h

-- a content or a receipt that is added belongs to an existing pallet
abbrev pub OnPallet : Tables → Change → Type 0
OnPallet t (AddContent row) = has_pallet t row.sscc ≡ true
OnPallet t (AddReceipt row) = has_pallet t row.sscc ≡ true
OnPallet t other = ⊤

-- rows belong to existing pallets
abbrev AreOn : {X : Type 0} → (X → List ℕ) → Tables → List X → Type 0
AreOn sscc t rows = AllByRecursion (λ row. has_pallet t (sscc row) ≡ true) rows

module _ (t : Tables) where
  still_on : {X : Type 0} (sscc : X → List ℕ) (change : Change) (rows : List X) → AreOn sscc t rows → AreOn sscc (apply change t) rows
  still_on sscc change rows all =
      all_weaker (λ row. has_pallet t (sscc row) ≡ true) (λ row. has_pallet (apply change t) (sscc row) ≡ true)
      (λ row there. pallet_stays (sscc row) t change there) rows all

  contents_then : (change : Change)
      → OnPallet t change
      → AreOn (λ (c : ContentRow). c.sscc) t t.contents
      → AreOn (λ (c : ContentRow). c.sscc) t (apply change t).contents
  contents_then (AddContent r) h all = all_put content_cmp (λ c. has_pallet t c.sscc ≡ true) t.contents r all h
  contents_then other h all = all

  receipts_then : (change : Change)
      → OnPallet t change
      → AreOn (λ (c : ReceiptRow). c.sscc) t t.receipts
      → AreOn (λ (c : ReceiptRow). c.sscc) t (apply change t).receipts
  receipts_then (AddReceipt r) h all = all_put receipt_cmp (λ c. has_pallet t c.sscc ≡ true) t.receipts r all h
  receipts_then (ClearReceipts sscc) h all = all_filter (λ c. has_pallet t c.sscc ≡ true) (λ c. not (same c.sscc sscc)) t.receipts all
  receipts_then other h all = all

  -- after a change, all rows belong to existing pallets
  pub contents_after : (change : Change)
      → OnPallet t change
      → AllByRecursion (λ c. has_pallet t c.sscc ≡ true) t.contents
      → AllByRecursion (λ c. has_pallet (apply change t) c.sscc ≡ true) (apply change t).contents
  contents_after change h all = still_on (λ c. c.sscc) change (apply change t).contents (contents_then change h all)

  pub receipts_after : (change : Change)
      → OnPallet t change
      → AllByRecursion (λ c. has_pallet t c.sscc ≡ true) t.receipts
      → AllByRecursion (λ c. has_pallet (apply change t) c.sscc ≡ true) (apply change t).receipts
  receipts_after change h all = still_on (λ c. c.sscc) change (apply change t).receipts (receipts_then change h all)
