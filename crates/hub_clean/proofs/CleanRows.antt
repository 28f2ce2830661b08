-- Shows that changes of clean rows leave tables of clean rows.
use Rattle.std.proofs.Common.{◌≡◌, ℕ, Bool, true, not, List, [], ◌∷◌, refl}
use Rattle.std.specs.Bool.{⊤}
use Rattle.std.specs.List.{AllByRecursion, list_all}
use Rattle.std.proofs.lemmas.Bool.{and_parts, and_from}
use Rattle.hub_tables.specs.Change.{apply, apply_all}
use Rattle.hub_tables.specs.Rows.{hub_cmp, key_cmp, prefix_cmp}
use Rattle.hub_tables.specs.Rows.{same, order_cmp, line_cmp, advice_cmp, pallet_cmp, content_cmp, receipt_cmp}
use Rattle.hub_tables.specs.Rows.{remembered_cmp, mail_cmp, same_hub, same_key, same_line, same_pallet, same_mail}
use Rattle.hub_tables.specs.Tables.{Tables, view, holds}
use Rattle.hub_tables.specs.declared.change.Change.{Change}
use Rattle.hub_tables.specs.declared.change.Change.TheVariants.{AddHub, SetHub, AddKey, SetKey, AddPrefix}
use Rattle.hub_tables.specs.declared.change.Change.TheVariants.{AddOrder, AddLine, SetLine, AddAdvice, AddPallet}
use Rattle.hub_tables.specs.declared.change.Change.TheVariants.{SetPallet, AddContent, AddReceipt, ClearReceipts, Remember, AddMail}
use Rattle.hub_tables.specs.declared.change.Change.TheVariants.{SetMail}
use Rattle.hub_tables.proofs.KeyOrder.{all_put}
use Rattle.hub_tables.proofs.Lists.{all_filter, all_replace}
use Rattle.hub_store.specs.Clean.{clean_hub, clean_key, clean_prefix}
use Rattle.hub_store.specs.Clean.{clean_order, clean_line, clean_advice, clean_pallet, clean_content, clean_receipt}
use Rattle.hub_store.specs.Clean.{clean_remembered, clean_mail, are_clean}

pub all_true : {X : Type 0} (p : X → Bool) (xs : List X) → AllByRecursion (λ x. p x ≡ true) xs → list_all p xs ≡ true
all_true p [] all = refl
all_true p (x ∷ xs) all = and_from _ _ all.0 (all_true p xs all.1)

pub true_all : {X : Type 0} (p : X → Bool) (xs : List X) → list_all p xs ≡ true → AllByRecursion (λ x. p x ≡ true) xs
true_all p [] h = tt
true_all p (x ∷ xs) h = let parts = and_parts (p x) (list_all p xs) h in (parts.0, true_all p xs parts.1)

pub record CleanRows (t : Tables) : Type 0 where
  pub hubs : AllByRecursion (λ row. clean_hub row ≡ true) t.hubs
  pub keys : AllByRecursion (λ row. clean_key row ≡ true) t.keys
  pub prefixes : AllByRecursion (λ row. clean_prefix row ≡ true) t.prefixes
  pub orders : AllByRecursion (λ row. clean_order row ≡ true) t.orders
  pub lines : AllByRecursion (λ row. clean_line row ≡ true) t.lines
  pub advices : AllByRecursion (λ row. clean_advice row ≡ true) t.advices
  pub pallets : AllByRecursion (λ row. clean_pallet row ≡ true) t.pallets
  pub contents : AllByRecursion (λ row. clean_content row ≡ true) t.contents
  pub receipts : AllByRecursion (λ row. clean_receipt row ≡ true) t.receipts
  pub remembered : AllByRecursion (λ row. clean_remembered row ≡ true) t.remembered
  pub mail : AllByRecursion (λ row. clean_mail row ≡ true) t.mail

pub clean_rows : (t : Tables) → are_clean t ≡ true → CleanRows t
clean_rows t h =
    let hubs = and_parts (list_all clean_hub t.hubs) _ h in
    let keys = and_parts (list_all clean_key t.keys) _ hubs.1 in
    let prefixes = and_parts (list_all clean_prefix t.prefixes) _ keys.1 in
    let a = and_parts (list_all clean_order t.orders) _ prefixes.1 in
    let b = and_parts (list_all clean_line t.lines) _ a.1 in
    let c = and_parts (list_all clean_advice t.advices) _ b.1 in
    let d = and_parts (list_all clean_pallet t.pallets) _ c.1 in
    let e = and_parts (list_all clean_content t.contents) _ d.1 in
    let f = and_parts (list_all clean_receipt t.receipts) _ e.1 in
    let g = and_parts (list_all clean_remembered t.remembered) (list_all clean_mail t.mail) f.1 in
    record {
      hubs = true_all clean_hub t.hubs hubs.0;
      keys = true_all clean_key t.keys keys.0;
      prefixes = true_all clean_prefix t.prefixes prefixes.0;
      orders = true_all clean_order t.orders a.0;
      lines = true_all clean_line t.lines b.0;
      advices = true_all clean_advice t.advices c.0;
      pallets = true_all clean_pallet t.pallets d.0;
      contents = true_all clean_content t.contents e.0;
      receipts = true_all clean_receipt t.receipts f.0;
      remembered = true_all clean_remembered t.remembered g.0;
      mail = true_all clean_mail t.mail g.1;
    }

pub rows_clean : (t : Tables) → CleanRows t → are_clean t ≡ true
rows_clean t h =
    and_from _ _ (all_true clean_hub t.hubs h.hubs) (and_from _ _ (all_true clean_key t.keys h.keys)
    (and_from _ _ (all_true clean_prefix t.prefixes h.prefixes)
    (and_from _ _ (all_true clean_order t.orders h.orders) (and_from _ _ (all_true clean_line t.lines h.lines)
    (and_from _ _ (all_true clean_advice t.advices h.advices) (and_from _ _ (all_true clean_pallet t.pallets h.pallets)
    (and_from _ _ (all_true clean_content t.contents h.contents) (and_from _ _ (all_true clean_receipt t.receipts h.receipts)
    (and_from _ _ (all_true clean_remembered t.remembered h.remembered) (all_true clean_mail t.mail h.mail))))))))))

-- what a supplier sees
pub clean_view : (supplier : List ℕ) (t : Tables) → CleanRows t → CleanRows (view supplier t)
clean_view supplier t h = record {
  hubs = tt;
  keys = all_filter _ (λ row. same row.supplier supplier) t.keys h.keys;
  prefixes = all_filter _ (λ row. same row.supplier supplier) t.prefixes h.prefixes;
  orders = all_filter _ (λ row. same row.supplier supplier) t.orders h.orders;
  lines = all_filter _ (λ row. same row.supplier supplier) t.lines h.lines;
  advices = all_filter _ (λ row. same row.supplier supplier) t.advices h.advices;
  pallets = all_filter _ (λ row. same row.supplier supplier) t.pallets h.pallets;
  contents = all_filter _ (λ row. holds supplier t.pallets row.sscc) t.contents h.contents;
  receipts = all_filter _ (λ row. holds supplier t.pallets row.sscc) t.receipts h.receipts;
  remembered = all_filter _ (λ row. same row.supplier supplier) t.remembered h.remembered;
  mail = all_filter _ (λ row. same row.supplier supplier) t.mail h.mail;
}

-- the row of a change is clean
abbrev pub CleanChange : Change → Type 0
CleanChange (AddHub row) = clean_hub row ≡ true
CleanChange (SetHub row) = clean_hub row ≡ true
CleanChange (AddKey row) = clean_key row ≡ true
CleanChange (SetKey row) = clean_key row ≡ true
CleanChange (AddPrefix row) = clean_prefix row ≡ true
CleanChange (AddOrder row) = clean_order row ≡ true
CleanChange (AddLine row) = clean_line row ≡ true
CleanChange (SetLine row) = clean_line row ≡ true
CleanChange (AddAdvice row) = clean_advice row ≡ true
CleanChange (AddPallet row) = clean_pallet row ≡ true
CleanChange (SetPallet row) = clean_pallet row ≡ true
CleanChange (AddContent row) = clean_content row ≡ true
CleanChange (AddReceipt row) = clean_receipt row ≡ true
CleanChange (ClearReceipts sscc) = ⊤
CleanChange (Remember row) = clean_remembered row ≡ true
CleanChange (AddMail row) = clean_mail row ≡ true
CleanChange (SetMail row) = clean_mail row ≡ true

-- the rows of each kind after a change
module _ (t : Tables) (h : CleanRows t) where
  hubs : (change : Change) → CleanChange change → AllByRecursion (λ row. clean_hub row ≡ true) (apply change t).hubs
  hubs (AddHub row) c = all_put hub_cmp _ t.hubs row h.hubs c
  hubs (SetHub row) c = all_replace _ (same_hub row) row t.hubs h.hubs c
  hubs other c = h.hubs

  keys : (change : Change) → CleanChange change → AllByRecursion (λ row. clean_key row ≡ true) (apply change t).keys
  keys (AddKey row) c = all_put key_cmp _ t.keys row h.keys c
  keys (SetKey row) c = all_replace _ (same_key row) row t.keys h.keys c
  keys other c = h.keys

  prefixes : (change : Change) → CleanChange change → AllByRecursion (λ row. clean_prefix row ≡ true) (apply change t).prefixes
  prefixes (AddPrefix row) c = all_put prefix_cmp _ t.prefixes row h.prefixes c
  prefixes other c = h.prefixes

  orders : (change : Change) → CleanChange change → AllByRecursion (λ row. clean_order row ≡ true) (apply change t).orders
  orders (AddOrder row) c = all_put order_cmp _ t.orders row h.orders c
  orders other c = h.orders

  lines : (change : Change) → CleanChange change → AllByRecursion (λ row. clean_line row ≡ true) (apply change t).lines
  lines (AddLine row) c = all_put line_cmp _ t.lines row h.lines c
  lines (SetLine row) c = all_replace _ (same_line row) row t.lines h.lines c
  lines other c = h.lines

  advices : (change : Change) → CleanChange change → AllByRecursion (λ row. clean_advice row ≡ true) (apply change t).advices
  advices (AddAdvice row) c = all_put advice_cmp _ t.advices row h.advices c
  advices other c = h.advices

  pallets : (change : Change) → CleanChange change → AllByRecursion (λ row. clean_pallet row ≡ true) (apply change t).pallets
  pallets (AddPallet row) c = all_put pallet_cmp _ t.pallets row h.pallets c
  pallets (SetPallet row) c = all_replace _ (same_pallet row) row t.pallets h.pallets c
  pallets other c = h.pallets

  contents : (change : Change) → CleanChange change → AllByRecursion (λ row. clean_content row ≡ true) (apply change t).contents
  contents (AddContent row) c = all_put content_cmp _ t.contents row h.contents c
  contents other c = h.contents

  receipts : (change : Change) → CleanChange change → AllByRecursion (λ row. clean_receipt row ≡ true) (apply change t).receipts
  receipts (AddReceipt row) c = all_put receipt_cmp _ t.receipts row h.receipts c
  receipts (ClearReceipts sscc) c = all_filter _ (λ row. not (same row.sscc sscc)) t.receipts h.receipts
  receipts other c = h.receipts

  remembered : (change : Change) → CleanChange change → AllByRecursion (λ row. clean_remembered row ≡ true) (apply change t).remembered
  remembered (Remember row) c = all_put remembered_cmp _ t.remembered row h.remembered c
  remembered other c = h.remembered

  mail : (change : Change) → CleanChange change → AllByRecursion (λ row. clean_mail row ≡ true) (apply change t).mail
  mail (AddMail row) c = all_put mail_cmp _ t.mail row h.mail c
  mail (SetMail row) c = all_replace _ (same_mail row) row t.mail h.mail c
  mail other c = h.mail

  clean_after : (change : Change) → CleanChange change → CleanRows (apply change t)
  clean_after change c = record {
    hubs = hubs change c;
    keys = keys change c;
    prefixes = prefixes change c;
    orders = orders change c;
    lines = lines change c;
    advices = advices change c;
    pallets = pallets change c;
    contents = contents change c;
    receipts = receipts change c;
    remembered = remembered change c;
    mail = mail change c;
  }

pub clean_all : (changes : List Change) (t : Tables)
    → AllByRecursion CleanChange changes
    → CleanRows t
    → CleanRows (apply_all changes t)
clean_all [] t all h = h
clean_all (change ∷ changes) t all h = clean_all changes (apply change t) all.1 (clean_after t h change all.0)
