-- Defines the order of each kind, and shows what changes do to its rows, and that they keep the order.
use Rattle.std.proofs.Common.{◌≡◌, ℕ, Bool, true, false, cond, not, List, [], ◌∷◌, ◌&&◌, ◌==◌, refl, sym, ap₂, arith}
use Rattle.std.specs.declared.cmp.Ordering.{Ordering}
use Rattle.std.specs.Ordering.{nat_cmp, ordering_then}
use Rattle.std.specs.Cmp.{IsTotalOrder}
use Rattle.std.proofs.lemmas.Bool.{and_parts}
use Rattle.std.proofs.lemmas.Bool.Decides.{nat_tests}
use Rattle.std.proofs.lemmas.Cmp.{on_total, then_total, nat_cmp_total, nat_list_cmp_total}
use Rattle.hub_parties.specs.KeyOrder.{bytes_cmp, InOrder, put, replace}
use Rattle.hub_tables.specs.Rows.{hub_cmp, key_cmp, prefix_cmp}
use Rattle.hub_tables.specs.Rows.{same, order_cmp, line_cmp, advice_cmp, pallet_cmp, content_cmp, receipt_cmp}
use Rattle.hub_tables.specs.Rows.{remembered_cmp, mail_cmp, same_hub, same_key, same_line, same_pallet, same_mail}
use Rattle.hub_tables.specs.Tables.{Tables, Ordered}
use Rattle.hub_tables.specs.Change.{apply, apply_all}
use Rattle.hub_tables.specs.declared.change.Change.{Change}
use Rattle.hub_tables.specs.declared.change.Change.TheVariants.{AddHub, SetHub, AddKey, SetKey, AddPrefix}
use Rattle.hub_tables.specs.declared.change.Change.TheVariants.{AddOrder, AddLine, SetLine, AddAdvice, AddPallet, SetPallet}
use Rattle.hub_tables.specs.declared.change.Change.TheVariants.{AddContent, AddReceipt, ClearReceipts, Remember, AddMail, SetMail}
use Rattle.hub_tables.specs.declared.rows.HubRow.{HubRow}
use Rattle.hub_tables.specs.declared.rows.KeyRow.{KeyRow}
use Rattle.hub_tables.specs.declared.rows.LineRow.{LineRow}
use Rattle.hub_tables.specs.declared.rows.PalletRow.{PalletRow}
use Rattle.hub_tables.specs.declared.rows.MailRow.{MailRow}
use Rattle.hub_tables.proofs.Lists.{same_is}
use Rattle.hub_tables.proofs.KeyOrder.{in_order_put, in_order_map, in_order_filter}

pub hub_total : IsTotalOrder hub_cmp
hub_total = on_total (λ r. r.hub) nat_list_cmp_total

pub key_total : IsTotalOrder key_cmp
key_total = on_total (λ r. r.supplier) nat_list_cmp_total

pub prefix_total : IsTotalOrder prefix_cmp
prefix_total = on_total (λ r. r.prefix) nat_list_cmp_total

pub order_total : IsTotalOrder order_cmp
order_total = then_total (on_total (λ r. r.supplier) nat_list_cmp_total) (on_total (λ r. r.number) nat_list_cmp_total)

pub line_total : IsTotalOrder line_cmp
line_total =
    then_total (on_total (λ r. r.supplier) nat_list_cmp_total)
    (then_total (on_total (λ r. r.number) nat_list_cmp_total) (on_total (λ r. r.line) nat_cmp_total))

pub advice_total : IsTotalOrder advice_cmp
advice_total = then_total (on_total (λ r. r.supplier) nat_list_cmp_total) (on_total (λ r. r.number) nat_list_cmp_total)

pub pallet_total : IsTotalOrder pallet_cmp
pallet_total = on_total (λ r. r.sscc) nat_list_cmp_total

pub content_total : IsTotalOrder content_cmp
content_total = then_total (on_total (λ r. r.sscc) nat_list_cmp_total) (on_total (λ r. r.place) nat_cmp_total)

pub receipt_total : IsTotalOrder receipt_cmp
receipt_total = then_total (on_total (λ r. r.sscc) nat_list_cmp_total) (on_total (λ r. r.gtin) nat_list_cmp_total)

pub remembered_total : IsTotalOrder remembered_cmp
remembered_total =
    then_total (on_total (λ r. r.supplier) nat_list_cmp_total) (then_total (on_total (λ r. r.side) nat_cmp_total)
    (then_total (on_total (λ r. r.control) nat_list_cmp_total) (on_total (λ r. r.message) nat_list_cmp_total)))

pub mail_total : IsTotalOrder mail_cmp
mail_total = then_total (on_total (λ r. r.supplier) nat_list_cmp_total) (on_total (λ r. r.number) nat_cmp_total)

-- replacing a row by one with its key does not change comparisons
replaced_alike : {X K : Type 0} (key : X → K) (cmp : K → K → Ordering) (at : X → Bool) (r : X) → ((y : X) → at y ≡ true → key y ≡ key r)
    → (x y : X) → cmp (key (cond (at x) r x)) (key (cond (at y) r y)) ≡ cmp (key x) (key y)
replaced_alike key cmp at r f x y = ap₂ cmp (one x) (one y)
  where
    one : (z : _) → key (cond (at z) r z) ≡ key z
    one z = elim (at z) as (λ v. at z ≡ v → key (cond v r z) ≡ key z) [ true ↦ λ e. sym (f z e) | false ↦ λ e. refl ] refl

-- a replacing row has the key of the row that it replaces
pub line_key : (r y : LineRow) → same_line r y ≡ true → (y.supplier ≡ r.supplier) × (y.number ≡ r.number) × (y.line ≡ r.line)
line_key r y e =
    let parts = and_parts (same y.supplier r.supplier) (same y.number r.number && (y.line == r.line)) e in
    let rest = and_parts (same y.number r.number) (y.line == r.line) parts.1 in
    (same_is y.supplier r.supplier parts.0, same_is y.number r.number rest.0, grind (arith, nat_tests, rest.1))

pub mail_key : (r y : MailRow) → same_mail r y ≡ true → (y.supplier ≡ r.supplier) × (y.number ≡ r.number)
mail_key r y e =
    let parts = and_parts (same y.supplier r.supplier) (y.number == r.number) e in
    (same_is y.supplier r.supplier parts.0, grind (arith, nat_tests, parts.1))

pub hub_set : (r x y : HubRow) → hub_cmp (cond (same_hub r x) r x) (cond (same_hub r y) r y) ≡ hub_cmp x y
hub_set r = replaced_alike (λ (h : HubRow). h.hub) bytes_cmp (same_hub r) r (λ y e. same_is y.hub r.hub e)

pub key_set : (r x y : KeyRow) → key_cmp (cond (same_key r x) r x) (cond (same_key r y) r y) ≡ key_cmp x y
key_set r = replaced_alike (λ (k : KeyRow). k.supplier) bytes_cmp (same_key r) r (λ y e. same_is y.supplier r.supplier e)

pub line_set : (r x y : LineRow) → line_cmp (cond (same_line r x) r x) (cond (same_line r y) r y) ≡ line_cmp x y
line_set r =
    replaced_alike {K = List ℕ × List ℕ × ℕ} (λ l. (l.supplier, l.number, l.line))
    (λ a b. ordering_then (bytes_cmp a.0 b.0) (ordering_then (bytes_cmp a.1 b.1) (nat_cmp a.2 b.2))) (same_line r) r
    (λ y e. let key = line_key r y e in λ i. (key.0 i, key.1 i, key.2 i))

pub pallet_set : (r x y : PalletRow) → pallet_cmp (cond (same_pallet r x) r x) (cond (same_pallet r y) r y) ≡ pallet_cmp x y
pallet_set r = replaced_alike (λ (p : PalletRow). p.sscc) bytes_cmp (same_pallet r) r (λ y e. same_is y.sscc r.sscc e)

pub mail_set : (r x y : MailRow) → mail_cmp (cond (same_mail r x) r x) (cond (same_mail r y) r y) ≡ mail_cmp x y
mail_set r =
    replaced_alike {K = List ℕ × ℕ} (λ m. (m.supplier, m.number))
    (λ a b. ordering_then (bytes_cmp a.0 b.0) (nat_cmp a.1 b.1)) (same_mail r) r
    (λ y e. let key = mail_key r y e in λ i. (key.0 i, key.1 i))

-- A relation between the rows of one kind before and after a change. It holds if they stay the same, if a row is
-- inserted, and if a row replaces the one with its key.
pub record KindRelation (R : (X : Type 0) → (X → X → Ordering) → List X → List X → Type 0) : Type 1 where
  pub stay : {X : Type 0} (cmp : X → X → Ordering) (rows : List X) → R X cmp rows rows
  pub add : {X : Type 0} (cmp : X → X → Ordering) → IsTotalOrder cmp → (rows : List X) (r : X) → R X cmp rows (put cmp r rows)
  pub set : {X : Type 0} (cmp : X → X → Ordering) (at : X → Bool) (r : X)
      → ((x y : X) → cmp (cond (at x) r x) (cond (at y) r y) ≡ cmp x y)
      → (rows : List X)
      → R X cmp rows (replace at r rows)

-- So it holds for each kind before and after any change; if rows are deleted, that must be shown.
module _ {R : (X : Type 0) → (X → X → Ordering) → List X → List X → Type 0} (steps : KindRelation R) where
  pub hubs_after : (c : Change) (t : Tables) → R _ hub_cmp t.hubs (apply c t).hubs
  hubs_after (AddHub r) t = steps.add hub_cmp hub_total t.hubs r
  hubs_after (SetHub r) t = steps.set hub_cmp (same_hub r) r (hub_set r) t.hubs
  hubs_after _ t = steps.stay hub_cmp t.hubs

  pub keys_after : (c : Change) (t : Tables) → R _ key_cmp t.keys (apply c t).keys
  keys_after (AddKey r) t = steps.add key_cmp key_total t.keys r
  keys_after (SetKey r) t = steps.set key_cmp (same_key r) r (key_set r) t.keys
  keys_after _ t = steps.stay key_cmp t.keys

  pub prefixes_after : (c : Change) (t : Tables) → R _ prefix_cmp t.prefixes (apply c t).prefixes
  prefixes_after (AddPrefix r) t = steps.add prefix_cmp prefix_total t.prefixes r
  prefixes_after _ t = steps.stay prefix_cmp t.prefixes

  pub orders_after : (c : Change) (t : Tables) → R _ order_cmp t.orders (apply c t).orders
  orders_after (AddOrder r) t = steps.add order_cmp order_total t.orders r
  orders_after _ t = steps.stay order_cmp t.orders

  pub lines_after : (c : Change) (t : Tables) → R _ line_cmp t.lines (apply c t).lines
  lines_after (AddLine r) t = steps.add line_cmp line_total t.lines r
  lines_after (SetLine r) t = steps.set line_cmp (same_line r) r (line_set r) t.lines
  lines_after _ t = steps.stay line_cmp t.lines

  pub advices_after : (c : Change) (t : Tables) → R _ advice_cmp t.advices (apply c t).advices
  advices_after (AddAdvice r) t = steps.add advice_cmp advice_total t.advices r
  advices_after _ t = steps.stay advice_cmp t.advices

  pub pallets_after : (c : Change) (t : Tables) → R _ pallet_cmp t.pallets (apply c t).pallets
  pallets_after (AddPallet r) t = steps.add pallet_cmp pallet_total t.pallets r
  pallets_after (SetPallet r) t = steps.set pallet_cmp (same_pallet r) r (pallet_set r) t.pallets
  pallets_after _ t = steps.stay pallet_cmp t.pallets

  pub contents_after : (c : Change) (t : Tables) → R _ content_cmp t.contents (apply c t).contents
  contents_after (AddContent r) t = steps.add content_cmp content_total t.contents r
  contents_after _ t = steps.stay content_cmp t.contents

  pub receipts_after : (c : Change) (t : Tables)
      → ((sscc : List ℕ) → c ≡ ClearReceipts sscc → R _ receipt_cmp t.receipts (apply (ClearReceipts sscc) t).receipts)
      → R _ receipt_cmp t.receipts (apply c t).receipts
  receipts_after (AddReceipt r) t less = steps.add receipt_cmp receipt_total t.receipts r
  receipts_after (ClearReceipts sscc) t less = less sscc refl
  receipts_after _ t less = steps.stay receipt_cmp t.receipts

  pub remembered_after : (c : Change) (t : Tables) → R _ remembered_cmp t.remembered (apply c t).remembered
  remembered_after (Remember r) t = steps.add remembered_cmp remembered_total t.remembered r
  remembered_after _ t = steps.stay remembered_cmp t.remembered

  pub mail_after : (c : Change) (t : Tables) → R _ mail_cmp t.mail (apply c t).mail
  mail_after (AddMail r) t = steps.add mail_cmp mail_total t.mail r
  mail_after (SetMail r) t = steps.set mail_cmp (same_mail r) r (mail_set r) t.mail
  mail_after _ t = steps.stay mail_cmp t.mail

-- each change keeps the order
abbrev StaysInOrder : (X : Type 0) → (X → X → Ordering) → List X → List X → Type 0
StaysInOrder X cmp rows after = InOrder cmp rows → InOrder cmp after

keep_order : KindRelation StaysInOrder
keep_order = record {
  stay = λ cmp rows h. h;
  add = λ cmp total. in_order_put total;
  set = λ cmp at r. in_order_map cmp (λ old. cond (at old) r old);
}

pub ordered_after : (c : Change) (t : Tables) → Ordered t → Ordered (apply c t)
ordered_after c t o = record {
  hubs = hubs_after keep_order c t o.hubs;
  keys = keys_after keep_order c t o.keys;
  prefixes = prefixes_after keep_order c t o.prefixes;
  orders = orders_after keep_order c t o.orders;
  lines = lines_after keep_order c t o.lines;
  advices = advices_after keep_order c t o.advices;
  pallets = pallets_after keep_order c t o.pallets;
  contents = contents_after keep_order c t o.contents;
  receipts = receipts_after keep_order c t
      (λ sscc _ _. in_order_filter receipt_cmp (λ row. not (same row.sscc sscc)) t.receipts o.receipts) o.receipts;
  remembered = remembered_after keep_order c t o.remembered;
  mail = mail_after keep_order c t o.mail;
}

pub ordered_after_all : (cs : List Change) (t : Tables) → Ordered t → Ordered (apply_all cs t)
ordered_after_all [] t o = o
ordered_after_all (c ∷ cs) t o = ordered_after_all cs (apply c t) (ordered_after c t o)
