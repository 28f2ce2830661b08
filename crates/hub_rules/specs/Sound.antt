-- Defines when the tables of a hub are sound, first for the rows of one supplier, then for all rows.
use Rattle.std.specs.Prelude.{◌≡◌, ℕ, ◌+◌, ◌==◌, Bool, true, false, not, ◌&&◌, List, [], ◌∷◌, filter, Some, ⊤}
use Rattle.std.specs.List.{AllByRecursion, list_any}
use Rattle.gs1_ids.specs.Sscc.{under_some}
use Rattle.hub_parties.specs.Rows.{supplier_row}
use Rattle.hub_parties.specs.declared.row.SupplierRow.{SupplierRow}
use Rattle.hub_tables.specs.Rows.{same}
use Rattle.hub_tables.specs.State.{knows_order, despatched, is_announced}
use Rattle.hub_tables.specs.Tables.{Tables, Ordered, has_pallet, view}
use Rattle.hub_tables.specs.declared.rows.OrderRow.{OrderRow}
use Rattle.hub_tables.specs.declared.rows.LineRow.{LineRow}
use Rattle.hub_tables.specs.declared.rows.AdviceRow.{AdviceRow}
use Rattle.hub_tables.specs.declared.rows.PalletRow.{PalletRow}
use Rattle.hub_tables.specs.declared.rows.ContentRow.{ContentRow}
use Rattle.hub_tables.specs.declared.rows.ReceiptRow.{ReceiptRow}
use Rattle.hub_tables.specs.declared.rows.RememberedRow.{RememberedRow}
use Rattle.hub_tables.specs.declared.rows.MailRow.{MailRow}

-- the line balance: the ordered quantity is what is open, refused, cancelled and despatched together
abbrev pub Balanced : Tables → LineRow → Type 0
Balanced state line = line.ordered ≡ line.open_qty + line.refused + line.cancelled + despatched state line

-- no two rows have the same key
abbrev pub Single : {X : Type 0} → (X → X → Bool) → List X → Type 0
Single alike [] = ⊤
Single alike (x ∷ xs) = (list_any (alike x) xs ≡ false) × Single alike xs

-- When two rows of one supplier have the same key; contents and receipts are compared within one pallet.
abbrev pub same_order : OrderRow → OrderRow → Bool
same_order a b = same a.number b.number

abbrev pub same_line_number : LineRow → LineRow → Bool
same_line_number a b = same a.number b.number && (a.line == b.line)

abbrev pub same_advice : AdviceRow → AdviceRow → Bool
same_advice a b = same a.number b.number

abbrev pub same_sscc : PalletRow → PalletRow → Bool
same_sscc a b = same a.sscc b.sscc

abbrev pub same_place : ContentRow → ContentRow → Bool
same_place a b = a.place == b.place

abbrev pub same_gtin : ReceiptRow → ReceiptRow → Bool
same_gtin a b = same a.gtin b.gtin

abbrev pub same_reference : RememberedRow → RememberedRow → Bool
same_reference a b = (a.side == b.side) && (same a.control b.control && same a.message b.message)

abbrev pub knows_line : Tables → List ℕ → ℕ → Bool
knows_line state number n = list_any (λ line. same line.number number && (line.line == n)) state.lines

-- whether a pallet with this SSCC was received
abbrev pub was_received : Tables → List ℕ → Bool
was_received state sscc = list_any (λ pallet. same pallet.sscc sscc && not (is_announced pallet)) state.pallets

-- the mailbox entries are numbered without gaps, from `n` + 1 on
abbrev pub Numbered : ℕ → List MailRow → Type 0
Numbered n [] = ⊤
Numbered n (entry ∷ entries) = (entry.number ≡ n + 1) × Numbered (n + 1) entries

-- each row belongs to the supplier with this GLN, and each content and receipt to one of these pallets
pub record IsOwn (gln : List ℕ) (state : Tables) : Type 0 where
  pub ordered : Ordered state
  pub hubs : state.hubs ≡ []
  pub keys : AllByRecursion (λ row. row.supplier ≡ gln) state.keys
  pub prefixes : AllByRecursion (λ row. row.supplier ≡ gln) state.prefixes
  pub orders : AllByRecursion (λ order. order.supplier ≡ gln) state.orders
  pub lines : AllByRecursion (λ line. line.supplier ≡ gln) state.lines
  pub advices : AllByRecursion (λ advice. advice.supplier ≡ gln) state.advices
  pub pallets : AllByRecursion (λ pallet. pallet.supplier ≡ gln) state.pallets
  pub contents : AllByRecursion (λ content. has_pallet state content.sscc ≡ true) state.contents
  pub receipts : AllByRecursion (λ receipt. has_pallet state receipt.sscc ≡ true) state.receipts
  pub remembered : AllByRecursion (λ row. row.supplier ≡ gln) state.remembered
  pub mail : AllByRecursion (λ entry. entry.supplier ≡ gln) state.mail

-- No key occurs twice; each line has its order, each content its line, and each receipt a pallet that was received;
-- mailbox entries are numbered from 1; and every line is balanced.
pub record Kept (state : Tables) : Type 0 where
  pub orders : Single same_order state.orders
  pub lines : Single same_line_number state.lines
  pub advices : Single same_advice state.advices
  pub pallets : Single same_sscc state.pallets
  pub contents : (sscc : List ℕ) → Single same_place (filter (λ content. same content.sscc sscc) state.contents)
  pub receipts : (sscc : List ℕ) → Single same_gtin (filter (λ receipt. same receipt.sscc sscc) state.receipts)
  pub remembered : Single same_reference state.remembered
  pub mail : Numbered 0 state.mail
  pub line_orders : AllByRecursion (λ line. knows_order state line.number ≡ true) state.lines
  pub content_lines : AllByRecursion (λ content. knows_line state content.number content.line ≡ true) state.contents
  pub receipt_pallets : AllByRecursion (λ receipt. was_received state receipt.sscc ≡ true) state.receipts
  pub balanced : AllByRecursion (Balanced state) state.lines

-- a pallet's supplier is known, and its SSCC is under one of that supplier's prefixes
pub record IsRooted (suppliers : List SupplierRow) (pallet : PalletRow) : Type 0 where
  pub supplier : SupplierRow
  pub known : supplier_row suppliers pallet.supplier ≡ Some supplier
  pub is_under : under_some pallet.sscc supplier.prefixes ≡ true

-- rows are in key order, each pallet is rooted, and each content and receipt has its pallet
pub record Rooted (suppliers : List SupplierRow) (t : Tables) : Type 0 where
  pub ordered : Ordered t
  pub pallets : AllByRecursion (IsRooted suppliers) t.pallets
  pub contents : AllByRecursion (λ content. has_pallet t content.sscc ≡ true) t.contents
  pub receipts : AllByRecursion (λ receipt. has_pallet t receipt.sscc ≡ true) t.receipts

-- Rows are in key order, each pallet's supplier is registered and has a prefix for its SSCC, each content and receipt
-- has its pallet, and what each supplier sees is sound by itself.
pub record Sound (suppliers : List SupplierRow) (t : Tables) : Type 0 where
  pub rooted : Rooted suppliers t
  pub kept : (gln : List ℕ) → Kept (view gln t)
