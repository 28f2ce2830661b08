-- Defines what a store contains, a set of rows for each kind, and which of these rows one supplier sees. Each set is
-- the list of its rows in the order of their keys, so equal sets are equal values. A supplier's view has the same
-- shape.
use Rattle.std.specs.Prelude.{ℕ, Bool, ◌&&◌, List, [], filter}
use Rattle.std.specs.List.{list_any}
use Rattle.hub_parties.specs.KeyOrder.{InOrder}
use Rattle.hub_tables.specs.Rows.{hub_cmp, key_cmp, prefix_cmp}
use Rattle.hub_tables.specs.Rows.{same, order_cmp, line_cmp, advice_cmp, pallet_cmp, content_cmp, receipt_cmp}
use Rattle.hub_tables.specs.Rows.{remembered_cmp, mail_cmp}
use Rattle.hub_tables.specs.declared.rows.HubRow.{HubRow}
use Rattle.hub_tables.specs.declared.rows.KeyRow.{KeyRow}
use Rattle.hub_tables.specs.declared.rows.PrefixRow.{PrefixRow}
use Rattle.hub_tables.specs.declared.rows.OrderRow.{OrderRow}
use Rattle.hub_tables.specs.declared.rows.LineRow.{LineRow}
use Rattle.hub_tables.specs.declared.rows.AdviceRow.{AdviceRow}
use Rattle.hub_tables.specs.declared.rows.PalletRow.{PalletRow}
use Rattle.hub_tables.specs.declared.rows.ContentRow.{ContentRow}
use Rattle.hub_tables.specs.declared.rows.ReceiptRow.{ReceiptRow}
use Rattle.hub_tables.specs.declared.rows.RememberedRow.{RememberedRow}
use Rattle.hub_tables.specs.declared.rows.MailRow.{MailRow}

pub record Tables : Type 0 where
  pub hubs : List HubRow
  pub keys : List KeyRow
  pub prefixes : List PrefixRow
  pub orders : List OrderRow
  pub lines : List LineRow
  pub advices : List AdviceRow
  pub pallets : List PalletRow
  pub contents : List ContentRow
  pub receipts : List ReceiptRow
  pub remembered : List RememberedRow
  pub mail : List MailRow

-- the rows of each kind are in the order of their keys
pub record Ordered (t : Tables) : Type 0 where
  pub hubs : InOrder hub_cmp t.hubs
  pub keys : InOrder key_cmp t.keys
  pub prefixes : InOrder prefix_cmp t.prefixes
  pub orders : InOrder order_cmp t.orders
  pub lines : InOrder line_cmp t.lines
  pub advices : InOrder advice_cmp t.advices
  pub pallets : InOrder pallet_cmp t.pallets
  pub contents : InOrder content_cmp t.contents
  pub receipts : InOrder receipt_cmp t.receipts
  pub remembered : InOrder remembered_cmp t.remembered
  pub mail : InOrder mail_cmp t.mail

-- whether some pallet has this SSCC
abbrev pub has_pallet : Tables → List ℕ → Bool
has_pallet t sscc = list_any (λ pallet. same pallet.sscc sscc) t.pallets

-- whether some pallet of the supplier has this SSCC
abbrev pub holds : List ℕ → List PalletRow → List ℕ → Bool
holds supplier pallets sscc = list_any (λ pallet. same pallet.supplier supplier && same pallet.sscc sscc) pallets

-- the rows that a supplier sees: not the hub's row, and only the contents and receipts of its own pallets
abbrev pub view : List ℕ → Tables → Tables
view supplier t = record {
  hubs = [];
  keys = filter (λ row. same row.supplier supplier) t.keys;
  prefixes = filter (λ row. same row.supplier supplier) t.prefixes;
  orders = filter (λ row. same row.supplier supplier) t.orders;
  lines = filter (λ row. same row.supplier supplier) t.lines;
  advices = filter (λ row. same row.supplier supplier) t.advices;
  pallets = filter (λ row. same row.supplier supplier) t.pallets;
  contents = filter (λ row. holds supplier t.pallets row.sscc) t.contents;
  receipts = filter (λ row. holds supplier t.pallets row.sscc) t.receipts;
  remembered = filter (λ row. same row.supplier supplier) t.remembered;
  mail = filter (λ row. same row.supplier supplier) t.mail;
}

abbrev pub empty : Tables
empty = record {
  hubs = [];
  keys = [];
  prefixes = [];
  orders = [];
  lines = [];
  advices = [];
  pallets = [];
  contents = [];
  receipts = [];
  remembered = [];
  mail = [];
}
