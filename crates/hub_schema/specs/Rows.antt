-- Defines what each stored SQL row means as a row of the hub's tables. Columns are counted from 1, because the row
-- number comes first.
use Rattle.std.specs.Prelude.{List, map, fold, []}
use Rattle.std.specs.declared.cmp.Ordering.{Ordering}
use Rattle.sqlite_value.specs.Order.{Row, column}
use Rattle.sqlite_trees.specs.Tree.{Trees}
use Rattle.hub_parties.specs.KeyOrder.{put}
use Rattle.hub_tables.specs.Rows.{order_cmp, line_cmp, advice_cmp, pallet_cmp, content_cmp, receipt_cmp, remembered_cmp}
use Rattle.hub_tables.specs.Rows.{mail_cmp, hub_cmp, key_cmp, prefix_cmp}
use Rattle.hub_tables.specs.Tables.{Tables}
use Rattle.hub_tables.specs.declared.rows.HubRow.{HubRow}
use Rattle.hub_tables.specs.declared.rows.KeyRow.{KeyRow}
use Rattle.hub_tables.specs.declared.rows.PrefixRow.{PrefixRow}
use Rattle.hub_tables.specs.declared.rows.OrderRow.{OrderRow}
use Rattle.hub_tables.specs.declared.rows.LineRow.{LineRow}
use Rattle.hub_tables.specs.declared.rows.AdviceRow.{AdviceRow}
use Rattle.hub_tables.specs.declared.rows.PalletRow.{PalletRow}
use Rattle.hub_tables.specs.declared.rows.ContentRow.{ContentRow}
use Rattle.hub_tables.specs.declared.rows.ReceiptRow.{ReceiptRow}
use Rattle.hub_tables.specs.declared.rows.RememberedRow.{RememberedRow}
use Rattle.hub_tables.specs.declared.rows.MailRow.{MailRow}
use Rattle.hub_schema.specs.Cells.{bytes_in, number_in}
use Rattle.hub_schema.specs.Schema.{order_table, line_table, advice_table, pallet_table, content_table, receipt_table}
use Rattle.hub_schema.specs.Schema.{remembered_table, mail_table, hub_table, supplier_table, prefix_table}

abbrev pub hub_row_in : Row → HubRow
hub_row_in row = record {
  hub = bytes_in (column row 1);
  retailer = bytes_in (column row 2);
  key = bytes_in (column row 3);
}

abbrev pub key_row_in : Row → KeyRow
key_row_in row = record { supplier = bytes_in (column row 1); key = bytes_in (column row 2) }

abbrev pub prefix_row_in : Row → PrefixRow
prefix_row_in row = record { prefix = bytes_in (column row 1); supplier = bytes_in (column row 2) }

abbrev pub order_in : Row → OrderRow
order_in row = record { supplier = bytes_in (column row 1); number = bytes_in (column row 2) }

abbrev pub line_in : Row → LineRow
line_in row = record {
  supplier = bytes_in (column row 1);
  number = bytes_in (column row 2);
  line = number_in (column row 3);
  gtin = bytes_in (column row 4);
  ordered = number_in (column row 5);
  open_qty = number_in (column row 6);
  refused = number_in (column row 7);
  cancelled = number_in (column row 8);
  answer = number_in (column row 9);
}

abbrev pub advice_in : Row → AdviceRow
advice_in row = record { supplier = bytes_in (column row 1); number = bytes_in (column row 2) }

abbrev pub pallet_in : Row → PalletRow
pallet_in row = record {
  sscc = bytes_in (column row 1);
  supplier = bytes_in (column row 2);
  advice = bytes_in (column row 3);
  received = number_in (column row 4);
}

abbrev pub content_in : Row → ContentRow
content_in row = record {
  sscc = bytes_in (column row 1);
  place = number_in (column row 2);
  number = bytes_in (column row 3);
  line = number_in (column row 4);
  quantity = number_in (column row 5);
}

abbrev pub receipt_in : Row → ReceiptRow
receipt_in row = record {
  sscc = bytes_in (column row 1);
  gtin = bytes_in (column row 2);
  accepted = number_in (column row 3);
  returned = number_in (column row 4);
  destroyed = number_in (column row 5);
}

abbrev pub remembered_in : Row → RememberedRow
remembered_in row = record {
  supplier = bytes_in (column row 1);
  side = number_in (column row 2);
  control = bytes_in (column row 3);
  message = bytes_in (column row 4);
  content = bytes_in (column row 5);
}

abbrev pub mail_in : Row → MailRow
mail_in row = record {
  supplier = bytes_in (column row 1);
  number = number_in (column row 2);
  moment = number_in (column row 3);
  decimal = number_in (column row 4);
  kind = number_in (column row 5);
  document = bytes_in (column row 6);
  body = bytes_in (column row 7);
  taken = number_in (column row 8);
}

-- the rows in the order of their keys, inserted one after another
abbrev pub in_key_order : {X : Type 0} → (X → X → Ordering) → List X → List X
in_key_order cmp = fold (λ sorted row. put cmp row sorted) []

-- the hub's tables, as read from the stored rows of all SQL tables
abbrev pub tables_in : Trees → Tables
tables_in trees = record {
  hubs = in_key_order hub_cmp (map hub_row_in (trees hub_table.tree));
  keys = in_key_order key_cmp (map key_row_in (trees supplier_table.tree));
  prefixes = in_key_order prefix_cmp (map prefix_row_in (trees prefix_table.tree));
  orders = in_key_order order_cmp (map order_in (trees order_table.tree));
  lines = in_key_order line_cmp (map line_in (trees line_table.tree));
  advices = in_key_order advice_cmp (map advice_in (trees advice_table.tree));
  pallets = in_key_order pallet_cmp (map pallet_in (trees pallet_table.tree));
  contents = in_key_order content_cmp (map content_in (trees content_table.tree));
  receipts = in_key_order receipt_cmp (map receipt_in (trees receipt_table.tree));
  remembered = in_key_order remembered_cmp (map remembered_in (trees remembered_table.tree));
  mail = in_key_order mail_cmp (map mail_in (trees mail_table.tree));
}

-- the tables of a file of schema 1, which has no tables for a register
abbrev pub traffic_in : Trees → Tables
traffic_in trees = record (tables_in trees) { hubs = []; keys = []; prefixes = [] }
