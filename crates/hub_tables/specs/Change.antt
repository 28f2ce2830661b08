-- Defines how changes alter tables.
use Rattle.std.specs.Prelude.{List, [], ◌∷◌, filter, not}
use Rattle.hub_parties.specs.KeyOrder.{put, replace}
use Rattle.hub_tables.specs.Rows.{hub_cmp, key_cmp, prefix_cmp}
use Rattle.hub_tables.specs.Rows.{order_cmp, line_cmp, advice_cmp, pallet_cmp, content_cmp, receipt_cmp, remembered_cmp}
use Rattle.hub_tables.specs.Rows.{mail_cmp, same, same_hub, same_key, same_line, same_pallet, same_mail}
use Rattle.hub_tables.specs.Tables.{Tables}
use Rattle.hub_tables.specs.declared.change.Change.{Change}
use Rattle.hub_tables.specs.declared.change.Change.TheVariants.{AddHub, SetHub, AddKey, SetKey, AddPrefix}
use Rattle.hub_tables.specs.declared.change.Change.TheVariants.{AddOrder, AddLine, SetLine, AddAdvice, AddPallet}
use Rattle.hub_tables.specs.declared.change.Change.TheVariants.{SetPallet, AddContent, AddReceipt, ClearReceipts, Remember, AddMail}
use Rattle.hub_tables.specs.declared.change.Change.TheVariants.{SetMail}

abbrev pub apply : Change → Tables → Tables
apply (AddHub row) t = record t { hubs = put hub_cmp row t.hubs }
apply (SetHub row) t = record t { hubs = replace (same_hub row) row t.hubs }
apply (AddKey row) t = record t { keys = put key_cmp row t.keys }
apply (SetKey row) t = record t { keys = replace (same_key row) row t.keys }
apply (AddPrefix row) t = record t { prefixes = put prefix_cmp row t.prefixes }
apply (AddOrder row) t = record t { orders = put order_cmp row t.orders }
apply (AddLine row) t = record t { lines = put line_cmp row t.lines }
apply (SetLine row) t = record t { lines = replace (same_line row) row t.lines }
apply (AddAdvice row) t = record t { advices = put advice_cmp row t.advices }
apply (AddPallet row) t = record t { pallets = put pallet_cmp row t.pallets }
apply (SetPallet row) t = record t { pallets = replace (same_pallet row) row t.pallets }
apply (AddContent row) t = record t { contents = put content_cmp row t.contents }
apply (AddReceipt row) t = record t { receipts = put receipt_cmp row t.receipts }
apply (ClearReceipts sscc) t = record t { receipts = filter (λ row. not (same row.sscc sscc)) t.receipts }
apply (Remember row) t = record t { remembered = put remembered_cmp row t.remembered }
apply (AddMail row) t = record t { mail = put mail_cmp row t.mail }
apply (SetMail row) t = record t { mail = replace (same_mail row) row t.mail }

-- applies the changes one after another
abbrev pub apply_all : List Change → Tables → Tables
apply_all [] t = t
apply_all (change ∷ changes) t = apply_all changes (apply change t)
