-- Shows that a supplier's rows stay its own after each change that belongs to it.
use Rattle.std.proofs.Common.{◌≡◌, []}
use Rattle.std.specs.List.{AllByRecursion}
use Rattle.hub_parties.specs.declared.row.SupplierRow.{SupplierRow}
use Rattle.hub_tables.specs.Change.{apply}
use Rattle.hub_tables.specs.Rows.{order_cmp, line_cmp, advice_cmp, pallet_cmp, remembered_cmp, mail_cmp, same_line, same_pallet, same_mail}
use Rattle.hub_tables.specs.Tables.{Tables}
use Rattle.hub_tables.specs.declared.change.Change.{Change}
use Rattle.hub_tables.specs.declared.change.Change.TheVariants.{AddHub, SetHub, AddKey, SetKey, AddPrefix}
use Rattle.hub_tables.specs.declared.change.Change.TheVariants.{AddOrder, AddLine, SetLine, AddAdvice, AddPallet, SetPallet}
use Rattle.hub_tables.specs.declared.change.Change.TheVariants.{AddContent, AddReceipt, Remember, AddMail, SetMail}
use Rattle.hub_tables.proofs.KeyOrder.{all_put}
use Rattle.hub_tables.proofs.KindOrders.{ordered_after}
use Rattle.hub_tables.proofs.Lists.{all_replace}
use Rattle.hub_rules.specs.Sound.{IsOwn}
use Rattle.hub_rules.proofs.Belonging.{Belongs}
use Rattle.hub_rules.proofs.OnPallets.{OnPallet, contents_after, receipts_after}

-- the rows of each kind after a change that belongs to the supplier
module _ (s : SupplierRow) (state : Tables) (own : IsOwn s.gln state) where
  no_hubs : (change : Change) → Belongs s state change → (apply change state).hubs ≡ []
  no_hubs (AddHub r) h = absurd h
  no_hubs (SetHub r) h = absurd h
  no_hubs other h = own.hubs

  keys : (change : Change) → Belongs s state change → AllByRecursion (λ row. row.supplier ≡ s.gln) (apply change state).keys
  keys (AddKey r) h = absurd h
  keys (SetKey r) h = absurd h
  keys other h = own.keys

  prefixes : (change : Change) → Belongs s state change → AllByRecursion (λ row. row.supplier ≡ s.gln) (apply change state).prefixes
  prefixes (AddPrefix r) h = absurd h
  prefixes other h = own.prefixes

  orders : (change : Change) → Belongs s state change → AllByRecursion (λ row. row.supplier ≡ s.gln) (apply change state).orders
  orders (AddOrder r) h = all_put order_cmp (λ row. row.supplier ≡ s.gln) state.orders r own.orders h
  orders other h = own.orders

  lines : (change : Change) → Belongs s state change → AllByRecursion (λ row. row.supplier ≡ s.gln) (apply change state).lines
  lines (AddLine r) h = all_put line_cmp (λ row. row.supplier ≡ s.gln) state.lines r own.lines h
  lines (SetLine r) h = all_replace (λ row. row.supplier ≡ s.gln) (same_line r) r state.lines own.lines h
  lines other h = own.lines

  advices : (change : Change) → Belongs s state change → AllByRecursion (λ row. row.supplier ≡ s.gln) (apply change state).advices
  advices (AddAdvice r) h = all_put advice_cmp (λ row. row.supplier ≡ s.gln) state.advices r own.advices h
  advices other h = own.advices

  pallets : (change : Change) → Belongs s state change → AllByRecursion (λ row. row.supplier ≡ s.gln) (apply change state).pallets
  pallets (AddPallet r) h = all_put pallet_cmp (λ row. row.supplier ≡ s.gln) state.pallets r own.pallets h.0
  pallets (SetPallet r) h = all_replace (λ row. row.supplier ≡ s.gln) (same_pallet r) r state.pallets own.pallets h.0
  pallets other h = own.pallets

  remembered : (change : Change) → Belongs s state change → AllByRecursion (λ row. row.supplier ≡ s.gln) (apply change state).remembered
  remembered (Remember r) h = all_put remembered_cmp (λ row. row.supplier ≡ s.gln) state.remembered r own.remembered h
  remembered other h = own.remembered

  mail : (change : Change) → Belongs s state change → AllByRecursion (λ row. row.supplier ≡ s.gln) (apply change state).mail
  mail (AddMail r) h = all_put mail_cmp (λ row. row.supplier ≡ s.gln) state.mail r own.mail h
  mail (SetMail r) h = all_replace (λ row. row.supplier ≡ s.gln) (same_mail r) r state.mail own.mail h
  mail other h = own.mail

on_pallet : (s : SupplierRow) (state : Tables) (change : Change) → Belongs s state change → OnPallet state change
on_pallet s state (AddContent r) h = h
on_pallet s state (AddReceipt r) h = h
on_pallet s state other h = tt

-- what a change that belongs to the supplier leaves is the supplier's
pub own_after : (s : SupplierRow) (state : Tables) (change : Change)
    → Belongs s state change
    → IsOwn s.gln state
    → IsOwn s.gln (apply change state)
own_after s state change h own = record {
  ordered = ordered_after change state own.ordered;
  hubs = no_hubs s state own change h;
  keys = keys s state own change h;
  prefixes = prefixes s state own change h;
  orders = orders s state own change h;
  lines = lines s state own change h;
  advices = advices s state own change h;
  pallets = pallets s state own change h;
  contents = contents_after state change (on_pallet s state change h) own.contents;
  receipts = receipts_after state change (on_pallet s state change h) own.receipts;
  remembered = remembered s state own change h;
  mail = mail s state own change h;
}
