use Rattle.std.proofs.Common.{◌≡◌, ◌∙◌, List, IfOk, map, find, filter, subst, ap}
use Rattle.std.specs.List.{filter_map}
use Rattle.hub_tables.specs.Rows.{same}
use Rattle.hub_tables.specs.declared.rows.PalletRow.{PalletRow}
use Rattle.hub_tables.proofs.KindOrders.{pallet_total}
use Rattle.hub_tables.proofs.Lists.{all_filter}
use Rattle.trial_lists.specs.Index.{owned_key}
use Rattle.trial_rows.specs.Alike.{same_bytes}
use Rattle.trial_lists.specs.declared.index.PalletKey.{PalletKey}
use Rattle.trial_lists.proofs.Filters.{filter_true}
use Rattle.trial_lists.proofs.Indexing.{Again, all_again, found_again}
use Rattle.trial_lists.proofs.look.pallets_from.Goals as goal

pub returns : goal.returns
returns c =
    let gln = c.args.supplier.now in
    let pallets = c.args.pallets.now in
    let wanted = λ (key : PalletKey) (row : PalletRow). same row.sscc key.sscc in
    let exact = λ (x y : PalletRow). same_bytes y.sscc x.sscc in
    let from = λ (row : PalletRow). same row.supplier gln in
    let keys = c.rows_at.ensures ∙ c.requires.owned.each gln ∙ ap (map owned_key) (filter_true (filter from pallets)) in
    let all = all_filter (Again pallet_total owned_key wanted exact pallets) from pallets
    (all_again pallet_total owned_key wanted exact pallets c.requires.pallets) in
    let again = found_again pallet_total owned_key wanted exact pallets (filter from pallets) all in
    subst (λ (rows : List PalletRow). IfOk c.copies_at.result (λ found. found ≡ rows))
    (ap (filter_map (λ (key : PalletKey). find (wanted key) pallets)) keys ∙ again) c.copies_at.ensures
