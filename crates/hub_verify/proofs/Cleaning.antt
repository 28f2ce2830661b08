-- Tables of which each kind is clean are clean.
use Rattle.std.proofs.Common.{◌≡◌, true}
use Rattle.std.specs.List.{list_all}
use Rattle.std.proofs.lemmas.Bool.{and_from}
use Rattle.hub_store.specs.Clean.{are_clean, clean_hub, clean_key, clean_prefix, clean_order, clean_line, clean_advice, clean_pallet}
use Rattle.hub_store.specs.Clean.{clean_content, clean_receipt, clean_remembered, clean_mail}
use Rattle.hub_tables.specs.Tables.{Tables}
use Rattle.hub_verify.specs.Clean.{PartiesAreClean, OrdersAreClean, GoodsAreClean, MailIsClean}

pub all_clean : (t : Tables) → PartiesAreClean t → OrdersAreClean t → GoodsAreClean t → MailIsClean t → are_clean t ≡ true
all_clean t p o g m =
    and_from (list_all clean_hub t.hubs) _ p.hubs
    (and_from (list_all clean_key t.keys) _ p.keys
    (and_from (list_all clean_prefix t.prefixes) _ p.prefixes
    (and_from (list_all clean_order t.orders) _ o.orders
    (and_from (list_all clean_line t.lines) _ o.lines
    (and_from (list_all clean_advice t.advices) _ o.advices
    (and_from (list_all clean_pallet t.pallets) _ g.pallets
    (and_from (list_all clean_content t.contents) _ g.contents
    (and_from (list_all clean_receipt t.receipts) _ g.receipts
    (and_from (list_all clean_remembered t.remembered) (list_all clean_mail t.mail) m.remembered m.mail)))))))))
