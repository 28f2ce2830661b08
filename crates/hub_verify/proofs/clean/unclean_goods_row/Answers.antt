use Rattle.std.proofs.Common.{◌≡◌, true}
use Rattle.std.specs.List.{list_all}
use Rattle.hub_store.specs.Clean.{clean_content, clean_pallet, clean_receipt}
use Rattle.hub_tables.specs.Tables.{Tables}
use Rattle.hub_verify.specs.Clean.{GoodsAreClean}
use Rattle.hub_verify.proofs.Findings.{go_on, stop}
use Rattle.hub_verify.proofs.clean.unclean_goods_row.Goals as goal

pub returns-in-Some : goal.returns-in-Some
returns-in-Some g c =
    stop g.S.AllRows.content g.S.AllRows.honest (λ (t : Tables). list_all clean_pallet t.pallets ≡ true) GoodsAreClean
    c.args.store.now c.unclean_pallet.new.store c.in_ok-pallet.pallet c.in-Some.found c.in-Some.is c.in_ok-pallet.ensures

pub returns-in-Some-content : goal.returns-in-Some-content
returns-in-Some-content g c =
    go_on g.S.AllRows.content g.S.AllRows.honest (λ (t : Tables). list_all clean_pallet t.pallets ≡ true) GoodsAreClean
    GoodsAreClean c.args.store.now c.unclean_pallet.new.store c.unclean_content.new.store c.in_ok-pallet.pallet c.in_default.is
    (λ t p r. r) c.in_ok-pallet.ensures _
    (stop g.S.AllRows.content g.S.AllRows.honest (λ (t : Tables). list_all clean_content t.contents ≡ true) GoodsAreClean
    c.unclean_pallet.new.store c.unclean_content.new.store c.in_ok-content.content c.in-Some-content.found c.in-Some-content.is
    c.in_ok-content.ensures)

pub returns : goal.returns
returns g c =
    go_on g.S.AllRows.content g.S.AllRows.honest (λ (t : Tables). list_all clean_pallet t.pallets ≡ true) (λ (t : Tables). (λ (t :
    Tables). list_all clean_content t.contents ≡ true) t × (λ (t : Tables). list_all clean_receipt t.receipts ≡ true) t)
    GoodsAreClean c.args.store.now c.unclean_pallet.new.store c.unclean_receipt.new.store c.in_ok-pallet.pallet c.in_default.is
    (λ t a q. record { pallets = a; contents = q.0; receipts = q.1 }) c.in_ok-pallet.ensures c.unclean_receipt.result
    (go_on g.S.AllRows.content g.S.AllRows.honest (λ (t : Tables). list_all clean_content t.contents ≡ true) (λ (t : Tables).
    list_all clean_receipt t.receipts ≡ true) (λ (t : Tables). (λ (t : Tables). list_all clean_content t.contents ≡ true) t × (λ (t
    : Tables). list_all clean_receipt t.receipts ≡ true) t) c.unclean_pallet.new.store c.unclean_content.new.store
    c.unclean_receipt.new.store c.in_ok-content.content c.in_default-content.is (λ t p q. (p, q)) c.in_ok-content.ensures
    c.unclean_receipt.result
    c.unclean_receipt.ensures)
