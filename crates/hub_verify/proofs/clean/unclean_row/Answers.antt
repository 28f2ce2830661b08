use Rattle.std.proofs.Common.{◌≡◌, true}
use Rattle.hub_store.specs.Clean.{are_clean}
use Rattle.hub_tables.specs.Tables.{Tables}
use Rattle.hub_verify.specs.Clean.{PartiesAreClean, OrdersAreClean, GoodsAreClean, MailIsClean}
use Rattle.hub_verify.proofs.Cleaning.{all_clean}
use Rattle.hub_verify.proofs.Findings.{go_on, stop}
use Rattle.hub_verify.proofs.clean.unclean_row.Goals as goal

pub returns-in-Some : goal.returns-in-Some
returns-in-Some g c =
    stop g.S.AllRows.content g.S.AllRows.honest PartiesAreClean (λ (t : Tables). are_clean t ≡ true) c.args.store.now
    c.unclean_party.new.store c.in_ok-party.party c.in-Some.found c.in-Some.is c.in_ok-party.ensures

pub returns-in-Some-order_row : goal.returns-in-Some-order_row
returns-in-Some-order_row g c =
    go_on g.S.AllRows.content g.S.AllRows.honest PartiesAreClean (λ (t : Tables). are_clean t ≡ true) (λ (t : Tables). are_clean t
    ≡ true) c.args.store.now c.unclean_party.new.store c.unclean_order_row.new.store c.in_ok-party.party c.in_default.is (λ t p r.
    r) c.in_ok-party.ensures _
    (stop g.S.AllRows.content g.S.AllRows.honest OrdersAreClean (λ (t : Tables). are_clean t ≡ true) c.unclean_party.new.store
    c.unclean_order_row.new.store c.in_ok-order_row.order_row c.in-Some-order_row.found c.in-Some-order_row.is
    c.in_ok-order_row.ensures)

pub returns-in-Some-goods_row : goal.returns-in-Some-goods_row
returns-in-Some-goods_row g c =
    go_on g.S.AllRows.content g.S.AllRows.honest PartiesAreClean (λ (t : Tables). are_clean t ≡ true) (λ (t : Tables). are_clean t
    ≡ true) c.args.store.now c.unclean_party.new.store c.unclean_goods_row.new.store c.in_ok-party.party c.in_default.is (λ t p r.
    r) c.in_ok-party.ensures _
    (go_on g.S.AllRows.content g.S.AllRows.honest OrdersAreClean (λ (t : Tables). are_clean t ≡ true) (λ (t : Tables). are_clean t
    ≡ true) c.unclean_party.new.store c.unclean_order_row.new.store c.unclean_goods_row.new.store c.in_ok-order_row.order_row
    c.in_default-order_row.is (λ t p r. r) c.in_ok-order_row.ensures _
    (stop g.S.AllRows.content g.S.AllRows.honest GoodsAreClean (λ (t : Tables). are_clean t ≡ true) c.unclean_order_row.new.store
    c.unclean_goods_row.new.store c.in_ok-goods_row.goods_row c.in-Some-goods_row.found c.in-Some-goods_row.is
    c.in_ok-goods_row.ensures))

pub returns : goal.returns
returns g c =
    go_on g.S.AllRows.content g.S.AllRows.honest PartiesAreClean (λ (t : Tables). OrdersAreClean t × (λ (t : Tables). GoodsAreClean
    t × MailIsClean t) t) (λ (t : Tables). are_clean t ≡ true) c.args.store.now c.unclean_party.new.store
    c.unclean_other_row.new.store c.in_ok-party.party c.in_default.is (λ t a q. all_clean t a q.0 q.1.0 q.1.1)
    c.in_ok-party.ensures c.unclean_other_row.result
    (go_on g.S.AllRows.content g.S.AllRows.honest OrdersAreClean (λ (t : Tables). GoodsAreClean t × MailIsClean t) (λ (t : Tables).
    OrdersAreClean t × (λ (t : Tables). GoodsAreClean t × MailIsClean t) t) c.unclean_party.new.store c.unclean_order_row.new.store
    c.unclean_other_row.new.store c.in_ok-order_row.order_row c.in_default-order_row.is (λ t p q. (p, q)) c.in_ok-order_row.ensures
    c.unclean_other_row.result
    (go_on g.S.AllRows.content g.S.AllRows.honest GoodsAreClean MailIsClean (λ (t : Tables). GoodsAreClean t × MailIsClean t)
    c.unclean_order_row.new.store c.unclean_goods_row.new.store c.unclean_other_row.new.store c.in_ok-goods_row.goods_row
    c.in_default-goods_row.is (λ t p q. (p, q)) c.in_ok-goods_row.ensures c.unclean_other_row.result
    c.unclean_other_row.ensures))
