use Rattle.std.proofs.Common.{◌≡◌, true}
use Rattle.std.specs.List.{list_all}
use Rattle.hub_store.specs.Clean.{clean_advice, clean_line, clean_order}
use Rattle.hub_tables.specs.Tables.{Tables}
use Rattle.hub_verify.specs.Clean.{OrdersAreClean}
use Rattle.hub_verify.proofs.Findings.{go_on, stop}
use Rattle.hub_verify.proofs.clean.unclean_order_row.Goals as goal

pub returns-in-Some : goal.returns-in-Some
returns-in-Some g c =
    stop g.S.AllRows.content g.S.AllRows.honest (λ (t : Tables). list_all clean_order t.orders ≡ true) OrdersAreClean
    c.args.store.now c.unclean_order.new.store c.in_ok-order.order c.in-Some.found c.in-Some.is c.in_ok-order.ensures

pub returns-in-Some-line : goal.returns-in-Some-line
returns-in-Some-line g c =
    go_on g.S.AllRows.content g.S.AllRows.honest (λ (t : Tables). list_all clean_order t.orders ≡ true) OrdersAreClean
    OrdersAreClean c.args.store.now c.unclean_order.new.store c.unclean_line.new.store c.in_ok-order.order c.in_default.is (λ t p
    r. r) c.in_ok-order.ensures _
    (stop g.S.AllRows.content g.S.AllRows.honest (λ (t : Tables). list_all clean_line t.lines ≡ true) OrdersAreClean
    c.unclean_order.new.store c.unclean_line.new.store c.in_ok-line.line c.in-Some-line.found c.in-Some-line.is
    c.in_ok-line.ensures)

pub returns : goal.returns
returns g c =
    go_on g.S.AllRows.content g.S.AllRows.honest (λ (t : Tables). list_all clean_order t.orders ≡ true) (λ (t : Tables). (λ (t :
    Tables). list_all clean_line t.lines ≡ true) t × (λ (t : Tables). list_all clean_advice t.advices ≡ true) t) OrdersAreClean
    c.args.store.now c.unclean_order.new.store c.unclean_advice.new.store c.in_ok-order.order c.in_default.is (λ t a q. record {
      orders = a;
      lines = q.0;
      advices = q.1;
    }) c.in_ok-order.ensures c.unclean_advice.result
    (go_on g.S.AllRows.content g.S.AllRows.honest (λ (t : Tables). list_all clean_line t.lines ≡ true) (λ (t : Tables). list_all
    clean_advice t.advices ≡ true) (λ (t : Tables). (λ (t : Tables). list_all clean_line t.lines ≡ true) t × (λ (t : Tables).
    list_all clean_advice t.advices ≡ true) t) c.unclean_order.new.store c.unclean_line.new.store c.unclean_advice.new.store
    c.in_ok-line.line c.in_default-line.is (λ t p q. (p, q)) c.in_ok-line.ensures c.unclean_advice.result
    c.unclean_advice.ensures)
