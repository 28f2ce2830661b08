use Rattle.std.proofs.Common.{◌≡◌, true}
use Rattle.std.specs.List.{list_all}
use Rattle.hub_store.specs.Clean.{clean_hub, clean_key, clean_prefix}
use Rattle.hub_tables.specs.Tables.{Tables}
use Rattle.hub_verify.specs.Clean.{PartiesAreClean}
use Rattle.hub_verify.proofs.Findings.{go_on, stop}
use Rattle.hub_verify.proofs.clean.unclean_party.Goals as goal

pub returns-in-Some : goal.returns-in-Some
returns-in-Some g c =
    stop g.S.AllRows.content g.S.AllRows.honest (λ (t : Tables). list_all clean_hub t.hubs ≡ true) PartiesAreClean c.args.store.now
    c.unclean_hub.new.store c.in_ok-hub.hub c.in-Some.found c.in-Some.is c.in_ok-hub.ensures

pub returns-in-Some-supplier : goal.returns-in-Some-supplier
returns-in-Some-supplier g c =
    go_on g.S.AllRows.content g.S.AllRows.honest (λ (t : Tables). list_all clean_hub t.hubs ≡ true) PartiesAreClean PartiesAreClean
    c.args.store.now c.unclean_hub.new.store c.unclean_supplier.new.store c.in_ok-hub.hub c.in_default.is (λ t p r. r)
    c.in_ok-hub.ensures _
    (stop g.S.AllRows.content g.S.AllRows.honest (λ (t : Tables). list_all clean_key t.keys ≡ true) PartiesAreClean
    c.unclean_hub.new.store c.unclean_supplier.new.store c.in_ok-supplier.supplier c.in-Some-supplier.found c.in-Some-supplier.is
    c.in_ok-supplier.ensures)

pub returns : goal.returns
returns g c =
    go_on g.S.AllRows.content g.S.AllRows.honest (λ (t : Tables). list_all clean_hub t.hubs ≡ true) (λ (t : Tables). (λ (t :
    Tables). list_all clean_key t.keys ≡ true) t × (λ (t : Tables). list_all clean_prefix t.prefixes ≡ true) t) PartiesAreClean
    c.args.store.now c.unclean_hub.new.store c.unclean_prefix.new.store c.in_ok-hub.hub c.in_default.is (λ t a q. record {
      hubs =
          a;
      keys = q.0;
      prefixes = q.1;
    }) c.in_ok-hub.ensures c.unclean_prefix.result
    (go_on g.S.AllRows.content g.S.AllRows.honest (λ (t : Tables). list_all clean_key t.keys ≡ true) (λ (t : Tables). list_all
    clean_prefix t.prefixes ≡ true) (λ (t : Tables). (λ (t : Tables). list_all clean_key t.keys ≡ true) t × (λ (t : Tables).
    list_all clean_prefix t.prefixes ≡ true) t) c.unclean_hub.new.store c.unclean_supplier.new.store c.unclean_prefix.new.store
    c.in_ok-supplier.supplier c.in_default-supplier.is (λ t p q. (p, q)) c.in_ok-supplier.ensures c.unclean_prefix.result
    c.unclean_prefix.ensures)
