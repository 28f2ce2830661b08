use Rattle.std.proofs.Common.{◌≡◌, true}
use Rattle.std.specs.List.{list_all}
use Rattle.hub_store.specs.Clean.{clean_mail, clean_remembered}
use Rattle.hub_tables.specs.Tables.{Tables}
use Rattle.hub_verify.specs.Clean.{MailIsClean}
use Rattle.hub_verify.proofs.Findings.{go_on, stop}
use Rattle.hub_verify.proofs.clean.unclean_other_row.Goals as goal

pub returns-in-Some : goal.returns-in-Some
returns-in-Some g c =
    stop g.S.AllRows.content g.S.AllRows.honest (λ (t : Tables). list_all clean_remembered t.remembered ≡ true) MailIsClean
    c.args.store.now c.unclean_remembered.new.store c.in_ok-remembered.remembered c.in-Some.found c.in-Some.is
    c.in_ok-remembered.ensures

pub returns : goal.returns
returns g c =
    go_on g.S.AllRows.content g.S.AllRows.honest (λ (t : Tables). list_all clean_remembered t.remembered ≡ true) (λ (t : Tables).
    list_all clean_mail t.mail ≡ true) MailIsClean c.args.store.now c.unclean_remembered.new.store c.unclean_mail.new.store
    c.in_ok-remembered.remembered c.in_default.is (λ t a q. record { remembered = a; mail = q }) c.in_ok-remembered.ensures
    c.unclean_mail.result
    c.unclean_mail.ensures
