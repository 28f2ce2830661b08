use Rattle.hub_verify.proofs.Judging.{no_register_told, parties_told}
use Rattle.hub_verify.proofs.cross.unsound_party.Goals as goal

pub returns-in_default : goal.returns-in_default
returns-in_default g c =
    no_register_told g.S.AllRows.content g.S.AllRows.honest c.args.store.now c.register.new.self c.in_ok-held.held c.in_default.is
    c.no_register.result
    c.no_register.ensures c.in_ok-held.ensures

pub returns : goal.returns
returns g c =
    parties_told g.S.AllRows.content g.S.AllRows.honest c.args.store.now c.register.new.self c.unrooted_pallet.new.store
    c.in_ok-held.held c.in-Some.register c.in-Some.is
    c.in_ok-found.found c.in_ok-held.ensures c.in_ok-found.ensures
