use Rattle.std.proofs.Common.{not, ap, sym, ◌∙◌, arith}
use Rattle.hub_founding.specs.Fits.{fits_pallet}
use Rattle.hub_sound.proofs.Settling.{find_next, find_here, find_none}
use Rattle.hub_verify.proofs.cross.first_unrooted.Goals as goal

pub loop-pallet-preserved : goal.loop-pallet-preserved
loop-pallet-preserved c =
    find_next c.args.pallets.now c.loop-pallet.pallet-index c.pallet-item.result c.loop-pallet-test.true c.pallet-item.is
    (λ pallet. not (fits_pallet c.args.register.now pallet)) (ap not (sym c.is_rooted-rooted.ensures ∙ c.if-not-rooted.false))
    c.loop-pallet.invariant

pub returns-then-not-rooted : goal.returns-then-not-rooted
returns-then-not-rooted c =
    find_here c.args.pallets.now c.loop-pallet.pallet-index c.pallet-item.result c.loop-pallet-test.true c.pallet-item.is
    (λ pallet. not (fits_pallet c.args.register.now pallet)) (ap not (sym c.is_rooted-rooted.ensures ∙ c.if-not-rooted.true))
    c.loop-pallet.invariant

pub returns : goal.returns
returns c =
    find_none (λ pallet. not (fits_pallet c.args.register.now pallet)) c.args.pallets.now c.loop-pallet.pallet-index
    (omega (arith, c.loop-pallet-test.false)) c.loop-pallet.invariant
