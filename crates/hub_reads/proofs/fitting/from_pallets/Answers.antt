use Rattle.std.proofs.Common.{◌≡◌, Err, rules, sym, subst}
use Rattle.sqlite.specs.Held.{state}
use Rattle.hub_reads.specs.Fitting.{TellsOld, pallets_fit, remembered_fit, mail_fits, from_pallets, from_remembered}
use Rattle.hub_reads.proofs.OfKinds.{then_tells, tells_none, tells_not}
use Rattle.hub_reads.proofs.fitting.from_pallets.Goals as goal

pub returns-then-not-pallets-clause-looks : goal.returns-then-not-pallets-clause-looks
returns-then-not-pallets-clause-looks g c =
    tells_not (pallets_fit c.args.register.now) (from_remembered c.args.register.now) (state g.S.Store c.args.conn.now)
    (state g.S.Store c.pallets_fit.new.conn) c.in_ok-pallets.pallets c.in_ok-pallets.ensures.looks c.if-not-pallets.true

pub returns-then-not-remembered-clause-looks : goal.returns-then-not-remembered-clause-looks
returns-then-not-remembered-clause-looks g c =
    let register = c.args.register.now in
    let old = state g.S.Store c.args.conn.now in
    let one = state g.S.Store c.pallets_fit.new.conn in
    let two = state g.S.Store c.remembered_fit.new.conn in
    then_tells (pallets_fit register) (from_remembered register) old one c.in_ok-pallets.pallets c.in_ok-pallets.ensures.looks
    two c.if-not-pallets.false _
    (tells_not (remembered_fit register) (mail_fits register) one two c.in_ok-remembered.remembered
    c.in_ok-remembered.ensures.looks c.if-not-remembered.true)

pub returns-clause-looks : goal.returns-clause-looks
returns-clause-looks g c =
    let register = c.args.register.now in
    let old = state g.S.Store c.args.conn.now in
    let one = state g.S.Store c.pallets_fit.new.conn in
    let two = state g.S.Store c.remembered_fit.new.conn in
    let new = state g.S.Store c.mail_fits.new.conn in
    then_tells (pallets_fit register) (from_remembered register) old one c.in_ok-pallets.pallets c.in_ok-pallets.ensures.looks
    new c.if-not-pallets.false _
    (then_tells (remembered_fit register) (mail_fits register) one two c.in_ok-remembered.remembered
    c.in_ok-remembered.ensures.looks new c.if-not-remembered.false c.mail_fits.result c.mail_fits.ensures.looks)

pub returns-in_err-pallets-clause-looks : goal.returns-in_err-pallets-clause-looks
returns-in_err-pallets-clause-looks g c =
    let register = c.args.register.now in
    let old = state g.S.Store c.args.conn.now in
    let one = state g.S.Store c.pallets_fit.new.conn in
    let fault = c.in_err-pallets.field-0.0 in
    let given : c.from_residual.result ≡ Err fault = search rules in
    subst (TellsOld (from_pallets register) old one) (sym given)
    (tells_none (pallets_fit register) (from_remembered register) old one fault c.in_err-pallets.ensures.looks)

pub returns-in_err-remembered-clause-looks : goal.returns-in_err-remembered-clause-looks
returns-in_err-remembered-clause-looks g c =
    let register = c.args.register.now in
    let old = state g.S.Store c.args.conn.now in
    let one = state g.S.Store c.pallets_fit.new.conn in
    let two = state g.S.Store c.remembered_fit.new.conn in
    let fault = c.in_err-remembered.field-0.0 in
    let given : c.from_residual-in_err-remembered.result ≡ Err fault = search rules in
    subst (TellsOld (from_pallets register) old two) (sym given)
    (then_tells (pallets_fit register) (from_remembered register) old one c.in_ok-pallets.pallets c.in_ok-pallets.ensures.looks
    two c.if-not-pallets.false _
    (tells_none (remembered_fit register) (mail_fits register) one two fault c.in_err-remembered.ensures.looks))
