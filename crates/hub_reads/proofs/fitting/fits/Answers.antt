use Rattle.std.proofs.Common.{◌≡◌, Err, rules, sym, subst}
use Rattle.sqlite.specs.Held.{state}
use Rattle.hub_founding.specs.Fits.{fits}
use Rattle.hub_reads.specs.Fitting.{TellsOld, orders_fit, lines_fit, advices_fit, from_lines, from_advices, from_pallets}
use Rattle.hub_reads.proofs.OfKinds.{then_tells, tells_none, tells_not}
use Rattle.hub_reads.proofs.fitting.fits.Goals as goal

pub returns-then-not-orders-clause-looks : goal.returns-then-not-orders-clause-looks
returns-then-not-orders-clause-looks g c =
    tells_not (orders_fit c.args.register.now) (from_lines c.args.register.now) (state g.S.Store c.args.conn.now)
    (state g.S.Store c.orders_fit.new.conn) c.in_ok-orders.orders c.in_ok-orders.ensures.looks c.if-not-orders.true

pub returns-then-not-lines-clause-looks : goal.returns-then-not-lines-clause-looks
returns-then-not-lines-clause-looks g c =
    let register = c.args.register.now in
    let one = state g.S.Store c.orders_fit.new.conn in
    let two = state g.S.Store c.lines_fit.new.conn in
    then_tells (orders_fit register) (from_lines register) (state g.S.Store c.args.conn.now) one c.in_ok-orders.orders
    c.in_ok-orders.ensures.looks two c.if-not-orders.false _
    (tells_not (lines_fit register) (from_advices register) one two c.in_ok-lines.lines c.in_ok-lines.ensures.looks
    c.if-not-lines.true)

pub returns-then-not-advices-clause-looks : goal.returns-then-not-advices-clause-looks
returns-then-not-advices-clause-looks g c =
    let register = c.args.register.now in
    let one = state g.S.Store c.orders_fit.new.conn in
    let two = state g.S.Store c.lines_fit.new.conn in
    let three = state g.S.Store c.advices_fit.new.conn in
    then_tells (orders_fit register) (from_lines register) (state g.S.Store c.args.conn.now) one c.in_ok-orders.orders
    c.in_ok-orders.ensures.looks three c.if-not-orders.false _
    (then_tells (lines_fit register) (from_advices register) one two c.in_ok-lines.lines c.in_ok-lines.ensures.looks
    three c.if-not-lines.false _
    (tells_not (advices_fit register) (from_pallets register) two three c.in_ok-advices.advices
    c.in_ok-advices.ensures.looks c.if-not-advices.true))

pub returns-clause-looks : goal.returns-clause-looks
returns-clause-looks g c =
    let register = c.args.register.now in
    let one = state g.S.Store c.orders_fit.new.conn in
    let two = state g.S.Store c.lines_fit.new.conn in
    let three = state g.S.Store c.advices_fit.new.conn in
    let new = state g.S.Store c.from_pallets.new.conn in
    then_tells (orders_fit register) (from_lines register) (state g.S.Store c.args.conn.now) one c.in_ok-orders.orders
    c.in_ok-orders.ensures.looks new c.if-not-orders.false _
    (then_tells (lines_fit register) (from_advices register) one two c.in_ok-lines.lines c.in_ok-lines.ensures.looks
    new c.if-not-lines.false _
    (then_tells (advices_fit register) (from_pallets register) two three c.in_ok-advices.advices
    c.in_ok-advices.ensures.looks new c.if-not-advices.false c.from_pallets.result c.from_pallets.ensures.looks))

pub returns-in_err-orders-clause-looks : goal.returns-in_err-orders-clause-looks
returns-in_err-orders-clause-looks g c =
    let register = c.args.register.now in
    let old = state g.S.Store c.args.conn.now in
    let one = state g.S.Store c.orders_fit.new.conn in
    let fault = c.in_err-orders.field-0.0 in
    let given : c.from_residual.result ≡ Err fault = search rules in
    subst (TellsOld (fits register) old one) (sym given)
    (tells_none (orders_fit register) (from_lines register) old one fault c.in_err-orders.ensures.looks)

pub returns-in_err-lines-clause-looks : goal.returns-in_err-lines-clause-looks
returns-in_err-lines-clause-looks g c =
    let register = c.args.register.now in
    let old = state g.S.Store c.args.conn.now in
    let one = state g.S.Store c.orders_fit.new.conn in
    let two = state g.S.Store c.lines_fit.new.conn in
    let fault = c.in_err-lines.field-0.0 in
    let given : c.from_residual-in_err-lines.result ≡ Err fault = search rules in
    subst (TellsOld (fits register) old two) (sym given)
    (then_tells (orders_fit register) (from_lines register) old one c.in_ok-orders.orders c.in_ok-orders.ensures.looks
    two c.if-not-orders.false _
    (tells_none (lines_fit register) (from_advices register) one two fault c.in_err-lines.ensures.looks))

pub returns-in_err-advices-clause-looks : goal.returns-in_err-advices-clause-looks
returns-in_err-advices-clause-looks g c =
    let register = c.args.register.now in
    let old = state g.S.Store c.args.conn.now in
    let one = state g.S.Store c.orders_fit.new.conn in
    let two = state g.S.Store c.lines_fit.new.conn in
    let three = state g.S.Store c.advices_fit.new.conn in
    let fault = c.in_err-advices.field-0.0 in
    let given : c.from_residual-in_err-advices.result ≡ Err fault = search rules in
    subst (TellsOld (fits register) old three) (sym given)
    (then_tells (orders_fit register) (from_lines register) old one c.in_ok-orders.orders c.in_ok-orders.ensures.looks
    three c.if-not-orders.false _
    (then_tells (lines_fit register) (from_advices register) one two c.in_ok-lines.lines c.in_ok-lines.ensures.looks
    three c.if-not-lines.false _
    (tells_none (advices_fit register) (from_pallets register) two three fault c.in_err-advices.ensures.looks)))
