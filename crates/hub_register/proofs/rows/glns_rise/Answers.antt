use Rattle.std.proofs.Common.{arith}
use Rattle.hub_register.proofs.Rising.{rises_by_neighbours}
use Rattle.hub_register.proofs.rows.glns_rise.Goals as goal

pub returns : goal.returns
returns c =
    λ _. rises_by_neighbours c.args.rows.now (λ k d within. c.loop-place.invariant k d (omega (arith, within, c.loop-place-test.false)))
