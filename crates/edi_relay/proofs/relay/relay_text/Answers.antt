use Rattle.std.proofs.Common.{ℕ, List, Vec, Global, Err, sym, subst}
use Rattle.edi_relay.specs.declared.relay.RelayFault.{RelayFault}
use Rattle.edi_relay.specs.Relay.{Relays, relayed}
use Rattle.edi_relay.proofs.ReadOn.{never_read}
use Rattle.edi_relay.proofs.relay.relay_text.Goals as goal

pub returns-in-Ok : goal.returns-in-Ok
returns-in-Ok c = (rw c.new-reader.ensures at (c.in-Ok.ensures.relayed c.args.text.now)) (c.in_ok-lender.ensures.fed c.args.text.now)

abbrev view : Vec ℕ Global → List ℕ
view out = out.items

pub returns : goal.returns
returns c =
    let given = relayed c.args.text.now c.args.words.now in
    let told = (rw c.new-reader.ensures at (c.in-Err.ensures.relayed c.args.text.now)) (c.in_ok-lender.ensures.fed c.args.text.now) in
    subst (λ (f : RelayFault). Relays {X = Vec ℕ Global} view (Err f) given) (sym c.without_read.ensures)
    (never_read c.in-Err.fault given view told)
