use Rattle.std.proofs.Common.{ap, ◌∙◌}
use Rattle.edi_envelope.proofs.OpenLemmas.{interchange_of-fault}
use Rattle.edi_relay.proofs.ReadOn.{mailed_as}
use Rattle.edi_relay.proofs.relaying.Relaying.finish.Goals as goal

pub returns-in-Some : goal.returns-in-Some
returns-in-Some c = λ words tokens stands.
    interchange_of-fault tokens c.in-Some.fault (c.fault.ensures.fault tokens.segments stands.checked ∙ c.in-Some.is)

pub returns : goal.returns
returns c = λ words tokens stands.
    let mailed = mailed_as words tokens c.args.self stands (c.fault.ensures.fault tokens.segments stands.checked ∙ c.in_default.is)
    (c.fault.ensures.fine c.in_default.is) in
    (mailed.0, mailed.1, ap (λ v. v.items) c.into_out.ensures ∙ mailed.2)
