use Rattle.edi_envelope.proofs.CheckLemmas.{frame_fault}
use Rattle.edi_envelope.proofs.check.EnvelopeCheck.fault.Goals as goal

pub returns-in_default : goal.returns-in_default
returns-in_default c = record {
  fault = λ lent checked. frame_fault c.args.self.now.stage c.in_default.not-Ended c.args.self.now lent checked;
  fine = λ e. absurd cc;
}
