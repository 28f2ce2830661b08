use Rattle.std.proofs.Common.{rules}
use Rattle.edi_envelope.proofs.mail.put_numbered.Goals as goal

pub returns-in_ok-append_segments-2 : goal.returns-in_ok-append_segments-2
returns-in_ok-append_segments-2 c = search rules
