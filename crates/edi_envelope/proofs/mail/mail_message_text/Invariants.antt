use Rattle.std.proofs.Common.{◌≡◌, ◌++◌, map, drop}
use Rattle.edi_tokens.specs.Text.{text}
use Rattle.edi_envelope.specs.Mail.{renumbered}
use Rattle.edi_envelope.proofs.mail.mail_message_text.Given as goal

abbrev pub invariant-loop-segment : goal.invariant-loop-segment
invariant-loop-segment l =
    l.body.items ++ text (map renumbered (drop l.segment-index l.message.segments)) ≡ text (map renumbered l.message.segments)
