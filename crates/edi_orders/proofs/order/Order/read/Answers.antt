use Rattle.std.proofs.Common.{List, map, ap, ◌∙◌}
use Rattle.edi_base.specs.Seen.{has_number_twice}
use Rattle.edi_messages.specs.Parts.{line_groups}
use Rattle.edi_orders.specs.declared.order.OrderLine.{OrderLine}
use Rattle.edi_orders.proofs.Read.{numbers_of}
use Rattle.edi_orders.proofs.order.Order.read.Goals as goal

pub returns-clause-apart : goal.returns-clause-apart
returns-clause-apart c =
    ap (λ (lines : List OrderLine). has_number_twice (map (λ line. line.line) lines)) c.in_ok-lines.ensures.said
    ∙ numbers_of (line_groups c.args.message.now.segments)
    ∙ c.in_ok-lines.ensures.apart
