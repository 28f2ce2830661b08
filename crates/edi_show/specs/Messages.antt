-- Writes the lines of messages.
use Rattle.std.specs.Prelude.{ℕ, ◌+◌, List, [], ◌∷◌, ◌++◌, codes}
use Rattle.std.specs.Fmt.{decimal}
use Rattle.edi_messages.specs.Fault.{code_text}
use Rattle.edi_messages.specs.declared.fault.MessageFault.{MessageFault}
use Rattle.edi_documents.specs.declared.document.Document.{Document}
use Rattle.edi_documents.specs.declared.document.Document.TheVariants.{Order, Response, Despatch, Receipt}
use Rattle.edi_show.specs.declared.content.Content.{Content}
use Rattle.edi_show.specs.declared.content.Content.TheVariants.{Read, Refused}
use Rattle.edi_show.specs.declared.content.ShownMessage.{ShownMessage}
use Rattle.edi_show.specs.Fault.{message_words}
use Rattle.edi_show.specs.Goods.{despatch_lines, receipt_lines}
use Rattle.edi_show.specs.Lines.{line, segment_text}
use Rattle.edi_show.specs.Orders.{order_lines, response_lines}

-- the line of a message that is refused, with the segment that shows it
unfoldable pub message_fault_line : MessageFault → ℕ → List ℕ
message_fault_line fault place =
    codes "  refused " ++ (code_text fault ++ (codes " " ++ (message_words fault ++ segment_text place)))

abbrev pub document_lines : Document → List ℕ
document_lines (Order order) = order_lines order
document_lines (Response response) = response_lines response
document_lines (Despatch despatch) = despatch_lines despatch
document_lines (Receipt receipt) = receipt_lines receipt

abbrev pub content_lines : Content → List ℕ
content_lines (Read document) = document_lines document
content_lines (Refused fault place) = message_fault_line fault place

unfoldable pub message_lines : ℕ → ShownMessage → List ℕ
message_lines number message =
    (codes "message " ++ (decimal number ++ codes "\n"))
    ++ (line (codes "  reference ") message.reference
    ++ (line (codes "  type ") message.kind ++ content_lines message.content))

-- the messages in their order, numbered from a number on
abbrev pub messages_lines : ℕ → List ShownMessage → List ℕ
messages_lines number [] = []
messages_lines number (message ∷ messages) = message_lines number message ++ messages_lines (number + 1) messages
