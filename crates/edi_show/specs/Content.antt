-- What a message says, by its type.
use Rattle.std.specs.Prelude.{ℕ, ◌+◌, Bool, true, false, List, [], ◌∷◌, length, Option, Some, None, Result, Ok, Err}
use Rattle.edi_segments.specs.declared.segment.Segment.{Segment}
use Rattle.edi_envelope.specs.declared.interchange.RawMessage.{RawMessage}
use Rattle.edi_messages.specs.declared.fault.MessageFault.{MessageFault}
use Rattle.edi_messages.specs.declared.fault.MessageFault.TheVariants.{MessageType}
use Rattle.edi_documents.specs.Document.{type_of, document_as}
use Rattle.edi_documents.specs.declared.document.Document.{Document}
use Rattle.edi_documents.specs.declared.document.DocumentType.{DocumentType}
use Rattle.edi_documents.specs.declared.document.DocumentType.TheVariants as types
use Rattle.edi_show.specs.declared.content.Content.{Content}
use Rattle.edi_show.specs.declared.content.Content.TheVariants.{Read, Refused}
use Rattle.edi_show.specs.declared.content.ShownMessage.{ShownMessage}
use Rattle.edi_places.specs.Orders.{order_place, response_place}
use Rattle.edi_places.specs.Goods.{despatch_place, receipt_place}

-- the segment of a message that shows a fault of its type
abbrev pub place_as : DocumentType → MessageFault → List Segment → ℕ
place_as types.Order = order_place
place_as types.Response = response_place
place_as types.Despatch = despatch_place
place_as types.Receipt = receipt_place

-- the document that a message is, or its fault with the segment that shows it, by its number in the interchange
abbrev pub content_from : (MessageFault → ℕ) → Result Document MessageFault → Content
content_from place (Ok document) = Read document
content_from place (Err fault) = Refused fault (place fault)

-- what a message of a type says, after this many segments of the interchange
abbrev pub content_by : Option DocumentType → ℕ → RawMessage → Content
content_by (Some type) before m = content_from (λ fault. before + place_as type fault m.segments) (document_as type m)
content_by None before m = Refused MessageType (before + 1)

abbrev pub content_of : ℕ → RawMessage → Content
content_of before m = content_by (type_of m.kind) before m

abbrev pub shown_message : ℕ → RawMessage → ShownMessage
shown_message before m = record { reference = m.reference; kind = m.kind; content = content_of before m }

-- the messages after this many segments
abbrev pub shown_messages : ℕ → List RawMessage → List ShownMessage
shown_messages before [] = []
shown_messages before (m ∷ messages) = shown_message before m ∷ shown_messages (before + length m.segments) messages

abbrev pub refuses : Content → Bool
refuses (Refused fault place) = true
refuses _ = false

abbrev pub is_refused_message : ShownMessage → Bool
is_refused_message message = refuses message.content
