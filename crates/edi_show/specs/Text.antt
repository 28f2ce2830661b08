-- Writes what a text says, in lines.
use Rattle.std.specs.Prelude.{ℕ, List, [], ◌∷◌, ◌++◌, length, codes, Option, Some, None}
use Rattle.std.specs.Fmt.{decimal}
use Rattle.edi_segments.specs.declared.segment.Service.{Service}
use Rattle.edi_envelope.specs.declared.interchange.Head.{Head}
use Rattle.edi_show.specs.declared.fault.WholeFault.{WholeFault}
use Rattle.edi_show.specs.declared.fault.WholeFault.TheVariants.{Token, Envelope}
use Rattle.edi_show.specs.declared.shown.Shown.{Shown}
use Rattle.edi_show.specs.declared.shown.Shown.TheVariants.{Refused, Interchange}
use Rattle.edi_show.specs.declared.shown.ShownInterchange.{ShownInterchange}
use Rattle.edi_show.specs.Fault.{whole_code, whole_words}
use Rattle.edi_show.specs.Lines.{line, segment_text}
use Rattle.edi_show.specs.Messages.{messages_lines}
use Rattle.edi_places.specs.declared.text.TextPlace.{TextPlace}

-- a name and a character
unfoldable pub mark_text : List ℕ → ℕ → List ℕ
mark_text name mark = name ++ mark ∷ []

unfoldable pub release_text : Option ℕ → List ℕ
release_text (Some release) = mark_text (codes " release ") release
release_text None = codes " release none"

-- the separators
unfoldable pub separators_text : Service → List ℕ
separators_text service =
    codes "service" ++ (mark_text (codes " component ") service.component
    ++ mark_text (codes " element ") service.element)

-- the decimal mark and the release character
unfoldable pub signs_text : Service → List ℕ
signs_text service = mark_text (codes " decimal ") service.decimal ++ release_text service.release

-- the line of the service characters
unfoldable pub service_line : Service → List ℕ
service_line service = separators_text service
    ++ (signs_text service ++ (mark_text (codes " terminator ") service.terminator ++ codes "\n"))

-- the line of the date and the time of preparation
unfoldable pub prepared_line : Head → List ℕ
prepared_line head = codes "  prepared " ++ (head.date ++ line (codes " ") head.time)

-- the lines of the header
unfoldable pub header_lines : Head → List ℕ
header_lines head =
    line (codes "interchange ") head.reference
    ++ (line (codes "  sender ") head.sender ++ (line (codes "  recipient ") head.recipient ++ prepared_line head))

-- the line of the number of messages
unfoldable pub count_line : ℕ → List ℕ
count_line count = codes "  messages " ++ (decimal count ++ codes "\n")

unfoldable pub interchange_lines : ShownInterchange → List ℕ
interchange_lines interchange =
    service_line interchange.service
    ++ (header_lines interchange.head ++ (count_line (length interchange.messages)
    ++ messages_lines 1 interchange.messages))

-- the byte that shows a fault, or the end of the text: its offset, its line and the number of its segment
abbrev pub place_text : TextPlace → List ℕ
place_text place =
    codes " at offset " ++ (decimal place.offset ++ (codes " line " ++ (decimal place.line
    ++ (codes " segment " ++ (decimal place.segment ++ codes "\n")))))

-- what shows the fault; nothing if there is no segment
abbrev pub whole_place : WholeFault → List ℕ
whole_place (Token fault place) = place_text place
whole_place (Envelope fault (Some number)) = segment_text number
whole_place (Envelope fault None) = codes "\n"

-- the one line of a text that is refused as a whole
unfoldable pub whole_fault_line : WholeFault → List ℕ
whole_fault_line fault = codes "refused " ++ (whole_code fault ++ (codes " " ++ (whole_words fault ++ whole_place fault)))

abbrev pub shown_lines : Shown → List ℕ
shown_lines (Refused fault) = whole_fault_line fault
shown_lines (Interchange interchange) = interchange_lines interchange
