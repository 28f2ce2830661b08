-- What the header of a message says: UNH's type, BGM, DTM and NAD.
use Rattle.std.specs.Prelude.{ℕ, ◌==◌, Bool, false, ◌&&◌, if◌then◌else◌, List, length, filter, codes, slice_index_or}
use Rattle.std.specs.Prelude.{Option, Some, None, option_and_then}
use Rattle.std.specs.Str.{bytes_eq}
use Rattle.gs1_ids.specs.Gln.{is_gln}
use Rattle.edi_envelope.specs.EdiSegments.declared.segment.Segment.{Segment}
use Rattle.edi_envelope.specs.Segments.{has_tag, component, no_segment}
use Rattle.edi_envelope.specs.declared.interchange.RawMessage.{RawMessage}
use Rattle.edi_messages.specs.Parts.{header, only_qualified}
use Rattle.edi_messages.specs.Values.{is_document_number, is_date}

-- the message is of a type (0065) of the directory D.01B of UN (0052, 0054, 0051)
abbrev pub is_type : List ℕ → RawMessage → Bool
is_type type message =
    bytes_eq message.kind type && bytes_eq message.version (codes "D")
    && bytes_eq message.release (codes "01B") && bytes_eq message.agency (codes "UN")

-- beginning of message
abbrev pub is_bgm : Segment → Bool
is_bgm = has_tag (codes "BGM")

-- what follows UNH
abbrev pub beginning : List Segment → Segment
beginning message = slice_index_or message 1 no_segment

-- BGM follows UNH and comes only there, has this code (1001) and a document number (1004)
abbrev pub begins_as : List ℕ → List Segment → Bool
begins_as code message =
    is_bgm (beginning message) && (length (filter is_bgm message) == 1)
    && bytes_eq (component (beginning message) 0 0) code && is_document_number (component (beginning message) 1 0)

abbrev pub document_number : List Segment → List ℕ
document_number message = component (beginning message) 1 0

-- the message function (1225)
abbrev pub function : List Segment → List ℕ
function message = component (beginning message) 2 0

-- the date of a DTM exists in its format (2379)
abbrev pub is_dated : Option Segment → Bool
is_dated None = false
is_dated (Some date) = is_date (component date 0 2) (component date 0 1)

-- there is one document date in the header: DTM with 2005 137
abbrev pub has_date : List Segment → Bool
has_date message = is_dated (only_qualified (codes "DTM") (codes "137") (header message))

-- the GLN of a party (3039), if it is valid, and 3055 says by 9 that it is one
abbrev pub party_gln : Segment → Option (List ℕ)
party_gln party = if is_gln (component party 1 0) && bytes_eq (component party 1 2) (codes "9")
    then Some (component party 1 0) else None

-- the party that the one NAD of a role (3035) in the header names: BY is the buyer, SU the supplier
abbrev pub party : List ℕ → List Segment → Option (List ℕ)
party role message = option_and_then party_gln (only_qualified (codes "NAD") role (header message))

abbrev pub supplier_of : List Segment → Option (List ℕ)
supplier_of = party (codes "SU")
