-- The parties of a despatch advice or a receiving advice, whose header may leave out the buyer.
use Rattle.std.specs.Prelude.{ℕ, Bool, ◌&&◌, List, is_some, codes, Option}
use Rattle.edi_messages.specs.EdiSegments.declared.segment.Segment.{Segment}
use Rattle.edi_messages.specs.Header.{party_gln, party}
use Rattle.edi_messages.specs.Parts.{header, none_or_one, is_read}

-- there is no NAD with 3035 BY in the header, or one, which names the buyer
abbrev pub has_buyer_or_none : List Segment → Bool
has_buyer_or_none message = none_or_one (is_read party_gln) (codes "NAD") (codes "BY") (header message)

abbrev pub has_parties : List Segment → Bool
has_parties message = has_buyer_or_none message && is_some (party (codes "SU") message)

-- the buyer, if there is one
abbrev pub buyer : List Segment → Option (List ℕ)
buyer message = party (codes "BY") message
