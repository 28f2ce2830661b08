-- The mail text: an interchange of the hub that carries one message.
use Rattle.std.specs.Prelude.{ℕ, List, [], ◌∷◌, ◌++◌, codes, map, slice_set, if◌then◌else◌}
use Rattle.std.specs.Fmt.{decimal}
use Rattle.edi_segments.specs.declared.segment.Segment.{Segment}
use Rattle.edi_segments.specs.Segment.{element_at}
use Rattle.edi_tokens.specs.Text.{text, una}
use Rattle.edi_envelope.specs.declared.interchange.RawMessage.{RawMessage}
use Rattle.edi_envelope.specs.Segments.{is_unh, is_unt}
use Rattle.edi_moment.specs.Moment.{date_text, time_text}

-- the greatest number of a mail text
abbrev pub last_number : ℕ
last_number = 99_999_999_999_999

-- the elements with `1` as the first component of one; if there is no such component, they stay
abbrev pub with_one : List (List (List ℕ)) → ℕ → List (List (List ℕ))
with_one elements place = slice_set elements place (slice_set (element_at elements place) 0 (codes "1"))

-- the message reference number of UNH (element 1) and of UNT (element 2) is `1`
abbrev pub renumbered : Segment → Segment
renumbered segment =
    if is_unh segment then record { tag = segment.tag; elements = with_one segment.elements 0 }
    else (if is_unt segment then record { tag = segment.tag; elements = with_one segment.elements 1 }
    else segment)

-- the interchange header, from one partner to another, both named by a GLN (qualifier 14)
abbrev pub unb_from : List ℕ → List ℕ → List ℕ → List ℕ → List ℕ → Segment
unb_from sender recipient date time reference = record {
  tag = codes "UNB";
  elements =
      (codes "UNOC" ∷ codes "3" ∷ []) ∷ (sender ∷ codes "14" ∷ []) ∷ (recipient ∷ codes "14" ∷ [])
      ∷ (date ∷ time ∷ []) ∷ (reference ∷ []) ∷ [];
}

-- the trailer of an interchange of one message
abbrev pub unz_of : List ℕ → Segment
unz_of reference = record { tag = codes "UNZ"; elements = (codes "1" ∷ []) ∷ (reference ∷ []) ∷ [] }

-- the segments of the hub's interchange: one message between UNB and UNZ
abbrev pub mail_segments : List ℕ → List ℕ → ℕ → ℕ → RawMessage → List Segment
mail_segments hub owner moment number message =
    unb_from hub owner (date_text moment) (time_text moment) (decimal number) ∷ map renumbered message.segments
    ++ unz_of (decimal number) ∷ []

-- the text of such an interchange, from UNB to UNZ, round the text of its message
abbrev pub text_around : List ℕ → List ℕ → ℕ → ℕ → List ℕ → List ℕ
text_around hub owner moment number body =
    codes "UNB+UNOC:3+" ++ hub ++ codes ":14+" ++ owner ++ codes ":14+" ++ date_text moment ++ codes ":"
    ++ time_text moment
    ++ codes "+" ++ decimal number ++ codes "'" ++ body ++ codes "UNZ+1+" ++ decimal number ++ codes "'"

-- that of a message
abbrev pub mail_interchange : List ℕ → List ℕ → ℕ → ℕ → RawMessage → List ℕ
mail_interchange hub owner moment number message =
    text_around hub owner moment number (text (map renumbered message.segments))

-- with the service string before it
abbrev pub mail_text : List ℕ → List ℕ → ℕ → ℕ → ℕ → RawMessage → List ℕ
mail_text hub owner moment mark number message = una mark ++ mail_interchange hub owner moment number message
