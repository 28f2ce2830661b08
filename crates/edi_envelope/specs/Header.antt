-- The interchange header UNB (ISO 9735, service segments). Its elements and their components are counted from 0.
use Rattle.std.specs.Prelude.{ℕ, Bool, ◌==◌, ◌&&◌, ◌||◌, codes, length}
use Rattle.std.specs.Str.{bytes_eq}
use Rattle.edi_segments.specs.declared.segment.Segment.{Segment}
use Rattle.edi_envelope.specs.declared.interchange.Head.{Head}
use Rattle.edi_envelope.specs.Segments.{component}
use Rattle.edi_base.specs.Limits.{has_length, are_digits}
use Rattle.edi_envelope.specs.Limits.{is_reference}

-- the character sets without and with letters beyond ISO 646
abbrev pub is_seven_bit_set : Segment → Bool
is_seven_bit_set unb = bytes_eq (component unb 0 0) (codes "UNOA") || bytes_eq (component unb 0 0) (codes "UNOB")

-- the syntax identifier is UNOA, UNOB or UNOC, the version 3
abbrev pub has_syntax : Segment → Bool
has_syntax unb = (is_seven_bit_set unb || bytes_eq (component unb 0 0) (codes "UNOC"))
    && bytes_eq (component unb 0 1) (codes "3")

-- a partner's identification has 1 to 35 bytes, its qualifier is 14
abbrev pub has_partner : Segment → ℕ → Bool
has_partner unb element = has_length 1 35 (component unb element 0) && bytes_eq (component unb element 1) (codes "14")

-- six digits and four
abbrev pub has_date_and_time : Segment → Bool
has_date_and_time unb = are_digits 6 6 (component unb 3 0) && are_digits 4 4 (component unb 3 1)

-- the test indicator is `1`
abbrev pub is_test : Segment → Bool
is_test unb = bytes_eq (component unb 10 0) (codes "1")

-- the header is as this project takes it
abbrev pub is_valid_header : Segment → Bool
is_valid_header unb =
    has_syntax unb && has_partner unb 1 && has_partner unb 2 && has_date_and_time unb
    && is_reference (component unb 4 0)
    && ((length (component unb 10 0) == 0) || is_test unb)

abbrev pub head_of : Segment → Head
head_of unb = record {
  syntax = component unb 0 0;
  sender = component unb 1 0;
  recipient = component unb 2 0;
  date = component unb 3 0;
  time = component unb 3 1;
  reference = component unb 4 0;
}
