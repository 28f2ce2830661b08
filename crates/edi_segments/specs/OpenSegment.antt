-- The open segment, as its parts and its text have it; and with a run of data.
use Rattle.std.specs.Prelude.{◌≡◌, ℕ, ◌+◌, List, ◌++◌, length, IfSome}
use Rattle.edi_segments.specs.declared.open_segment.OpenSegment.TheInside.{Inside}
use Rattle.edi_segments.specs.Reading.{Open}
use Rattle.edi_segments.specs.Text.{open_text}
use Rattle.edi_segments.specs.SegmentText.{HasTextRoom, text_in}

-- the open segment with data bytes that need no release character
abbrev pub with_bytes : Open → List ℕ → Open
with_bytes o bytes =
    record {
      tag = o.tag;
      elements = o.elements;
      element = o.element;
      component = o.component ++ bytes;
      length = o.length + length bytes;
    }

abbrev pub open_in : Inside → Open
open_in s = s.parts

-- the text is right if it is kept
pub record IsSoundOpenSegment (s : Inside) : Type 0 where
  pub room : HasTextRoom s.text
  pub kept : IfSome (text_in s.text) (λ text. text ≡ open_text s.parts)
