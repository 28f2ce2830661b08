-- The segment that is lent.
use Rattle.std.specs.Prelude.{Option, Some, None, Result, Ok, Err}
use Rattle.edi_segments.specs.declared.segment_ref.SegmentRef.{SegmentRef}
use Rattle.edi_segments.specs.declared.segment_ref.Form.{Form}
use Rattle.edi_segments.specs.declared.segment_ref.Form.TheVariants.{Open, Kept}
use Rattle.edi_segments.specs.declared.segment.Segment.{Segment}
use Rattle.edi_segments.specs.declared.fault.TokenFault.{TokenFault}
use Rattle.edi_segments.specs.Machine.{segment_of}

abbrev pub segment_of_form : Form → Segment
segment_of_form (Open segment) = segment_of segment.now
segment_of_form (Kept segment) = segment.now

abbrev pub segment_in : SegmentRef → Segment
segment_in s = segment_of_form s.form

abbrev pub lent_in : Option SegmentRef → Option Segment
lent_in None = None
lent_in (Some s) = Some (segment_in s)

-- what was answered, with the segment that is lent
abbrev pub segment_told : Result (Option SegmentRef) TokenFault → Result (Option Segment) TokenFault
segment_told (Ok lent) = Ok (lent_in lent)
segment_told (Err fault) = Err fault
