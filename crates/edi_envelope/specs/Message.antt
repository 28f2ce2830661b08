-- A message, UNH to UNT (ISO 9735, service segments). Elements and components are counted from 0.
use Rattle.std.specs.Prelude.{ℕ, Bool, not, ◌&&◌, ◌||◌, List, length}
use Rattle.std.specs.List.{list_any}
use Rattle.std.specs.Str.{bytes_eq}
use Rattle.edi_segments.specs.declared.segment.Segment.{Segment}
use Rattle.edi_envelope.specs.declared.interchange.RawMessage.{RawMessage}
use Rattle.edi_envelope.specs.Segments.{is_unh, is_unt, is_ung, is_une, component, first_segment, last_segment, between}
use Rattle.edi_base.specs.Limits.{is_count, is_count_of}
use Rattle.edi_envelope.specs.Limits.{is_reference, is_identifier}

-- a segment that is not allowed between UNH and UNT
abbrev pub is_frame : Segment → Bool
is_frame segment = is_unh segment || is_unt segment || is_ung segment || is_une segment

-- UNH, segments of the message, UNT
abbrev pub is_block : List Segment → Bool
is_block block = is_unh (first_segment block) && is_unt (last_segment block) && not (list_any is_frame (between block))

-- the message reference number in UNH
abbrev pub reference_of : List Segment → List ℕ
reference_of block = component (first_segment block) 0 0

-- the references and the message identifier in UNH, and the count in UNT, are within their limits
abbrev pub is_within_limits : List Segment → Bool
is_within_limits block =
    is_reference (reference_of block)
    && is_identifier 1 6 (component (first_segment block) 1 0)
    && is_identifier 1 3 (component (first_segment block) 1 1)
    && is_identifier 1 3 (component (first_segment block) 1 2)
    && is_identifier 1 3 (component (first_segment block) 1 3)
    && is_identifier 0 6 (component (first_segment block) 1 4)
    && is_count (component (last_segment block) 0 0)

-- the count in UNT is the number of segments, UNH and UNT counted
abbrev pub is_counted : List Segment → Bool
is_counted block = is_count_of (component (last_segment block) 0 0) (length block)

-- the message reference number in UNT is that in UNH
abbrev pub is_closed : List Segment → Bool
is_closed block = bytes_eq (component (last_segment block) 1 0) (reference_of block)

abbrev pub message_of : List Segment → RawMessage
message_of block = record {
  reference = reference_of block;
  kind = component (first_segment block) 1 0;
  version = component (first_segment block) 1 1;
  release = component (first_segment block) 1 2;
  agency = component (first_segment block) 1 3;
  association = component (first_segment block) 1 4;
  segments = block;
}
