-- The open segment, as its buffers have it.
use Rattle.std.specs.Prelude.{take, vec_len}
use Rattle.edi_segments.specs.declared.flat_segment.FlatSegment.TheInside.{Inside}
use Rattle.edi_segments.specs.Reading.{Open}
use Rattle.edi_segments.specs.Flat.{flat_open, IsFlat, HasFlatRoom}

abbrev pub open_in : Inside → Open
open_in s =
    flat_open s.tag (take s.filled s.bytes.items) (take s.components s.component_ends.items)
    (take s.elements s.element_ends.items) s.component_from s.element_from s.size

pub record IsSoundFlatSegment (s : Inside) : Type 0 where
  pub flat :
      IsFlat (take s.filled s.bytes.items) (take s.components s.component_ends.items)
      (take s.elements s.element_ends.items) s.component_from s.element_from s.components_kept s.elements_kept
  pub room :
      HasFlatRoom (vec_len s.bytes) (vec_len s.component_ends) (vec_len s.element_ends) s.filled s.components s.elements s.size
