-- Bytes of data with no meaning of their own.
use Rattle.std.specs.Prelude.{ℕ, Bool, ◌&&◌, not, List}
use Rattle.std.specs.List.{list_all}
use Rattle.edi_segments.specs.declared.segment.Service.{Service}
use Rattle.edi_segments.specs.Characters.{is_data, is_special}

abbrev pub is_plain : Service → ℕ → Bool
is_plain s b = is_data b && not (is_special s b)

abbrev pub are_plain : Service → List ℕ → Bool
are_plain s bytes = list_all (is_plain s) bytes
