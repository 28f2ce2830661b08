-- Looks up what a byte is to the service characters of a text.
use Rattle.std.specs.Prelude.{◌≡◌, ◌<◌, ℕ, Bool, false, ◌&&◌, not, List, slice_index_or}
use Rattle.std.specs.List.{list_all}
use Rattle.edi_segments.specs.declared.segment.Service.{Service}
use Rattle.edi_segments.specs.declared.service_table.ServiceTable.TheInside.{Inside}
use Rattle.edi_segments.specs.Plain.{is_plain}
use Rattle.edi_segments.specs.Text.{is_usual}

-- a byte that stands for itself, in the text and in its canonical one
abbrev pub stands_for_itself : Service → ℕ → Bool
stands_for_itself s b = is_plain s b && not (is_usual b)

abbrev pub are_run : Service → List ℕ → Bool
are_run s bytes = list_all (stands_for_itself s) bytes

abbrev pub service_in : Inside → Service
service_in s = s.service

abbrev pub IsSoundTable : Inside → Type 0
IsSoundTable s = (b : ℕ) → b < 256 → slice_index_or s.stands_for_itself b false ≡ stands_for_itself s.service b
