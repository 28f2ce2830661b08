-- The limits of data in service segments.
use Rattle.std.specs.Prelude.{ℕ, Bool, ◌&&◌, nat_le, List}
use Rattle.std.specs.List.{list_all}
use Rattle.edi_base.specs.Limits.{has_length, is_printable}

-- a byte up to 0x7E
abbrev pub is_seven_bit : ℕ → Bool
is_seven_bit b = nat_le b 126

-- a reference has 1 to 14 bytes of 0x20 to 0x7E
abbrev pub is_reference : List ℕ → Bool
is_reference bytes = has_length 1 14 bytes && list_all is_printable bytes

-- a part of the message identifier: as many bytes as are allowed, none past 0x7E
abbrev pub is_identifier : ℕ → ℕ → List ℕ → Bool
is_identifier low high bytes = has_length low high bytes && list_all is_seven_bit bytes
