-- Says which characters a text may have (ISO 9735, character sets UNOA to UNOC).
use Rattle.std.specs.Prelude.{ℕ, Bool, false, ◌==◌, nat_le, ◌&&◌, ◌||◌, Option, Some, None}
use Rattle.edi_base.specs.Limits as limits
use Rattle.edi_segments.specs.declared.segment.Service.{Service}

-- a byte of data: 0x20 to 0x7E, and 0xA0 to 0xFF
abbrev pub is_data : ℕ → Bool
is_data b = (nat_le 32 b && nat_le b 126) || (nat_le 160 b && nat_le b 255)

abbrev pub is_capital : ℕ → Bool
is_capital b = nat_le 65 b && nat_le b 90

abbrev pub is_small : ℕ → Bool
is_small b = nat_le 97 b && nat_le b 122

abbrev pub is_digit : ℕ → Bool
is_digit = limits.is_digit

-- a byte of a tag after its first: a capital letter or a digit
abbrev pub is_in_tag : ℕ → Bool
is_in_tag b = is_capital b || is_digit b

-- CR or LF, which are allowed between segments
abbrev pub is_line_end : ℕ → Bool
is_line_end b = b == 13 || b == 10

-- the release character, if there is one
abbrev pub is_release : Option ℕ → ℕ → Bool
is_release None b = false
is_release (Some r) b = b == r

-- a byte with a meaning of its own: a separator, the release character, the terminator
abbrev pub is_special : Service → ℕ → Bool
is_special s b = b == s.component || b == s.element || b == s.terminator || is_release s.release b
