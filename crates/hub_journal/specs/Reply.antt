-- Defines how the lines of a reply are shown in one line.
use Rattle.std.specs.Prelude.{ℕ, ◌==◌, ◌-◌, nat_le, nat_eq, if◌then◌else◌, List, [], ◌∷◌, ◌++◌, codes, length, take, drop}
use Rattle.std.specs.Prelude.{Option, Some, None, unwrap_or}
use Rattle.std.specs.List.{flat_map, starts_with, ends_with}
use Rattle.edi_base.specs.Limits.{is_printable}

-- a line end is shown as `; `, and any other byte that is not printable as `?`
unfoldable pub shown_byte : ℕ → List ℕ
shown_byte byte = if byte == 0x0A then codes "; " else if is_printable byte then byte ∷ [] else codes "?"

abbrev pub shown : List ℕ → List ℕ
shown = flat_map shown_byte

-- what follows a line end and an empty line
unfoldable pub after_head : List ℕ → Option (List ℕ)
after_head bytes = if starts_with nat_eq bytes (codes "\r\n\r\n") then Some (drop 4 bytes) else None

-- the body of a response: what follows its first empty line (RFC 9112, section 2.1)
abbrev pub body_in : List ℕ → List ℕ
body_in [] = []
body_in (byte ∷ rest) = unwrap_or (after_head (byte ∷ rest)) (body_in rest)

-- a text without its last line end
unfoldable pub without_end : List ℕ → List ℕ
without_end text = if ends_with nat_eq text (codes "\n") then take (length text - 1) text else text

-- the most bytes of a reply that are shown
abbrev pub longest_reply : ℕ
longest_reply = 2000

unfoldable pub cut : List ℕ → List ℕ
cut text = if nat_le (length text) longest_reply then text else take longest_reply text ++ codes ".."

-- the lines of the reply in a response, joined by `; `
unfoldable pub reply_in : List ℕ → List ℕ
reply_in response = cut (shown (without_end (body_in response)))
