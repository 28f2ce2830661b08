-- Defines the keys with which the retailer and the suppliers identify themselves to the hub.
use Rattle.std.specs.Prelude.{ℕ, Bool, ◌&&◌, nat_le, List, length}
use Rattle.std.specs.List.{list_all}

-- a byte that a key may have: a visible ASCII character, 0x21 to 0x7E
abbrev pub is_key_byte : ℕ → Bool
is_key_byte byte = nat_le 0x21 byte && nat_le byte 0x7E

-- a key: 8 to 64 such bytes
abbrev pub is_party_key : List ℕ → Bool
is_party_key bytes = nat_le 8 (length bytes) && (nat_le (length bytes) 64 && list_all is_key_byte bytes)
