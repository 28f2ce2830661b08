-- The body of a request: as many bytes as its head announces (RFC 9112, section 6.2).
use Rattle.std.specs.Prelude.{◌≡◌, ℕ, ◌<◌, nat_lt, if◌then◌else◌, List, ◌++◌, length, take, Option, Some, None}
use Rattle.std.specs.Io.KnownBytes.{Consumes, IsAtEnd}

-- the body of this many bytes at the front of these, or none if they end before
abbrev pub body_in : ℕ → List ℕ → Option (List ℕ)
body_in size rest = if nat_lt (length rest) size then None else Some (take size rest)

-- bytes of a source come after those before, as many as there is room for; fewer only at the end of the source
pub record Fills (old new : Option (List ℕ)) (before after : List ℕ) (room : ℕ) : Type 0 where
  pub more : List ℕ
  pub consumed : Consumes old new more
  pub after_is : after ≡ before ++ more
  pub ends : length more < room → IsAtEnd new

-- this many bytes of a source were taken
pub record TakesExactly (old new : Option (List ℕ)) (count : ℕ) : Type 0 where
  pub bytes : List ℕ
  pub consumed : Consumes old new bytes
  pub counted : length bytes ≡ count
