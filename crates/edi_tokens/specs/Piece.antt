-- What reading a piece does to the bytes of a reader.
use Rattle.std.specs.Prelude.{◌≡◌, ℕ, ◌<◌, ◌≤◌, List, [], length, take, Option, Result, Ok, Err}
use Rattle.std.specs.Io.KnownBytes.{Consumes, Keeps, IsAtEnd}

-- this many bytes of the reader are the piece, none only at its end or if there is no room
pub record FillsWith (old new : Option (List ℕ)) (piece : List ℕ) (room count : ℕ) : Type 0 where
  pub consumed : Consumes old new piece
  pub count_is : length piece ≡ count
  pub within : count ≤ room
  pub ends : count ≡ 0 → 0 < room → IsAtEnd new

abbrev pub FillsPiece : {E : Type 0} → Option (List ℕ) → Option (List ℕ) → Result ℕ E → List ℕ → ℕ → Type 0
FillsPiece old new (Ok count) piece room = FillsWith old new piece room count
FillsPiece old new (Err e) piece room = Keeps old new × (piece ≡ [])

-- the piece is the front of a buffer
pub record ReadsFront (old new : Option (List ℕ)) (buffer : List ℕ) (room count : ℕ) : Type 0 where
  pub consumed : Consumes old new (take count buffer)
  pub inside : count ≤ length buffer
  pub within : count ≤ room
  pub ends : count ≡ 0 → 0 < room → 0 < length buffer → IsAtEnd new

abbrev pub ReadsPiece : {E : Type 0} → Option (List ℕ) → Option (List ℕ) → Result ℕ E → List ℕ → ℕ → Type 0
ReadsPiece old new (Ok count) buffer room = ReadsFront old new buffer room count
ReadsPiece old new (Err e) buffer room = Keeps old new
