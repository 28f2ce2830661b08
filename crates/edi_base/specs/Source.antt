-- Defines what reading takes from a source and adds to the bytes read so far, and what is printed if it fails.
use Rattle.std.specs.Prelude.{◌≡◌, ℕ, ◌<◌, ◌≤◌, List, ◌++◌, length, codes, Option}
use Rattle.std.specs.Io.KnownBytes.{Consumes, IsAtEnd}
use Rattle.edi_base.specs.declared.source.ReadFault.{ReadFault}
use Rattle.edi_base.specs.declared.source.ReadFault.TheVariants.{Read, Memory}

-- `count` bytes of the source now follow those read before; none only at its end, or if there was no room
pub record TakesPiece (old new : Option (List ℕ)) (before after : List ℕ) (room count : ℕ) : Type 0 where
  pub bytes : List ℕ
  pub consumed : Consumes old new bytes
  pub after_is : after ≡ before ++ bytes
  pub count_is : length bytes ≡ count
  pub within : count ≤ room
  pub ends : count ≡ 0 → 0 < room → IsAtEnd new

-- at most `limit` bytes were taken from the source
pub record TakesAtMost (old new : Option (List ℕ)) (limit : ℕ) : Type 0 where
  pub front : List ℕ
  pub taken : Consumes old new front
  pub within : length front ≤ limit

abbrev pub read_fault_text : ReadFault → List ℕ
read_fault_text Read = codes "read"
read_fault_text Memory = codes "memory"
