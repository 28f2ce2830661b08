-- Defines what was written of a text.
use Rattle.std.specs.Prelude.{◌≡◌, ℕ, Bool, List, Option}
use Rattle.std.specs.Prelude.{IsTrue}
use Rattle.std.specs.Io.KnownBytes.{Appends}
use Rattle.edi_base.specs.Buffer.{AppendsFront}

-- all of it was written, and no write failed
pub record WrittenWhole (old new : Option (List ℕ)) (failed after : Bool) (text : List ℕ) : Type 0 where
  pub bytes : Appends old new text
  pub flag : after ≡ failed

-- a write failed: some bytes were written before the text, and then a prefix of it
pub record WrittenInPart (old new : Option (List ℕ)) (after : Bool) (before text : List ℕ) : Type 0 where
  pub between : Option (List ℕ)
  pub written : Appends old between before
  pub front : AppendsFront between new text
  pub flag : IsTrue after
