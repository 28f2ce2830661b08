-- Defines what was written of a text, and what the error output reports.
use Rattle.std.specs.Prelude.{◌≡◌, ◌⊎◌, ℕ, Bool, true, List, Option, IsTrue, codes}
use Rattle.std.specs.Io.KnownBytes.{Appends, Keeps}
use Rattle.edi_base.specs.Buffer.{AppendsFront}
use Rattle.edi_relay.specs.ErrorLines.{WritesLine}

-- all of it, and no write failed
pub record Written (old new : Option (List ℕ)) (failed after : Bool) (text : List ℕ) : Type 0 where
  pub bytes : Appends old new text
  pub flag : after ≡ failed

-- a prefix of it, since a write failed
pub record Lost (old new : Option (List ℕ)) (after : Bool) (text : List ℕ) : Type 0 where
  pub front : AppendsFront old new text
  pub flag : IsTrue after

-- it was printed, and the exit status is this; if a write failed the status is 3
abbrev pub Prints : Option (List ℕ) → Option (List ℕ) → Bool → Bool → List ℕ → ℕ → ℕ → Type 0
Prints old new failed after text status result =
    (Written old new failed after text × (result ≡ status)) ⊎ (Lost old new after text × (result ≡ 3))

-- a write failed after a prefix of the text, and the error output says `file`
abbrev pub ReportsFile : Option (List ℕ) → Option (List ℕ) → Bool → Option (List ℕ) → Option (List ℕ) → Bool → List ℕ → Type 0
ReportsFile old new failed err_old err_new err_failed text =
    WritesLine err_old err_new err_failed (codes "file\n") × (failed ≡ true) × AppendsFront old new text

-- memory ran out, nothing was written, and the error output says `memory`
abbrev pub ReportsMemory : Option (List ℕ) → Option (List ℕ) → Option (List ℕ) → Option (List ℕ) → Bool → Type 0
ReportsMemory old new err_old err_new err_failed =
    WritesLine err_old err_new err_failed (codes "memory\n") × Keeps old new
