-- Lines on standard error.
use Rattle.std.specs.Prelude.{◌≡◌, ◌⊎◌, ℕ, Bool, false, List, codes, Option}
use Rattle.std.specs.Io.KnownBytes.{Appends}
use Rattle.edi_base.specs.Buffer.{AppendsFront}

-- a line was written, or a prefix of it if the writer failed
pub record WritesLine (old new : Option (List ℕ)) (failed : Bool) (line : List ℕ) : Type 0 where
  pub front : AppendsFront old new line
  pub whole : failed ≡ false → Appends old new line

-- a flag stays, or the status is 3 and the line `file` reports it
abbrev pub StaysOrTellsFile : Bool → Bool → ℕ → Option (List ℕ) → Option (List ℕ) → Bool → Type 0
StaysOrTellsFile before after status old new failed =
    (after ≡ before) ⊎ ((status ≡ 3) × WritesLine old new failed (codes "file\n"))
