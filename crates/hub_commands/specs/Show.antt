-- Defines what a run of `show` between a reader and two writers does, by the bytes that are known of each.
use Rattle.std.specs.Prelude.{◌≡◌, ◌⊎◌, ℕ, Bool, true, if◌then◌else◌, List, take, codes, Option, IfSome}
use Rattle.std.specs.Io.KnownBytes.{Appends, Keeps}
use Rattle.edi_base.specs.Buffer.{AppendsFront}
use Rattle.edi_show.specs.Shown.{shown_of, is_refused}
use Rattle.edi_show.specs.Text.{shown_lines}
use Rattle.edi_relay.specs.ErrorLines.{WritesLine}
use Rattle.edi_relay.specs.Run.{read_limit}
use Rattle.hub_commands.specs.Output.{ReportsMemory}

-- the lines of a text
abbrev pub lines_shown : List ℕ → List ℕ
lines_shown text = shown_lines (shown_of text)

-- the exit status of a text: 1 if anything is refused
abbrev pub status_of : List ℕ → ℕ
status_of text = if is_refused (shown_of text) then 1 else 0

-- the lines of what was read were written, and the exit status is theirs
abbrev pub ShowsLines : Option (List ℕ) → ℕ → Option (List ℕ) → Option (List ℕ) → Type 0
ShowsLines known status old new =
    IfSome known (λ bytes. (status ≡ status_of (take read_limit bytes))
    × Appends old new (lines_shown (take read_limit bytes)))

-- a prefix of the lines of what was read was written
abbrev pub ShowsFront : Option (List ℕ) → Option (List ℕ) → Option (List ℕ) → Type 0
ShowsFront known old new = IfSome known (λ bytes. AppendsFront old new (lines_shown (take read_limit bytes)))

-- Why not all lines were written: a read or a write failed, and the error output says `file`; or memory ran out, and it
-- says `memory`.
abbrev pub FailsToShow : Option (List ℕ) → Bool → Option (List ℕ) → Option (List ℕ) → Bool → Option (List ℕ) →
    Option (List ℕ) → Bool → Type 0
FailsToShow known unread old new unwritten err_old err_new err_failed =
    (WritesLine err_old err_new err_failed (codes "file\n")
    × (((unread ≡ true) × Keeps old new) ⊎ ((unwritten ≡ true) × ShowsFront known old new)))
    ⊎ ReportsMemory old new err_old err_new err_failed
