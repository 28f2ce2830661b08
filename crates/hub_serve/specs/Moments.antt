-- Defines the moments at which connections arrive: those of a clock, or always the same.
use Rattle.std.specs.Prelude.{ℕ, ◌/◌, nat_le, if◌then◌else◌, List, Option, Some, None}
use Rattle.edi_moment.specs.Moment.{last_moment}

-- the moment of a time in nanoseconds since 1970; none after the last moment
abbrev pub moment_at : ℕ → Option ℕ
moment_at nanos = let seconds = nanos / 1_000_000_000 in if nat_le seconds last_moment then Some seconds else None

-- the moments to come: those of a clock, unless one is given
abbrev pub coming_of : Option ℕ → Option (List ℕ) → Option (List ℕ)
coming_of None known = known
coming_of (Some moment) known = None
