-- Defines the text of a moment in RFC 3339 format, in UTC and to the second.
use Rattle.std.specs.Prelude.{ℕ, ◌/◌, ◌%◌, List, ◌++◌, codes, nat_lt, if◌then◌else◌}
use Rattle.edi_moment.specs.Moment.{Day, day_of, two_digits}

-- 2000-01-01T00:00:00Z; all moments are before 2100
abbrev pub year_2000 : ℕ
year_2000 = 946_684_800

-- the first two digits of its year
abbrev pub century : ℕ → List ℕ
century moment = if nat_lt moment year_2000 then codes "19" else codes "20"

-- `2026-11-28`
abbrev pub date_of : List ℕ → Day → List ℕ
date_of century day =
    century ++ (two_digits day.year ++ codes "-" ++ two_digits day.month ++ codes "-" ++ two_digits day.day)

-- `18:30:00`
abbrev pub time_of : ℕ → List ℕ
time_of moment =
    two_digits (moment % 86_400 / 3_600) ++ codes ":" ++ two_digits (moment % 3_600 / 60) ++ codes ":"
    ++ two_digits (moment % 60)

-- `2026-11-28T18:30:00Z` (RFC 3339, section 5.6)
unfoldable pub rfc3339 : ℕ → List ℕ
rfc3339 moment = date_of (century moment) (day_of moment) ++ (codes "T" ++ (time_of moment ++ codes "Z"))
