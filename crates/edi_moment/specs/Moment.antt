-- Defines moments, and the date and the time of day that a clock in UTC shows (the Gregorian calendar of ISO 8601).
use Rattle.std.specs.Prelude.{◌≡◌, ℕ, zero, suc, ◌+◌, ◌/◌, ◌%◌, List, [], ◌∷◌, ◌++◌, nat_lt, if◌then◌else◌, pos}
use Rattle.jiff.specs.Types.{DateTime}
use Rattle.jiff.specs.Words.{days_in_month}

-- the last second of 2099-12-31
abbrev pub last_moment : ℕ
last_moment = 4_102_444_799

-- a day of the calendar
pub record Day : Type 0 where
  pub year : ℕ
  pub month : ℕ
  pub day : ℕ

-- the next day of its month, or the first of the next month, or 1 January of the next year
abbrev pub day_after : Day → Day
day_after d =
    if nat_lt d.day (days_in_month (pos d.year) d.month) then record { year = d.year; month = d.month; day = d.day + 1 }
    else (if nat_lt d.month 12 then record { year = d.year; month = d.month + 1; day = 1 }
    else record { year = d.year + 1; month = 1; day = 1 })

-- the day this many days after 1970-01-01
unfoldable pub day_at : ℕ → Day
day_at zero = record { year = 1970; month = 1; day = 1 }
day_at (suc n) = day_after (day_at n)

-- the day of a moment; each day has 86,400 seconds
abbrev pub day_of : ℕ → Day
day_of moment = day_at (moment / 86_400)

-- the last two decimal digits of a number
abbrev pub two_digits : ℕ → List ℕ
two_digits n = (48 + n / 10 % 10) ∷ (48 + n % 10) ∷ []

-- YYMMDD
abbrev pub date_text : ℕ → List ℕ
date_text moment = let d = day_of moment in two_digits d.year ++ two_digits d.month ++ two_digits d.day

-- HHMM
abbrev pub time_text : ℕ → List ℕ
time_text moment = two_digits (moment % 86_400 / 3_600) ++ two_digits (moment % 3_600 / 60)

-- the clock shows the date, hour and minute of this moment in UTC
pub record ClockShows (clock : DateTime) (moment : ℕ) : Type 0 where
  pub year : clock.date.year ≡ pos (day_of moment).year
  pub month : clock.date.month ≡ (day_of moment).month
  pub day : clock.date.day ≡ (day_of moment).day
  pub hour : clock.time.hour ≡ moment % 86_400 / 3_600
  pub minute : clock.time.minute ≡ moment % 3_600 / 60
