-- Shows that the days counted from 1970-01-01 are the dates that `jiff` gives for the day numbers.
use Rattle.std.proofs.Common.{◌≡◌, ℕ, zero, suc, ◌+◌, ◌*◌, ◌/◌, ◌%◌, ◌<◌, ◌≤◌, refl, sym, ◌∙◌, arith, rules, ℤ, pos, ◌*ℤ◌, inl, inr, subst}
use Rattle.std.specs.Int.{IsInRange}
use Rattle.std.proofs.lemmas.Bool.{cases_lt, lt-ltb, le-ltb}
use Rattle.jiff.specs.Types.{Date, DateTime}
use Rattle.jiff.specs.Words.{epoch_day, days_in_month, IsYear, civil_nanos, time_nanos}
use Rattle.jiff.proofs.SpanFacts.{signed_arith}
use Rattle.jiff.proofs.Family.{days_from_civil-day, days_from_civil-next_month, days_from_civil-next_year}
use Rattle.jiff.proofs.Family.{days_from_civil-max, epoch_day_injective, civil_nanos-parts, time_nanos_bound}
use Rattle.jiff.proofs.OnLiterals.{jiff_on_literals}
use Rattle.edi_moment.specs.Moment.{Day, day_after, day_at, day_of, last_moment, ClockShows}

-- the day is in the calendar
abbrev pub IsCivil : Day → Type 0
IsCivil d = IsYear (pos d.year) × IsInRange 1 12 d.month × IsInRange 1 (days_in_month (pos d.year) d.month) d.day

abbrev pub date_with : (d : Day) → IsCivil d → Date
date_with d c = record { year = pos d.year; month = d.month; day = d.day; year_in = c.0; month_in = c.1; day_in = c.2 }

-- the day is in the calendar, and `jiff` gives it the number n
abbrev pub HasDayNumber : Day → ℕ → Type 0
HasDayNumber d n = (c : IsCivil d) × (epoch_day (date_with d c) ≡ pos n)

-- within a month
next_day : (y m d n : ℕ)
    → HasDayNumber (record { year = y; month = m; day = d }) n
    → d < days_in_month (pos y) m
    → HasDayNumber (record { year = y; month = m; day = d + 1 }) (suc n)
next_day y m d n h lt = (
  (h.0.0, h.0.1, (omega arith, omega arith)),
  omega (arith, signed_arith, h.1, days_from_civil-day (pos y) m d (d + 1) h.0.2.0 (omega arith)),
)

month_bounds : (y : ℤ) (m : ℕ) → (28 ≤ days_in_month y m) × (days_in_month y m ≤ 31)
month_bounds y m = grind arith

-- from the last day of a month to the first of the next
next_month : (y m d n : ℕ)
    → HasDayNumber (record { year = y; month = m; day = d }) n
    → days_in_month (pos y) m ≤ d
    → m < 12
    → HasDayNumber (record { year = y; month = m + 1; day = 1 }) (suc n)
next_month y m d n h last lt =
    let bounds = month_bounds (pos y) (m + 1) in
    let is_last : d ≡ days_in_month (pos y) m = omega arith in (
      (h.0.0, (omega arith, omega arith), (omega arith, omega arith)),
      omega (arith, signed_arith, h.1, days_from_civil-next_month (pos y) m d h.0.1.0 is_last),
    )

-- from 31 December to 1 January
next_year : (y m d n : ℕ)
    → HasDayNumber (record { year = y; month = m; day = d }) n
    → days_in_month (pos y) m ≤ d
    → 12 ≤ m
    → n < 2_932_896
    → HasDayNumber (record { year = y + 1; month = 1; day = 1 }) (suc n)
next_year y m d n h last december small =
    let is_12 : m ≡ 12 = omega arith in
    let is_31 : d ≡ 31 = let e : days_in_month (pos y) m ≡ 31 = rw is_12 refl in omega arith in
    let at_12 = subst (λ (x : ℕ). HasDayNumber (record { year = y; month = x; day = d }) n) is_12 h in
    let before = subst (λ (x : ℕ). HasDayNumber (record { year = y; month = 12; day = x }) n) is_31 at_12 in
    let step = days_from_civil-next_year (pos y) (pos (y + 1)) (omega (arith, signed_arith)) (omega (arith, signed_arith)) in
    let not_9999 : (y ≡ 9999 → ⊥) =
    λ e. let there = subst (λ (x : ℕ). HasDayNumber (record { year = x; month = 12; day = 31 }) n) e before in
    omega (arith, signed_arith, days_from_civil-max, there.1) in
    let year_in : IsYear (pos (y + 1)) = (omega (arith, signed_arith), omega (arith, signed_arith, before.0.0)) in
    ((year_in, (omega arith, omega arith), (omega arith, omega arith)), omega (arith, signed_arith, before.1, step))

numbered_after : (d : Day) (n : ℕ) → HasDayNumber d n → n < 2_932_896 → HasDayNumber (day_after d) (suc n)
numbered_after d n h small =
    elim (cases_lt d.day (days_in_month (pos d.year) d.month)) [
      | inl lt ↦ rw (lt-ltb _ _ lt) (next_day d.year d.month d.day n h lt)
      | inr last ↦ rw (le-ltb _ _ last) (elim (cases_lt d.month 12) [
        | inl lt ↦ rw (lt-ltb _ _ lt) (next_month d.year d.month d.day n h last lt)
        | inr december ↦ rw (le-ltb _ _ december) (next_year d.year d.month d.day n h last december small)
      ])
    ]

first_day : HasDayNumber (record { year = 1970; month = 1; day = 1 }) 0
unfolding jiff_on_literals
first_day = ((search rules, search rules, search rules), refl)

-- the date n days after 1970-01-01 is the one to which `jiff` gives the number n
pub day_numbered : (n : ℕ) → n ≤ 2_932_896 → HasDayNumber (day_at n) n
unfolding day_at
day_numbered zero h = first_day
day_numbered (suc n) h = numbered_after (day_at n) n (day_numbered n (omega arith)) (omega arith)

-- a clock that shows this many whole seconds since 1970-01-01 shows this day and time of day
pub shown_at : (moment : ℕ) (dt : DateTime) → moment ≤ last_moment → civil_nanos dt ≡ pos moment *ℤ pos 1_000_000_000 → ClockShows dt moment
shown_at moment dt h e =
    let within = time_nanos_bound dt.time in
    let parts = civil_nanos-parts dt in
    let numbered = day_numbered (moment / 86_400) (omega arith) in
    let same_day : epoch_day dt.date ≡ pos (moment / 86_400) = omega (arith, signed_arith) in
    let same_time : time_nanos dt.time ≡ moment % 86_400 * 1_000_000_000 = omega (arith, signed_arith) in
    let same = epoch_day_injective dt.date (date_with (day_of moment) numbered.0) (same_day ∙ sym numbered.1) in
    record { year = same.0; month = same.1; day = same.2; hour = omega arith; minute = omega arith }
