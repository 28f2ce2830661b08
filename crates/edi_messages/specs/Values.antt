-- The values of data elements in messages (UN/EDIFACT D.01B).
use Rattle.std.specs.Prelude.{ℕ, ◌==◌, Bool, true, false, not, ◌&&◌, ◌||◌, nat_le, nat_lt, if◌then◌else◌, List, [], ◌∷◌}
use Rattle.std.specs.Prelude.{length, take, drop, codes, pos, Option, Some, None}
use Rattle.std.specs.List.{list_all, take_while}
use Rattle.std.specs.Str.{bytes_eq}
use Rattle.jiff.specs.Words.{days_in_month}
use Rattle.edi_base.specs.Limits.{has_length, is_printable, is_digit, is_count, number_of, value_of, count_of}

-- a document number (1004), or the number of an order (1154): 1 to 35 bytes of 0x20 to 0x7E
abbrev pub is_document_number : List ℕ → Bool
is_document_number bytes = has_length 1 35 bytes && list_all is_printable bytes

-- a line number (1082, 1156): 1 to 6 digits, not zero
abbrev pub is_line_number : List ℕ → Bool
is_line_number bytes = is_count bytes && not (number_of bytes == 0)

abbrev pub line_number : List ℕ → Option ℕ
line_number bytes = if is_line_number bytes then Some (number_of bytes) else None

-- the digits that a quantity (6060) begins with, and what follows them
abbrev pub whole_part : List ℕ → List ℕ
whole_part bytes = take_while is_digit bytes

abbrev pub fraction : List ℕ → List ℕ
fraction bytes = drop (length (whole_part bytes)) bytes

-- nothing, or a decimal mark and one or more zeros
abbrev pub is_no_fraction : List ℕ → Bool
is_no_fraction [] = true
is_no_fraction (mark ∷ zeros) =
    (mark == 46 || mark == 44) && (nat_le 1 (length zeros) && list_all (λ digit. digit == 48) zeros)

-- digits, perhaps with a fraction of zeros, at most 35 bytes
abbrev pub is_quantity : List ℕ → Bool
is_quantity bytes = nat_le (length bytes) 35 && nat_le 1 (length (whole_part bytes)) && is_no_fraction (fraction bytes)

-- the number that a quantity is, at most 999,999,999
abbrev pub quantity : List ℕ → Option ℕ
quantity bytes = if is_quantity bytes then value_of (whole_part bytes) else None

-- the number of this many digits at a place
abbrev pub number_at : ℕ → ℕ → List ℕ → Option ℕ
number_at place count bytes = count_of (take count (drop place bytes))

-- a day of the Gregorian calendar, of the years 0000 to 9999
abbrev pub is_in_calendar : ℕ → ℕ → ℕ → Bool
is_in_calendar year month day =
    nat_le year 9999 && (nat_le 1 month && nat_le month 12)
    && (nat_le 1 day && nat_le day (days_in_month (pos year) month))

abbrev pub is_day_of : Option ℕ → Option ℕ → Option ℕ → Bool
is_day_of (Some year) (Some month) (Some day) = is_in_calendar year month day
is_day_of _ _ _ = false

-- CCYYMMDD
abbrev pub is_day : List ℕ → Bool
is_day bytes = is_day_of (number_at 0 4 bytes) (number_at 4 2 bytes) (number_at 6 2 bytes)

-- HHMM, after CCYYMMDD: a minute of a day
abbrev pub is_minute_of : Option ℕ → Option ℕ → Bool
is_minute_of (Some hour) (Some minute) = nat_lt hour 24 && nat_lt minute 60
is_minute_of _ _ = false

abbrev pub is_minute : List ℕ → Bool
is_minute bytes = is_minute_of (number_at 8 2 bytes) (number_at 10 2 bytes)

-- a date (2380) in a format (2379): 102 is CCYYMMDD, 203 is CCYYMMDDHHMM
abbrev pub is_date : List ℕ → List ℕ → Bool
is_date format bytes =
    (bytes_eq format (codes "102") && length bytes == 8 && is_day bytes)
    || (bytes_eq format (codes "203") && length bytes == 12 && is_day bytes && is_minute bytes)
