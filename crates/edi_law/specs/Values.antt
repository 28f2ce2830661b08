-- Defines what valid values of data elements are (UN/EDIFACT D.01B).
use Rattle.std.specs.Prelude.{◌≡◌, ℕ, ◌≤◌, ◌<◌, ◌⊎◌, List, [], ◌∷◌, ◌++◌, length, codes, pos, ⊤}
use Rattle.std.specs.List.{AllByRecursion}
use Rattle.jiff.specs.Words.{days_in_month}
use Rattle.edi_base.specs.Limits.{number_of}

abbrev pub IsDigit : ℕ → Type 0
IsDigit byte = (48 ≤ byte) × (byte ≤ 57)

-- a document number or the number of an order: 1 to 35 bytes of 0x20 to 0x7E
pub record IsDocumentNumber (bytes : List ℕ) : Type 0 where
  pub from_one : 1 ≤ length bytes
  pub at_most : length bytes ≤ 35
  pub printable : AllByRecursion (λ byte. (32 ≤ byte) × (byte ≤ 126)) bytes

-- a count: 1 to 6 digits; leading zeros are allowed
pub record IsCount (bytes : List ℕ) (number : ℕ) : Type 0 where
  pub from_one : 1 ≤ length bytes
  pub at_most : length bytes ≤ 6
  pub digits : AllByRecursion IsDigit bytes
  pub number_is : number_of bytes ≡ number

-- a line number: a count of at least 1
pub record IsLineNumber (bytes : List ℕ) (number : ℕ) : Type 0 where
  pub count : IsCount bytes number
  pub above_zero : 1 ≤ number

-- empty, or a full stop or a comma followed by one or more zeros
abbrev pub IsNoFraction : List ℕ → Type 0
IsNoFraction [] = ⊤
IsNoFraction (mark ∷ zeros) = ((mark ≡ 46) ⊎ (mark ≡ 44)) × (1 ≤ length zeros)
    × AllByRecursion (λ zero. zero ≡ 48) zeros

-- The greatest quantity, of nine digits. The law has its own constant, so that a wrong one in the code's definitions is
-- noticed.
abbrev pub nine_digits : ℕ
nine_digits = 999_999_999

-- a quantity: digits, perhaps with a fraction of zeros, at most 35 bytes and at most 999,999,999
pub record IsQuantity (bytes : List ℕ) (number : ℕ) : Type 0 where
  pub whole : List ℕ
  pub fraction : List ℕ
  pub place : bytes ≡ whole ++ fraction
  pub short : length bytes ≤ 35
  pub from_one : 1 ≤ length whole
  pub digits : AllByRecursion IsDigit whole
  pub no_fraction : IsNoFraction fraction
  pub number_is : number_of whole ≡ number
  pub at_most : number ≤ nine_digits

-- a day of the Gregorian calendar
pub record IsInCalendar (year month day : ℕ) : Type 0 where
  pub from_january : 1 ≤ month
  pub to_december : month ≤ 12
  pub from_first : 1 ≤ day
  pub to_last : day ≤ days_in_month (pos year) month

-- CCYYMMDD; the day exists
abbrev pub IsDay : List ℕ → Type 0
IsDay (c ∷ d ∷ y ∷ z ∷ m ∷ n ∷ e ∷ f ∷ []) =
    AllByRecursion IsDigit (c ∷ d ∷ y ∷ z ∷ m ∷ n ∷ e ∷ f ∷ [])
    × IsInCalendar (number_of (c ∷ d ∷ y ∷ z ∷ [])) (number_of (m ∷ n ∷ [])) (number_of (e ∷ f ∷ []))
IsDay _ = ⊥

-- HHMM; the minute exists
abbrev pub IsMinute : List ℕ → Type 0
IsMinute (h ∷ i ∷ m ∷ n ∷ []) = AllByRecursion IsDigit (h ∷ i ∷ m ∷ n ∷ []) × (number_of (h ∷ i ∷ []) < 24)
    × (number_of (m ∷ n ∷ []) < 60)
IsMinute _ = ⊥

-- CCYYMMDDHHMM
pub record IsDayAndMinute (bytes : List ℕ) : Type 0 where
  pub day : List ℕ
  pub minute : List ℕ
  pub place : bytes ≡ day ++ minute
  pub is_day : IsDay day
  pub is_minute : IsMinute minute

-- a date in format 102 or 203
abbrev pub IsDate : List ℕ → List ℕ → Type 0
IsDate format bytes = ((format ≡ codes "102") × IsDay bytes) ⊎ ((format ≡ codes "203") × IsDayAndMinute bytes)
