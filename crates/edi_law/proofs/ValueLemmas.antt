-- Shows that what is read from a value is the value.
use Rattle.std.proofs.Common.{◌≡◌, ℕ, zero, suc, ◌≤◌, ◌<◌, Bool, true, false, cond, not, ◌&&◌, List, [], ◌∷◌, ◌++◌, length}
use Rattle.std.proofs.Common.{drop, Some, None, ◌⊎◌, inl, inr, refl, sym, ap, subst, ◌∙◌, arith}
use Rattle.std.specs.Prelude.{◌==◌, nat_le, nat_lt, codes, pos, Decides}
use Rattle.std.specs.List.{list_all, AllByRecursion}
use Rattle.std.specs.Str.{bytes_eq}
use Rattle.std.proofs.lemmas.Bool.{cases_Bool, true≢false, not-false, eqb-true, and_parts}
use Rattle.std.proofs.lemmas.Bool.Decides.{Decides-and, Decides-or, Decides-not, Decides-like, Decides-at, Decides-eqb, Decides-ltb}
use Rattle.std.proofs.lemmas.Slice.Eq.{bytes_eq-Decides}
use Rattle.std.proofs.Math.Bool.{and_assoc}
use Rattle.jiff.specs.Words.{days_in_month}
use Rattle.edi_base.specs.Limits.{has_length, is_printable, is_digit, is_count, number_of, value_of, greatest}
use Rattle.edi_messages.specs.Values.{is_document_number, is_line_number, line_number, whole_part, fraction, is_no_fraction}
use Rattle.edi_messages.specs.Values.{is_quantity, quantity, is_in_calendar, is_day_of, is_day, is_minute_of, is_minute}
use Rattle.edi_messages.specs.Values.{is_date}
use Rattle.edi_law.specs.Values.{IsDigit, IsDocumentNumber, IsCount, IsLineNumber, IsNoFraction, IsQuantity, IsInCalendar}
use Rattle.edi_law.specs.Values.{IsDay, IsMinute, IsDayAndMinute, IsDate}
use Rattle.edi_law.proofs.Deciding.{Says, Decides-leb, Decides-true, Decides-false, Decides-all, Says-like, Says-if, Says-when}
use Rattle.edi_law.proofs.PartLemmas.{front, behind, StartsWith, taken, front_behind, front_within, front_is}

Decides-digit : (byte : ℕ) → Decides (is_digit byte) (IsDigit byte)
Decides-digit byte = Decides-and (nat_le 48 byte) (nat_le byte 57) (Decides-leb 48 byte) (Decides-leb byte 57)

Decides-digits : (bytes : List ℕ) → Decides (list_all is_digit bytes) (AllByRecursion IsDigit bytes)
Decides-digits = Decides-all is_digit IsDigit Decides-digit

Decides-length : (low high : ℕ) (bytes : List ℕ) → Decides (has_length low high bytes) ((low ≤ length bytes) × (length bytes ≤ high))
Decides-length low high bytes =
    Decides-and (nat_le low (length bytes)) (nat_le (length bytes) high) (Decides-leb low (length bytes))
    (Decides-leb (length bytes) high)

Decides-printable : (byte : ℕ) → Decides (is_printable byte) ((32 ≤ byte) × (byte ≤ 126))
Decides-printable byte = Decides-and (nat_le 32 byte) (nat_le byte 126) (Decides-leb 32 byte) (Decides-leb byte 126)

pub Decides-document_number : (bytes : List ℕ) → Decides (is_document_number bytes) (IsDocumentNumber bytes)
Decides-document_number bytes =
    Decides-like (is_document_number bytes)
    (λ h. record { from_one = h.0.0; at_most = h.0.1; printable = h.1 })
    (λ (h : IsDocumentNumber bytes). ((h.from_one, h.at_most), h.printable))
    (Decides-and (has_length 1 35 bytes) (list_all is_printable bytes) (Decides-length 1 35 bytes)
    (Decides-all is_printable (λ byte. (32 ≤ byte) × (byte ≤ 126)) Decides-printable bytes))

-- counts and line numbers
pub Decides-count : (bytes : List ℕ) → Decides (is_count bytes) (IsCount bytes (number_of bytes))
Decides-count bytes =
    Decides-like (is_count bytes)
    (λ h. record { from_one = h.0.0; at_most = h.0.1; digits = h.1; number_is = refl })
    (λ (h : IsCount bytes (number_of bytes)). ((h.from_one, h.at_most), h.digits))
    (Decides-and (has_length 1 6 bytes) (list_all is_digit bytes) (Decides-length 1 6 bytes) (Decides-digits bytes))

pub Decides-count_of : (bytes : List ℕ) (n : ℕ) → Decides (is_count bytes && (number_of bytes == n)) (IsCount bytes n)
Decides-count_of bytes n =
    Decides-like (is_count bytes && (number_of bytes == n))
    (λ h. subst (IsCount bytes) h.1 h.0)
    (λ (h : IsCount bytes n). (subst (IsCount bytes) (sym h.number_is) h, h.number_is))
    (Decides-and (is_count bytes) (number_of bytes == n) (Decides-count bytes) (Decides-eqb (number_of bytes) n))

above_zero : (n : ℕ) → (n ≡ 0 → ⊥) → 1 ≤ n
above_zero zero h = absurd (h refl)
above_zero (suc n) h = omega arith

not_zero : (n m : ℕ) → n ≡ m → 1 ≤ m → n ≡ 0 → ⊥
not_zero n m e h z = omega arith

pub Says-line_number : (bytes : List ℕ) → Says (line_number bytes) (IsLineNumber bytes)
Says-line_number bytes =
    let zero_is = Decides-eqb (number_of bytes) 0 in
    let test = Decides-and (is_count bytes) (not (number_of bytes == 0)) (Decides-count bytes)
    (Decides-not (number_of bytes == 0) zero_is) in
    Says-like (line_number bytes)
    (λ n. (IsCount bytes (number_of bytes) × (number_of bytes ≡ 0 → ⊥)) × (number_of bytes ≡ n)) (IsLineNumber bytes)
    (λ n h. record { count = subst (IsCount bytes) h.1 h.0.0; above_zero = subst (λ m. 1 ≤ m) h.1 (above_zero (number_of bytes) h.0.1) })
    (λ n h. (
      (
        subst (IsCount bytes) (sym h.count.number_is) h.count,
        not_zero (number_of bytes) n h.count.number_is h.above_zero,
      ),
      h.count.number_is,
    ))
    (Says-if (is_line_number bytes) (IsCount bytes (number_of bytes) × (number_of bytes ≡ 0 → ⊥)) (number_of bytes) test)

-- quantities
abbrev not_digit : ℕ → Bool
not_digit byte = not (is_digit byte)

twice_not : (t : Bool) → t ≡ not (not t)
twice_not true = refl
twice_not false = refl

whole_front : (bytes : List ℕ) → whole_part bytes ≡ front not_digit bytes
whole_front bytes = taken is_digit not_digit (λ byte. twice_not (is_digit byte)) bytes

drop_front : (kind : ℕ → Bool) (bytes : List ℕ) → drop (length (front kind bytes)) bytes ≡ behind kind bytes
drop_front kind [] = refl
drop_front kind (byte ∷ bytes) =
    elim (cases_Bool (kind byte)) [
      | inl is ↦ rw is refl
      | inr not_ ↦ rw not_ (drop_front kind bytes)
    ]

drop_past : (part rest : List ℕ) → drop (length part) (part ++ rest) ≡ rest
drop_past [] rest = refl
drop_past (byte ∷ part) rest = drop_past part rest

parts_join : (bytes : List ℕ) → bytes ≡ whole_part bytes ++ fraction bytes
parts_join bytes =
    front_behind not_digit bytes
    ∙ ap (λ part. part ++ behind not_digit bytes) (sym (whole_front bytes))
    ∙ ap (λ rest. whole_part bytes ++ rest)
    (sym (ap (λ part. drop (length part) bytes) (whole_front bytes) ∙ drop_front not_digit bytes))

each_digit : (bytes : List ℕ) → AllByRecursion (λ byte. not_digit byte ≡ false) bytes → AllByRecursion IsDigit bytes
each_digit [] h = tt
each_digit (byte ∷ bytes) h = ((Decides-digit byte).0 (not-false (is_digit byte) h.0), each_digit bytes h.1)

none_other : (bytes : List ℕ) → AllByRecursion IsDigit bytes → AllByRecursion (λ byte. not_digit byte ≡ false) bytes
none_other [] h = tt
none_other (byte ∷ bytes) h = (ap not ((Decides-digit byte).1 h.0), none_other bytes h.1)

whole_digits : (bytes : List ℕ) → AllByRecursion IsDigit (whole_part bytes)
whole_digits bytes =
    subst (AllByRecursion IsDigit) (sym (whole_front bytes))
    (each_digit (front not_digit bytes) (front_within not_digit bytes))

mark_stops : (mark : ℕ) → (mark ≡ 46) ⊎ (mark ≡ 44) → not_digit mark ≡ true
mark_stops mark (inl e) = rw e refl
mark_stops mark (inr e) = rw e refl

fraction_stops : (bytes : List ℕ) → IsNoFraction bytes → StartsWith not_digit bytes
fraction_stops [] h = tt
fraction_stops (mark ∷ zeros) h = mark_stops mark h.0

whole_is : (bytes whole rest : List ℕ) → bytes ≡ whole ++ rest → AllByRecursion IsDigit whole → IsNoFraction rest → whole_part bytes ≡ whole
whole_is bytes whole rest place digits none =
    whole_front bytes
    ∙ ap (front not_digit) place
    ∙ front_is not_digit whole rest (none_other whole digits) (fraction_stops rest none)

fraction_is : (bytes whole rest : List ℕ) → bytes ≡ whole ++ rest → whole_part bytes ≡ whole → fraction bytes ≡ rest
fraction_is bytes whole rest place e = ap (λ part. drop (length part) bytes) e ∙ ap (drop (length whole)) place ∙ drop_past whole rest

Decides-no_fraction : (bytes : List ℕ) → Decides (is_no_fraction bytes) (IsNoFraction bytes)
Decides-no_fraction [] = Decides-true
Decides-no_fraction (mark ∷ zeros) =
    Decides-like (is_no_fraction (mark ∷ zeros)) (λ h. (h.0, h.1.0, h.1.1)) (λ (h : IsNoFraction (mark ∷ zeros)). (h.0, (h.1, h.2)))
    (Decides-and _ _ (Decides-or _ _ (Decides-eqb mark 46) (Decides-eqb mark 44))
    (Decides-and _ _ (Decides-leb 1 (length zeros))
    (Decides-all (λ digit. digit == 48) (λ digit. digit ≡ 48) (λ digit. Decides-eqb digit 48) zeros)))

abbrev IsQuantityText : List ℕ → Type 0
IsQuantityText bytes = ((length bytes ≤ 35) × (1 ≤ length (whole_part bytes))) × IsNoFraction (fraction bytes)

Decides-quantity_text : (bytes : List ℕ) → Decides (is_quantity bytes) (IsQuantityText bytes)
Decides-quantity_text bytes =
    Decides-and _ _ (Decides-and _ _ (Decides-leb (length bytes) 35) (Decides-leb 1 (length (whole_part bytes))))
    (Decides-no_fraction (fraction bytes))

Says-value : (digits : List ℕ) → Says (value_of digits) (λ n. (number_of digits ≤ greatest) × (number_of digits ≡ n))
Says-value digits =
    Says-if (nat_le (number_of digits) greatest) (number_of digits ≤ greatest) (number_of digits)
    (Decides-leb (number_of digits) greatest)

quantity_there : (bytes : List ℕ) (n : ℕ)
    → IsQuantityText bytes
    → number_of (whole_part bytes) ≤ greatest
    → number_of (whole_part bytes) ≡ n
    → IsQuantity bytes n
quantity_there bytes n text small e = record {
  whole = whole_part bytes;
  fraction = fraction bytes;
  place = parts_join bytes;
  short = text.0.0;
  from_one = text.0.1;
  digits = whole_digits bytes;
  no_fraction = text.1;
  number_is = e;
  at_most = subst (λ m. m ≤ greatest) e small;
}

abbrev IsQuantityRead : List ℕ → ℕ → Type 0
IsQuantityRead bytes n = IsQuantityText bytes × ((number_of (whole_part bytes) ≤ greatest) × (number_of (whole_part bytes) ≡ n))

quantity_read : (bytes : List ℕ) (n : ℕ) → IsQuantity bytes n → IsQuantityRead bytes n
quantity_read bytes n h =
    let whole = whole_is bytes h.whole h.fraction h.place h.digits h.no_fraction in
    let rest = fraction_is bytes h.whole h.fraction h.place whole in
    let number = ap number_of whole ∙ h.number_is in (
      ((h.short, subst (λ part. 1 ≤ length part) (sym whole) h.from_one), subst IsNoFraction (sym rest) h.no_fraction),
      (subst (λ m. m ≤ greatest) (sym number) h.at_most, number),
    )

pub Says-quantity : (bytes : List ℕ) → Says (quantity bytes) (IsQuantity bytes)
Says-quantity bytes =
    Says-like (quantity bytes) (IsQuantityRead bytes) (IsQuantity bytes) (λ n h. quantity_there bytes n h.0 h.1.0 h.1.1)
    (quantity_read bytes)
    (Says-when (is_quantity bytes) (value_of (whole_part bytes)) (IsQuantityText bytes) _ (Decides-quantity_text bytes)
    (Says-value (whole_part bytes)))

-- dates
day_parts : (a b c : Bool) (y m d : ℕ)
    → is_day_of (cond a (Some y) None) (cond b (Some m) None) (cond c (Some d) None) ≡ (a && (b && (c && is_in_calendar y m d)))
day_parts true true true y m d = refl
day_parts true true false y m d = refl
day_parts true false c y m d = refl
day_parts false b c y m d = refl

minute_parts : (a b : Bool) (h m : ℕ)
    → is_minute_of (cond a (Some h) None) (cond b (Some m) None) ≡ (a && (b && (nat_lt h 24 && nat_lt m 60)))
minute_parts true true h m = refl
minute_parts true false h m = refl
minute_parts false b h m = refl

four_digits : (c d y z : ℕ) → AllByRecursion IsDigit (c ∷ d ∷ y ∷ z ∷ []) → number_of (c ∷ d ∷ y ∷ z ∷ []) ≤ 9999
four_digits c d y z h =
    let a1 = h.0.1 in let a2 = h.1.0.1 in let a3 = h.1.1.0.1 in let a4 = h.1.1.1.0.1 in
    omega (arith, a1, a2, a3, a4)

Decides-calendar : (year month day : ℕ) → Decides (is_in_calendar year month day) ((year ≤ 9999) × IsInCalendar year month day)
Decides-calendar year month day =
    Decides-like (is_in_calendar year month day)
    (λ h. (h.0.0, record { from_january = h.0.1.0; to_december = h.0.1.1; from_first = h.1.0; to_last = h.1.1 }))
    (λ (h : (year ≤ 9999) × IsInCalendar year month day). ((h.0, (h.1.from_january, h.1.to_december)), (h.1.from_first, h.1.to_last)))
    (Decides-and _ _ (Decides-and _ _ (Decides-leb year 9999) (Decides-and _ _ (Decides-leb 1 month) (Decides-leb month 12)))
    (Decides-and _ _ (Decides-leb 1 day) (Decides-leb day (days_in_month (pos year) month))))

module _ (c d y z m n e f : ℕ) (rest : List ℕ) where
  abbrev IsDayText : Type 0
  IsDayText =
      AllByRecursion IsDigit (c ∷ d ∷ y ∷ z ∷ []) × (AllByRecursion IsDigit (m ∷ n ∷ []) × (AllByRecursion IsDigit (e ∷ f ∷ [])
      × ((number_of (c ∷ d ∷ y ∷ z ∷ []) ≤ 9999)
      × IsInCalendar (number_of (c ∷ d ∷ y ∷ z ∷ [])) (number_of (m ∷ n ∷ [])) (number_of (e ∷ f ∷ [])))))

  Decides-day_text : Decides (is_day (c ∷ d ∷ y ∷ z ∷ m ∷ n ∷ e ∷ f ∷ rest)) IsDayText
  Decides-day_text =
      Decides-at (is_day (c ∷ d ∷ y ∷ z ∷ m ∷ n ∷ e ∷ f ∷ rest)) _
      (day_parts (is_count (c ∷ d ∷ y ∷ z ∷ [])) (is_count (m ∷ n ∷ [])) (is_count (e ∷ f ∷ []))
      (number_of (c ∷ d ∷ y ∷ z ∷ [])) (number_of (m ∷ n ∷ [])) (number_of (e ∷ f ∷ [])))
      (Decides-and _ _ (Decides-digits (c ∷ d ∷ y ∷ z ∷ [])) (Decides-and _ _ (Decides-digits (m ∷ n ∷ []))
      (Decides-and _ _ (Decides-digits (e ∷ f ∷ [])) (Decides-calendar _ _ _))))

  day_there : IsDayText → IsDay (c ∷ d ∷ y ∷ z ∷ m ∷ n ∷ e ∷ f ∷ [])
  day_there h =
      let a = h.0 in let b = h.1.0 in let k = h.1.1.0 in
      ((a.0, (a.1.0, (a.1.1.0, (a.1.1.1.0, (b.0, (b.1.0, (k.0, (k.1.0, tt)))))))), h.1.1.1.1)

  day_read : IsDay (c ∷ d ∷ y ∷ z ∷ m ∷ n ∷ e ∷ f ∷ []) → IsDayText
  day_read h =
      let a = h.0 in
      let year : AllByRecursion IsDigit (c ∷ d ∷ y ∷ z ∷ []) = (a.0, (a.1.0, (a.1.1.0, (a.1.1.1.0, tt)))) in
      let rest = a.1.1.1.1 in
      (year, ((rest.0, (rest.1.0, tt)), ((rest.1.1.0, (rest.1.1.1.0, tt)), (four_digits c d y z year, h.1))))

  Decides-first_day : Decides (is_day (c ∷ d ∷ y ∷ z ∷ m ∷ n ∷ e ∷ f ∷ rest)) (IsDay (c ∷ d ∷ y ∷ z ∷ m ∷ n ∷ e ∷ f ∷ []))
  Decides-first_day = Decides-like (is_day (c ∷ d ∷ y ∷ z ∷ m ∷ n ∷ e ∷ f ∷ rest)) day_there day_read Decides-day_text

Decides-day : (bytes : List ℕ) → Decides (length bytes == 8 && is_day bytes) (IsDay bytes)
Decides-day (c ∷ d ∷ y ∷ z ∷ m ∷ n ∷ e ∷ f ∷ []) = Decides-first_day c d y z m n e f []
Decides-day (c ∷ d ∷ y ∷ z ∷ m ∷ n ∷ e ∷ f ∷ g ∷ rest) =
    let bytes = c ∷ d ∷ y ∷ z ∷ m ∷ n ∷ e ∷ f ∷ g ∷ rest in (
      (λ t. let same : length bytes ≡ 8 = eqb-true _ _ (and_parts (length bytes == 8) (is_day bytes) t).0 in
          absurd (omega arith)),
      (λ h. absurd h),
    )
Decides-day _ = Decides-false

module _ (h i m n : ℕ) where
  abbrev IsMinuteText : Type 0
  IsMinuteText =
      AllByRecursion IsDigit (h ∷ i ∷ [])
      × (AllByRecursion IsDigit (m ∷ n ∷ []) × ((number_of (h ∷ i ∷ []) < 24) × (number_of (m ∷ n ∷ []) < 60)))

  Decides-minute : (c d y z o p e f : ℕ)
      → Decides (is_minute (c ∷ d ∷ y ∷ z ∷ o ∷ p ∷ e ∷ f ∷ h ∷ i ∷ m ∷ n ∷ [])) (IsMinute (h ∷ i ∷ m ∷ n ∷ []))
  Decides-minute c d y z o p e f =
      let bytes = c ∷ d ∷ y ∷ z ∷ o ∷ p ∷ e ∷ f ∷ h ∷ i ∷ m ∷ n ∷ [] in
      let test : Decides (is_minute bytes) IsMinuteText =
      Decides-at (is_minute bytes) _
      (minute_parts (is_count (h ∷ i ∷ [])) (is_count (m ∷ n ∷ [])) (number_of (h ∷ i ∷ [])) (number_of (m ∷ n ∷ [])))
      (Decides-and _ _ (Decides-digits (h ∷ i ∷ []))
      (Decides-and _ _ (Decides-digits (m ∷ n ∷ [])) (Decides-and _ _ (Decides-ltb _ 24) (Decides-ltb _ 60)))) in
      Decides-like (is_minute bytes)
      (λ t. ((t.0.0, (t.0.1.0, (t.1.0.0, (t.1.0.1.0, tt)))), t.1.1.0, t.1.1.1))
      (λ (r : IsMinute (h ∷ i ∷ m ∷ n ∷ [])). ((r.0.0, (r.0.1.0, tt)), ((r.0.1.1.0, (r.0.1.1.1.0, tt)), (r.1, r.2))))
      test

day_and_minute_there : (bytes : List ℕ) → (length bytes == 12 && is_day bytes && is_minute bytes) ≡ true → IsDayAndMinute bytes
day_and_minute_there (c ∷ d ∷ y ∷ z ∷ o ∷ p ∷ e ∷ f ∷ h ∷ i ∷ m ∷ n ∷ []) t =
    let both = and_parts _ _ t in
    record {
      day = c ∷ d ∷ y ∷ z ∷ o ∷ p ∷ e ∷ f ∷ [];
      minute = h ∷ i ∷ m ∷ n ∷ [];
      place = refl;
      is_day = (Decides-first_day c d y z o p e f (h ∷ i ∷ m ∷ n ∷ [])).0 both.0;
      is_minute = (Decides-minute h i m n c d y z o p e f).0 both.1;
    }
day_and_minute_there (c ∷ d ∷ y ∷ z ∷ o ∷ p ∷ e ∷ f ∷ h ∷ i ∷ m ∷ n ∷ k ∷ rest) t =
    let bytes = c ∷ d ∷ y ∷ z ∷ o ∷ p ∷ e ∷ f ∷ h ∷ i ∷ m ∷ n ∷ k ∷ rest in
    let both = and_parts (length bytes == 12 && is_day bytes) (is_minute bytes) t in
    let same : length bytes ≡ 12 = eqb-true _ _ (and_parts (length bytes == 12) (is_day bytes) both.0).0 in
    absurd (omega arith)
day_and_minute_there _ t = absurd (true≢false (sym t))

day_and_minute_joined : (day minute : List ℕ)
    → IsDay day
    → IsMinute minute
    → (length (day ++ minute) == 12 && is_day (day ++ minute) && is_minute (day ++ minute)) ≡ true
day_and_minute_joined (c ∷ d ∷ y ∷ z ∷ o ∷ p ∷ e ∷ f ∷ []) (h ∷ i ∷ m ∷ n ∷ []) is_day_ is_minute_ =
    let rest = h ∷ i ∷ m ∷ n ∷ [] in
    rw ((Decides-first_day c d y z o p e f rest).1 is_day_) ((Decides-minute h i m n c d y z o p e f).1 is_minute_)
day_and_minute_joined (c ∷ d ∷ y ∷ z ∷ o ∷ p ∷ e ∷ f ∷ []) _ is_day_ is_minute_ = absurd is_minute_
day_and_minute_joined _ _ is_day_ is_minute_ = absurd is_day_

Decides-day_and_minute : (bytes : List ℕ) → Decides (length bytes == 12 && is_day bytes && is_minute bytes) (IsDayAndMinute bytes)
Decides-day_and_minute bytes = (
  day_and_minute_there bytes,
  (λ h. ap (λ text. length text == 12 && is_day text && is_minute text) h.place
      ∙ day_and_minute_joined h.day h.minute h.is_day h.is_minute),
)

and_apart_four : (a b c d : Bool) → (a && b && c && d) ≡ (a && (b && c && d))
and_apart_four true b c d = refl
and_apart_four false b c d = refl

pub Decides-date : (format bytes : List ℕ) → Decides (is_date format bytes) (IsDate format bytes)
Decides-date format bytes =
    Decides-or (bytes_eq format (codes "102") && length bytes == 8 && is_day bytes)
    (bytes_eq format (codes "203") && length bytes == 12 && is_day bytes && is_minute bytes)
    (Decides-at _ _ (and_assoc (bytes_eq format (codes "102")) (length bytes == 8) (is_day bytes))
    (Decides-and _ _ (bytes_eq-Decides format (codes "102")) (Decides-day bytes)))
    (Decides-at _ _ (and_apart_four (bytes_eq format (codes "203")) (length bytes == 12) (is_day bytes) (is_minute bytes))
    (Decides-and _ _ (bytes_eq-Decides format (codes "203")) (Decides-day_and_minute bytes)))
