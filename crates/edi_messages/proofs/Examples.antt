-- Segments of small messages, and the definitions at some values.
use Rattle.std.proofs.Common.{◌≡◌, ℕ, List, [], ◌∷◌, Some, None, codes, refl}
use Rattle.std.specs.Prelude.{true, false}
use Rattle.edi_envelope.specs.EdiSegments.declared.segment.Segment.{Segment}
use Rattle.edi_messages.specs.Header.{supplier_of}
use Rattle.edi_messages.specs.Values.{is_date, quantity}

abbrev pub segment : List ℕ → List (List (List ℕ)) → Segment
segment tag elements = record { tag = tag; elements = elements }

abbrev pub one : List ℕ → List (List ℕ)
one bytes = bytes ∷ []

abbrev pub unh : Segment
unh = segment (codes "UNH") (one (codes "1") ∷ (codes "ORDERS" ∷ codes "D" ∷ codes "01B" ∷ codes "UN" ∷ codes "EAN010" ∷ []) ∷ [])

abbrev pub bgm : Segment
bgm = segment (codes "BGM") (one (codes "220") ∷ one (codes "128576") ∷ one (codes "9") ∷ [])

abbrev pub nad : List ℕ → List ℕ → Segment
nad role gln = segment (codes "NAD") (one role ∷ (gln ∷ [] ∷ codes "9" ∷ []) ∷ [])

abbrev pub lin : List ℕ → Segment
lin number = segment (codes "LIN") (one number ∷ [] ∷ (codes "4000862141404" ∷ codes "SRV" ∷ []) ∷ [])

abbrev pub uns : Segment
uns = segment (codes "UNS") (one (codes "S") ∷ [])

abbrev pub unt : Segment
unt = segment (codes "UNT") (one (codes "10") ∷ one (codes "1") ∷ [])

abbrev pub buyer : Segment
buyer = nad (codes "BY") (codes "5412345000013")

abbrev pub supplier : Segment
supplier = nad (codes "SU") (codes "4012345500004")

its_supplier : supplier_of (unh ∷ bgm ∷ buyer ∷ supplier ∷ uns ∷ unt ∷ []) ≡ Some (codes "4012345500004")
its_supplier = refl

supplier_in_a_line : supplier_of (unh ∷ bgm ∷ buyer ∷ lin (codes "1") ∷ supplier ∷ uns ∷ unt ∷ []) ≡ None
supplier_in_a_line = refl

leap_year_0 : is_date (codes "102") (codes "00000229") ≡ true
leap_year_0 = refl

no_leap_year_1900 : is_date (codes "102") (codes "19000229") ≡ false
no_leap_year_1900 = refl

leap_year_2024 : is_date (codes "203") (codes "202402292359") ≡ true
leap_year_2024 = refl

hour_24 : is_date (codes "203") (codes "202402292400") ≡ false
hour_24 = refl

fraction_of_zeros : quantity (codes "12,000") ≡ Some 12
fraction_of_zeros = refl

fraction : quantity (codes "12.5") ≡ None
fraction = refl

mark_alone : quantity (codes "12.") ≡ None
mark_alone = refl

greatest : quantity (codes "999999999") ≡ Some 999_999_999
greatest = refl

above : quantity (codes "1000000000") ≡ None
above = refl

zeros_before : quantity (codes "00000000000000000000000000000000012") ≡ Some 12
zeros_before = refl

nothing_before_the_mark : quantity (codes ".5") ≡ None
nothing_before_the_mark = refl
