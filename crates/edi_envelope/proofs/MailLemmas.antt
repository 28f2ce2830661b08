-- The canonical text of the hub's interchange.
use Rattle.std.proofs.Common.{◌≡◌, ℕ, ◌+◌, ◌%◌, ◌/◌, ◌^◌, ◌<◌, ◌≤◌, List, [], ◌∷◌, ◌++◌, map, refl, ap, ◌∙◌, arith}
use Rattle.std.proofs.Common.{append_assoc, append-nil, false, IsTrue, All, codes}
use Rattle.std.specs.List.{AllByRecursion}
use Rattle.std.specs.Fmt.{decimal}
use Rattle.std.proofs.lemmas.Bool.{cond-false}
use Rattle.std.proofs.lemmas.Bool.Decides.{nat_tests}
use Rattle.std.proofs.lemmas.List.Concat.{flat_map-append}
use Rattle.std.proofs.lemmas.List.Elements.{recursion_from_All}
use Rattle.std.proofs.lemmas.Fmt.{decimal_by_steps}
use Rattle.edi_segments.specs.Characters.{is_digit}
use Rattle.edi_tokens.specs.Text.{text, is_usual, byte_text, component_text, segment_text}
use Rattle.edi_envelope.specs.declared.interchange.RawMessage.{RawMessage}
use Rattle.edi_segments.specs.declared.segment.Segment.{Segment}
use Rattle.edi_moment.specs.Moment.{date_text, time_text, day_of, two_digits}
use Rattle.edi_envelope.specs.Mail.{renumbered, unb_from, unz_of, mail_segments, mail_interchange}

-- each byte is a digit
abbrev pub AreDigits : List ℕ → Type 0
AreDigits [] = Unit {0}
AreDigits (b ∷ bs) = ((48 ≤ b) × (b ≤ 57)) × AreDigits bs

is_usual-digit : (b : ℕ) → 48 ≤ b → b ≤ 57 → is_usual b ≡ false
is_usual-digit b low high = grind (arith, nat_tests)

byte_text-digit : (b : ℕ) → 48 ≤ b → b ≤ 57 → byte_text b ≡ b ∷ []
byte_text-digit b low high = cond-false (is_usual b) _ _ (is_usual-digit b low high)

-- digits are written as they are
component_text-digits : (bs : List ℕ) → AreDigits bs → component_text bs ≡ bs
component_text-digits [] h = refl
component_text-digits (b ∷ bs) h = rw (byte_text-digit b h.0.0 h.0.1) (ap (λ rest. b ∷ rest) (component_text-digits bs h.1))

AreDigits-push : (bs : List ℕ) (b : ℕ) → AreDigits bs → 48 ≤ b → b ≤ 57 → AreDigits (bs ++ b ∷ [])
AreDigits-push [] b h low high = ((low, high), tt)
AreDigits-push (c ∷ bs) b h low high = (h.0, AreDigits-push bs b h.1 low high)

AreDigits-decimal : (n : ℕ) → n < 2 ^ 64 → AreDigits (decimal n)
AreDigits-decimal n small =
    decimal_by_steps (λ n ds. AreDigits ds) (λ n h. ((omega arith, omega arith), tt))
    (λ n ds h d. AreDigits-push ds (48 + n % 10) d (omega arith) (omega arith)) n small

AreDigits-two_digits : (n : ℕ) (bs : List ℕ) → AreDigits bs → AreDigits (two_digits n ++ bs)
AreDigits-two_digits n bs h = ((omega arith, omega arith), ((omega arith, omega arith), h))

AreDigits-date : (moment : ℕ) → AreDigits (date_text moment)
AreDigits-date moment =
    let d = day_of moment in
    AreDigits-two_digits d.year (two_digits d.month ++ two_digits d.day)
    (AreDigits-two_digits d.month (two_digits d.day) (AreDigits-two_digits d.day [] tt))

AreDigits-time : (moment : ℕ) → AreDigits (time_text moment)
AreDigits-time moment =
    let minute = moment % 3_600 / 60 in
    AreDigits-two_digits (moment % 86_400 / 3_600) (two_digits minute) (AreDigits-two_digits minute [] tt)

digit_bounds : (b : ℕ) → IsTrue (is_digit b) → (48 ≤ b) × (b ≤ 57)
digit_bounds b h = grind (arith, nat_tests)

AreDigits-from_recursion : (bs : List ℕ) → AllByRecursion (λ b. IsTrue (is_digit b)) bs → AreDigits bs
AreDigits-from_recursion [] h = tt
AreDigits-from_recursion (b ∷ bs) h = (digit_bounds b h.0, AreDigits-from_recursion bs h.1)

-- what a clause says of the digits of a GLN
pub AreDigits-from_All : (bs : List ℕ) → All (λ b. IsTrue (is_digit b)) bs → AreDigits bs
AreDigits-from_All bs h = AreDigits-from_recursion bs (recursion_from_All (λ b. IsTrue (is_digit b)) bs h)

regroup_unb : (hub owner date time number q e : List ℕ) (plus colon : ℕ)
    → (hub ++ q) ++ (plus ∷ ((owner ++ q) ++ (plus ∷ ((date ++ colon ∷ (time ++ [])) ++ (plus ∷ ((number ++ []) ++ [])))))) ++ e
    ≡ hub ++ (q ++ plus ∷ []) ++ owner ++ (q ++ plus ∷ []) ++ date ++ colon ∷ [] ++ time ++ plus ∷ [] ++ number ++ e
regroup_unb hub owner date time number q e plus colon = simp (append_assoc, append-nil)

-- the header, where each part is written as it is
segment_text-unb_from : (hub owner date time number : List ℕ)
    → component_text hub ≡ hub
    → component_text owner ≡ owner
    → component_text date ≡ date
    → component_text time ≡ time
    → component_text number ≡ number
    → segment_text (unb_from hub owner date time number)
    ≡ codes "UNB+UNOC:3+"
    ++ (hub ++ codes ":14+" ++ owner ++ codes ":14+" ++ date ++ codes ":" ++ time ++ codes "+" ++ number ++ codes "'")
segment_text-unb_from hub owner date time number h o d t n =
    rw (h, o, d, t, n) (ap (λ rest. codes "UNB+UNOC:3+" ++ rest) (regroup_unb hub owner date time number (codes ":14") (codes "'") 43 58))

regroup_unz : (number e : List ℕ) → ((number ++ []) ++ []) ++ e ≡ number ++ e
regroup_unz number e = simp append-nil

segment_text-unz_of : (number : List ℕ)
    → component_text number ≡ number
    → segment_text (unz_of number) ≡ codes "UNZ+1+" ++ number ++ codes "'"
segment_text-unz_of number n = rw n (ap (λ rest. codes "UNZ+1+" ++ rest) (regroup_unz number (codes "'")))

regroup_all : (u hub a owner b date c time d number e ms z : List ℕ)
    → (u ++ (hub ++ a ++ owner ++ b ++ date ++ c ++ time ++ d ++ number ++ e)) ++ (ms ++ ((z ++ number ++ e) ++ []))
    ≡ u ++ hub ++ a ++ owner ++ b ++ date ++ c ++ time ++ d ++ number ++ e ++ ms ++ z ++ number ++ e
regroup_all u hub a owner b date c time d number e ms z = simp (append_assoc, append-nil)

-- the text of the segments, where each part is written as it is
parts_text : (hub owner date time number : List ℕ) (message : List Segment)
    → component_text hub ≡ hub
    → component_text owner ≡ owner
    → component_text date ≡ date
    → component_text time ≡ time
    → component_text number ≡ number
    → text (unb_from hub owner date time number ∷ message ++ unz_of number ∷ [])
    ≡ codes "UNB+UNOC:3+"
    ++ hub
    ++ codes ":14+"
    ++ owner
    ++ codes ":14+"
    ++ date
    ++ codes ":"
    ++ time
    ++ codes "+"
    ++ number
    ++ codes "'"
    ++ text message
    ++ codes "UNZ+1+"
    ++ number
    ++ codes "'"
parts_text hub owner date time number message h o d t n =
    let unb = segment_text-unb_from hub owner date time number h o d t n in
    let unz = segment_text-unz_of number n in
    ap (λ rest. segment_text (unb_from hub owner date time number) ++ rest) (flat_map-append segment_text message (unz_of number ∷ []))
    ∙ ap (λ first. first ++ (text message ++ (segment_text (unz_of number) ++ []))) unb
    ∙ ap (λ last. (codes "UNB+UNOC:3+"
    ++ (hub ++ codes ":14+" ++ owner ++ codes ":14+" ++ date ++ codes ":" ++ time ++ codes "+" ++ number ++ codes "'"))
    ++ (text message ++ (last ++ []))) unz
    ∙ regroup_all (codes "UNB+UNOC:3+") hub (codes ":14+") owner (codes ":14+") date (codes ":") time (codes "+") number
    (codes "'") (text message) (codes "UNZ+1+")

pub text-mail_segments : (hub owner : List ℕ) (moment number : ℕ) (message : RawMessage)
    → AreDigits hub
    → AreDigits owner
    → number < 2 ^ 64
    → text (mail_segments hub owner moment number message) ≡ mail_interchange hub owner moment number message
text-mail_segments hub owner moment number message h o small =
    parts_text hub owner (date_text moment) (time_text moment) (decimal number) (map renumbered message.segments)
    (component_text-digits hub h) (component_text-digits owner o) (component_text-digits _ (AreDigits-date moment))
    (component_text-digits _ (AreDigits-time moment)) (component_text-digits _ (AreDigits-decimal number small))
