-- The bytes of a text, a run of them at a time.
use Rattle.std.proofs.Common.{◌≡◌, ℕ, ◌+◌, ◌≤◌, ◌<◌, Bool, true, false, List, [], ◌∷◌, ◌++◌, length, take, drop}
use Rattle.std.proofs.Common.{Result, Ok, Err, min, refl, sym, ap, subst, ◌∙◌, append_assoc, arith}
use Rattle.std.specs.Prelude.{◌==◌, ◌&&◌, not, nat_lt, if◌then◌else◌}
use Rattle.std.proofs.lemmas.List.{append-nil, take-append-drop, length-take, take_min}
use Rattle.std.proofs.lemmas.Bool.{le-ltb}
use Rattle.std.proofs.lemmas.Grind.{common_steps}
use Rattle.edi_segments.specs.declared.segment.Service.{Service}
use Rattle.edi_segments.specs.declared.segment.Segment.{Segment}
use Rattle.edi_segments.specs.declared.fault.TokenFault.{TokenFault}
use Rattle.edi_segments.specs.declared.fault.TokenFault.TheVariants.{TooLong, ServiceString, Byte, Cut, Tag, LongSegment, Read, Memory}
use Rattle.edi_segments.specs.Characters.{is_data, is_special}
use Rattle.edi_segments.specs.Spelling.{text_limit, segment_limit}
use Rattle.edi_segments.specs.Reading.{Open, Reading, InData, ◌>>=◌, start, step, with_byte, run, finish, tokens_of, GivesFault}
use Rattle.edi_segments.specs.OpenSegment.{with_bytes}
use Rattle.edi_segments.specs.Plain.{is_plain, are_plain}

pub take-take_le : (n m : ℕ) (xs : List ℕ) → n ≤ m → take n (take m xs) ≡ take n xs
take-take_le n m xs le = grind (arith, common_steps)

is_less : (m n : ℕ) → m < n → nat_lt m n ≡ true
is_less m n lt = grind arith

pub left_true : (x y : Bool) → (x && y) ≡ true → x ≡ true
left_true true y e = refl
left_true false y e = e

pub right_true : (x y : Bool) → (x && y) ≡ true → y ≡ true
right_true true y e = e
right_true false y e = absurd cc

not_true : (x : Bool) → not x ≡ true → x ≡ false
not_true true e = sym e
not_true false e = refl

-- some bytes, and then others
pub run-append : (r : Reading) (xs ys : List ℕ) → run r (xs ++ ys) ≡ (run r xs >>= λ next. run next ys)
run-append r [] ys = refl
run-append r (x ∷ xs) ys =
    elim (step r x) as (λ s. (s >>= λ next. run next (xs ++ ys)) ≡ ((s >>= λ next. run next xs) >>= λ next. run next ys))
    [ Ok next ↦ run-append next xs ys | Err e ↦ refl ]

-- a byte, and then some bytes at once
pub goes_on : (r next last : Reading) (byte count : ℕ) (after : List ℕ) (total : Result Reading TokenFault)
    → step r byte ≡ Ok next
    → run next (take count after) ≡ Ok last
    → run r (byte ∷ after) ≡ total
    → run last (drop count after) ≡ total
goes_on r next last byte count after total one some whole =
    let parts : run next after ≡ (run next (take count after) >>= λ last. run last (drop count after)) =
    ap (run next) (sym (take-append-drop count after)) ∙ run-append next (take count after) (drop count after) in
    let then_drop : run next after ≡ run last (drop count after) =
    parts ∙ ap (λ (s : Result Reading TokenFault). s >>= λ last. run last (drop count after)) some in
    sym then_drop ∙ sym (ap (λ (s : Result Reading TokenFault). s >>= λ next. run next after) one) ∙ whole

-- what fails stays failed
pub GivesFault-then : {A B : Type 0} (fault : TokenFault) (given : Result A TokenFault) (f : A → Result B TokenFault)
    → GivesFault fault given
    → GivesFault fault (given >>= f)
GivesFault-then TooLong given f e = ap (λ r. r >>= f) e
GivesFault-then ServiceString given f e = ap (λ r. r >>= f) e
GivesFault-then Byte given f e = ap (λ r. r >>= f) e
GivesFault-then Cut given f e = ap (λ r. r >>= f) e
GivesFault-then Tag given f e = ap (λ r. r >>= f) e
GivesFault-then LongSegment given f e = ap (λ r. r >>= f) e
GivesFault-then Read given f e = ap (λ r. r >>= f) e
GivesFault-then Memory given f e = tt

-- a byte of plain data
step_plain : (service : Service) (segments : List Segment) (o : Open) (b : ℕ) → o.length < segment_limit → is_plain service b ≡ true
    → step (record { service = service; segments = segments; place = InData o }) b
    ≡ Ok (record { service = service; segments = segments; place = InData (with_byte o b) })
step_plain service segments o b short plain =
    let l : (o.length == segment_limit) ≡ false = grind arith in
    let d : is_data b ≡ true = left_true (is_data b) (not (is_special service b)) plain in
    let s : is_special service b ≡ false = not_true (is_special service b) (right_true (is_data b) (not (is_special service b)) plain) in
    rw (l, s, d) refl

-- a run of plain data
pub run_plain : (service : Service) (segments : List Segment) (o : Open) (bytes : List ℕ)
    → o.length + length bytes ≤ segment_limit
    → are_plain service bytes ≡ true
    → run (record { service = service; segments = segments; place = InData o }) bytes
    ≡ Ok (record { service = service; segments = segments; place = InData (with_bytes o bytes) })
run_plain service segments o [] short plain =
    let made : Open → Result Reading TokenFault = λ (p : Open). Ok (record { service = service; segments = segments; place = InData p }) in
    let c : o.component ++ [] ≡ o.component = append-nil o.component in
    let l : o.length + 0 ≡ o.length = omega arith in
    sym (rw (c, l) refl)
run_plain service segments o (b ∷ bytes) short plain =
    let made : Open → Result Reading TokenFault = λ (p : Open). Ok (record { service = service; segments = segments; place = InData p }) in
    let one = step_plain service segments o b (omega arith) (left_true (is_plain service b) (are_plain service bytes) plain) in
    let others = run_plain service segments (with_byte o b) bytes (omega arith)
    (right_true (is_plain service b) (are_plain service bytes) plain) in
    let c : (o.component ++ b ∷ []) ++ bytes ≡ o.component ++ b ∷ bytes = append_assoc o.component (b ∷ []) bytes in
    let l : o.length + 1 + length bytes ≡ o.length + length (b ∷ bytes) = omega arith in
    ap (λ (s : Result Reading TokenFault). s >>= λ next. run next bytes) one ∙ others ∙ rw (c, l) refl

-- the bytes that a reader in data takes at once
pub run_taken : (service : Service) (segments : List Segment) (o p : Open) (bytes : List ℕ) (count : ℕ)
    → o.length + count ≤ segment_limit
    → are_plain service (take count bytes) ≡ true
    → p ≡ with_bytes o (take count bytes)
    → run (record { service = service; segments = segments; place = InData o }) (take count bytes)
    ≡ Ok (record { service = service; segments = segments; place = InData p })
run_taken service segments o p bytes count fits plain after =
    let made : Open → Result Reading TokenFault = λ (q : Open). Ok (record { service = service; segments = segments; place = InData q }) in
    run_plain service segments o (take count bytes) (omega (arith, length-take count bytes)) plain ∙ ap made (sym after)

-- the front of a text within the limit
front_is : (text : List ℕ) (n limit : ℕ) → n ≡ min (length text) limit → take n text ≡ take limit text
front_is text n limit e =
    let swapped : n ≡ min limit (length text) = omega arith in
    ap (λ (k : ℕ). take k text) swapped ∙ take_min limit text

pub tokens_of-fails : (fault : TokenFault) (text : List ℕ) (n : ℕ) (r : Reading)
    → r ≡ start
    → n ≡ min (length text) text_limit
    → GivesFault fault (run r (take n text))
    → GivesFault fault (tokens_of text)
tokens_of-fails fault text n r begins e fails =
    let same : run r (take n text) ≡ run start (take text_limit text) =
    ap (λ (s : Reading). run s (take n text)) begins ∙ ap (run start) (front_is text n text_limit e) in
    GivesFault-then fault (run start (take text_limit text))
    (λ r. if nat_lt text_limit (length text) then Err TooLong else finish r) (subst (GivesFault fault) same fails)

tokens_of-is : (text : List ℕ) (n : ℕ) (r last : Reading) → r ≡ start → n ≡ min (length text) text_limit → run r (take n text) ≡ Ok last
    → tokens_of text ≡ (if nat_lt text_limit (length text) then Err TooLong else finish last)
tokens_of-is text n r last begins e came =
    let same : run start (take text_limit text) ≡ Ok last =
    sym (ap (λ (s : Reading). run s (take n text)) begins ∙ ap (run start) (front_is text n text_limit e)) ∙ came in
    ap (λ (s : Result Reading TokenFault). s >>= λ r. if nat_lt text_limit (length text) then Err TooLong else finish r) same

pub tokens_of-long : (text : List ℕ) (n : ℕ) (r last : Reading)
    → r ≡ start
    → n ≡ min (length text) text_limit
    → run r (take n text) ≡ Ok last
    → text_limit < length text
    → tokens_of text ≡ Err TooLong
tokens_of-long text n r last begins e came long =
    tokens_of-is text n r last begins e came ∙ ap (λ b. if b then Err TooLong else finish last) (is_less text_limit (length text) long)

pub tokens_of-short : (text : List ℕ) (n : ℕ) (r last : Reading)
    → r ≡ start
    → n ≡ min (length text) text_limit
    → run r (take n text) ≡ Ok last
    → length text ≤ text_limit
    → tokens_of text ≡ finish last
tokens_of-short text n r last begins e came short =
    tokens_of-is text n r last begins e came ∙ ap (λ b. if b then Err TooLong else finish last) (le-ltb text_limit (length text) short)
