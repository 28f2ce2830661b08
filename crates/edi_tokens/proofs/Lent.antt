-- What a run does to the segments before it, and which faults it can have.
use Rattle.std.proofs.Common.{◌≡◌, ℕ, Bool, true, false, List, [], ◌∷◌, ◌++◌, Option, Some, None, Result, Ok, Err, refl, sym, ap, subst}
use Rattle.std.proofs.Common.{◌∙◌, append_assoc, length}
use Rattle.std.specs.Prelude.{◌==◌, ◌||◌, nat_lt, if◌then◌else◌}
use Rattle.std.proofs.lemmas.List.{append-nil}
use Rattle.edi_segments.specs.declared.segment.Service.{Service}
use Rattle.edi_segments.specs.declared.segment.Segment.{Segment}
use Rattle.edi_segments.specs.declared.machine.Machine.{Machine}
use Rattle.edi_segments.specs.declared.fault.TokenFault.{TokenFault}
use Rattle.edi_segments.specs.Characters.{is_line_end, is_capital, is_digit, is_data, is_special}
use Rattle.edi_segments.specs.Service.{service_of}
use Rattle.edi_segments.specs.Spelling.{segment_limit}
use Rattle.edi_segments.specs.Reading.{Reading, BytePlace, Outside, InService, InTag, InData, Released}
use Rattle.edi_segments.specs.Reading.{Open, adopt, step, step_at, step_data, step_released}
use Rattle.edi_segments.specs.Reading.{run, ◌>>=◌}
use Rattle.edi_segments.specs.Machine.{reading_of, after}
use Rattle.edi_tokens.specs.Lender.{IsOfText}

-- the same, behind segments
abbrev pub behind : List Segment → Reading → Reading
behind before r = record { service = r.service; segments = before ++ r.segments; place = r.place }

abbrev pub all_behind : List Segment → Result Reading TokenFault → Result Reading TokenFault
all_behind before (Ok r) = Ok (behind before r)
all_behind before (Err fault) = Err fault

abbrev pub came : Reading → Result Reading TokenFault
came r = Ok r

module _ (before : List Segment) where
  either : (t : Bool) (x y x' y' : Result Reading TokenFault) → x' ≡ all_behind before x → y' ≡ all_behind before y
      → (if t then x' else y') ≡ all_behind before (if t then x else y)
  either true x y x' y' e f = e
  either false x y x' y' e f = f

  adopted : (r : Reading) (o : Option Service) → adopt (behind before r) o ≡ all_behind before (adopt r o)
  adopted r None = refl
  adopted r (Some s) = refl

  one_ended : (r : Reading) (x : Segment)
      → came (record { service = r.service; segments = (before ++ r.segments) ++ x ∷ []; place = Outside false })
      ≡ came (record { service = r.service; segments = before ++ (r.segments ++ x ∷ []); place = Outside false })
  one_ended r x =
      ap (λ (l : List Segment). came (record { service = r.service; segments = l; place = Outside false }))
      (append_assoc before r.segments (x ∷ []))

  data_behind : (r : Reading) (o : Open) (b : ℕ) → step_data (behind before r) o b ≡ all_behind before (step_data r o b)
  data_behind r o b =
      either (is_special r.service b) _ _ _ _
      (either (b == r.service.component) _ _ _ _ refl
      (either (b == r.service.element) _ _ _ _ refl
      (either (b == r.service.terminator) _ _ _ _ (one_ended r _) refl)))
      (either (is_data b) _ _ _ _ refl refl)

  released_behind : (r : Reading) (o : Open) (b : ℕ) → step_released (behind before r) o b ≡ all_behind before (step_released r o b)
  released_behind r o b = either (is_data b) _ _ _ _ refl refl

  step_behind : (r : Reading) (p : BytePlace) (b : ℕ) → step_at (behind before r) p b ≡ all_behind before (step_at r p b)
  step_behind r (Outside fresh) b = either (is_line_end b) _ _ _ _ refl (either (is_capital b) _ _ _ _ refl refl)
  step_behind r (InService six) b =
      either (nat_lt (length six) 5) _ _ _ _ refl (adopted r (service_of (six ++ b ∷ [])))
  step_behind r (InTag fresh tag) b =
      either (nat_lt (length tag) 3) _ _ _ _ (either (is_capital b || is_digit b) _ _ _ _ refl refl)
      (either (b == r.service.element) _ _ _ _ refl (either (b == r.service.terminator) _ _ _ _ (one_ended r _) refl))
  step_behind r (InData o) b = either (o.length == segment_limit) _ _ _ _ refl (data_behind r o b)
  step_behind r (Released o) b = either (o.length == segment_limit) _ _ _ _ refl (released_behind r o b)

  pub run_behind : (r : Reading) (bytes : List ℕ) → run (behind before r) bytes ≡ all_behind before (run r bytes)
  run_behind r [] = refl
  run_behind r (b ∷ bytes) =
      ap (λ (s : Result Reading TokenFault). s >>= λ next. run next bytes) (step_behind r r.place b)
      ∙ elim (step r b) as (λ s. (all_behind before s >>= λ next. run next bytes) ≡ all_behind before (s >>= λ next. run next bytes))
      [ Ok next ↦ run_behind next bytes | Err e ↦ refl ]

none_before : (lent : List Segment) (m : Machine) → behind lent (reading_of [] m) ≡ reading_of lent m
none_before lent m =
    ap (λ (l : List Segment). reading_of l m) (append-nil lent)

pub run_lent : (lent : List Segment) (m next : Machine) (ended : Bool) (bytes : List ℕ)
    → run (reading_of [] m) bytes ≡ Ok (after [] ended next) → run (reading_of lent m) bytes ≡ Ok (after lent ended next)
run_lent lent m next true bytes e =
    ap (λ (r : Reading). run r bytes) (sym (none_before lent m)) ∙ run_behind lent (reading_of [] m) bytes ∙ ap (all_behind lent) e
run_lent lent m next false bytes e =
    ap (λ (r : Reading). run r bytes) (sym (none_before lent m)) ∙ run_behind lent (reading_of [] m) bytes ∙ ap (all_behind lent) e
    ∙ ap came (none_before lent next)

pub run_lent_fails : (lent : List Segment) (m : Machine) (bytes : List ℕ) (fault : TokenFault)
    → run (reading_of [] m) bytes ≡ Err fault → run (reading_of lent m) bytes ≡ Err fault
run_lent_fails lent m bytes fault e =
    ap (λ (r : Reading). run r bytes) (sym (none_before lent m)) ∙ run_behind lent (reading_of [] m) bytes ∙ ap (all_behind lent) e

-- ---- the faults of a run

abbrev FaultOfText : Result Reading TokenFault → Type 0
FaultOfText (Ok r) = Unit {0}
FaultOfText (Err fault) = IsOfText fault

choice : (t : Bool) (x y : Result Reading TokenFault) → FaultOfText x → FaultOfText y → FaultOfText (if t then x else y)
choice true x y a b = a
choice false x y a b = b

adopt_text : (r : Reading) (o : Option Service) → FaultOfText (adopt r o)
adopt_text r None = tt
adopt_text r (Some s) = tt

data_text : (r : Reading) (o : Open) (b : ℕ) → FaultOfText (step_data r o b)
data_text r o b =
    choice (is_special r.service b) _ _
    (choice (b == r.service.component) _ _ tt (choice (b == r.service.element) _ _ tt (choice (b == r.service.terminator) _ _ tt tt)))
    (choice (is_data b) _ _ tt tt)

step_text : (r : Reading) (p : BytePlace) (b : ℕ) → FaultOfText (step_at r p b)
step_text r (Outside fresh) b = choice (is_line_end b) _ _ tt (choice (is_capital b) _ _ tt tt)
step_text r (InService six) b = choice (nat_lt (length six) 5) _ _ tt (adopt_text r (service_of (six ++ b ∷ [])))
step_text r (InTag fresh tag) b =
    choice (nat_lt (length tag) 3) _ _ (choice (is_capital b || is_digit b) _ _ tt tt)
    (choice (b == r.service.element) _ _ tt (choice (b == r.service.terminator) _ _ tt tt))
step_text r (InData o) b = choice (o.length == segment_limit) _ _ tt (data_text r o b)
step_text r (Released o) b = choice (o.length == segment_limit) _ _ tt (choice (is_data b) _ _ tt tt)

run_of_text : (r : Reading) (bytes : List ℕ) → FaultOfText (run r bytes)
run_of_text r [] = tt
run_of_text r (b ∷ bytes) =
    (elim (step r b) as (λ s. FaultOfText s → FaultOfText (s >>= λ next. run next bytes))
    [ Ok next ↦ λ _. run_of_text next bytes | Err e ↦ λ text. text ]) (step_text r r.place b)

pub run_text : (r : Reading) (bytes : List ℕ) (fault : TokenFault) → run r bytes ≡ Err fault → IsOfText fault
run_text r bytes fault e = subst FaultOfText e (run_of_text r bytes)
