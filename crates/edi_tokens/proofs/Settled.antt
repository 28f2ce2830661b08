-- Once a segment has come, the service characters stay.
use Rattle.std.proofs.Common.{◌≡◌, ◌≢◌, ◌⊎◌, ◌-◌, inl, inr, ℕ, Bool, true, false}
use Rattle.std.proofs.Common.{List, [], ◌∷◌, ◌++◌, length, take, Option, Some, None}
use Rattle.std.proofs.Common.{Result, Ok, Err, refl, sym, ap, subst, ◌∙◌, arith}
use Rattle.std.specs.Prelude.{◌==◌, ◌||◌, nat_lt, if◌then◌else◌}
use Rattle.edi_tokens.specs.declared.lender.Lender.{Lender}
use Rattle.edi_segments.specs.declared.segment.Service.{Service}
use Rattle.edi_segments.specs.declared.segment.Segment.{Segment}
use Rattle.edi_segments.specs.declared.segment.Tokens.{Tokens}
use Rattle.edi_segments.specs.declared.fault.TokenFault.{TokenFault}
use Rattle.edi_segments.specs.declared.fault.TokenFault.TheVariants.{TooLong}
use Rattle.edi_segments.specs.Characters.{is_line_end, is_capital, is_digit, is_data, is_special}
use Rattle.edi_segments.specs.Service.{service_of}
use Rattle.edi_segments.specs.Spelling.{segment_limit, text_limit}
use Rattle.edi_segments.specs.Reading.{Reading, BytePlace, Outside, InService, InTag, InData}
use Rattle.edi_segments.specs.Reading.{Released, Open, adopt, start, step, step_at, step_data}
use Rattle.edi_segments.specs.Reading.{run, finish, finish_at, is_settled, tokens_of, ◌>>=◌}
use Rattle.edi_segments.specs.Machine.{reading_of}
use Rattle.edi_tokens.specs.Lender.{Fed, known_service}
use Rattle.edi_segments.proofs.Runs.{run-append}
use Rattle.edi_tokens.proofs.Lending.{fits, front_within}

-- the place is settled, with these characters
abbrev KeepsService : Service → Result Reading TokenFault → Type 0
KeepsService s (Ok r) = (is_settled r.place ≡ true) × (r.service ≡ s)
KeepsService s (Err fault) = Unit {0}

module _ (s : Service) where
  choice : (t : Bool) (x y : Result Reading TokenFault) → KeepsService s x → KeepsService s y → KeepsService s (if t then x else y)
  choice true x y a b = a
  choice false x y a b = b

data_keeps : (r : Reading) (o : Open) (b : ℕ) → KeepsService r.service (step_data r o b)
data_keeps r o b =
    choice r.service (is_special r.service b) _ _
    (choice r.service (b == r.service.component) _ _ (refl, refl)
    (choice r.service (b == r.service.element) _ _ (refl, refl)
    (choice r.service (b == r.service.terminator) _ _ (refl, refl) (refl, refl))))
    (choice r.service (is_data b) _ _ (refl, refl) tt)

step_keeps : (r : Reading) (p : BytePlace) (b : ℕ) → is_settled p ≡ true → KeepsService r.service (step_at r p b)
step_keeps r (Outside true) b e = absurd cc
step_keeps r (Outside false) b e =
    choice r.service (is_line_end b) _ _ (refl, refl) (choice r.service (is_capital b) _ _ (refl, refl) tt)
step_keeps r (InService six) b e = absurd cc
step_keeps r (InTag true tag) b e = absurd cc
step_keeps r (InTag false tag) b e =
    choice r.service (nat_lt (length tag) 3) _ _ (choice r.service (is_capital b || is_digit b) _ _ (refl, refl) tt)
    (choice r.service (b == r.service.element) _ _ (refl, refl) (choice r.service (b == r.service.terminator) _ _ (refl, refl) tt))
step_keeps r (InData o) b e = choice r.service (o.length == segment_limit) _ _ tt (data_keeps r o b)
step_keeps r (Released o) b e =
    choice r.service (o.length == segment_limit) _ _ tt (choice r.service (is_data b) _ _ (refl, refl) tt)

run_keeps : (r : Reading) (bytes : List ℕ) → is_settled r.place ≡ true → KeepsService r.service (run r bytes)
run_keeps r [] e = (e, refl)
run_keeps r (b ∷ bytes) e =
    (elim (step r b) as (λ s. KeepsService r.service s → KeepsService r.service (s >>= λ next. run next bytes)) [
      | Ok next ↦ λ k. subst (λ (s : Service). KeepsService s (run next bytes)) k.1 (run_keeps next bytes k.0)
      | Err fault ↦ λ k. k
    ]) (step_keeps r r.place b e)

-- where a segment has come, the place is settled
abbrev IsLent : Result Reading TokenFault → Type 0
IsLent (Ok r) = (r.segments ≡ []) ⊎ (is_settled r.place ≡ true)
IsLent (Err fault) = Unit {0}

pick : (t : Bool) (x y : Result Reading TokenFault) → IsLent x → IsLent y → IsLent (if t then x else y)
pick true x y a b = a
pick false x y a b = b

of_keeps : (s : Service) (x : Result Reading TokenFault) → KeepsService s x → IsLent x
of_keeps s (Ok r) k = inr k.0
of_keeps s (Err fault) k = tt

adopt_none : (r : Reading) (o : Option Service) → r.segments ≡ [] → IsLent (adopt r o)
adopt_none r None e = tt
adopt_none r (Some s) e = inl e

step_none : (r : Reading) (p : BytePlace) (b : ℕ) → r.segments ≡ [] → IsLent (step_at r p b)
step_none r (Outside fresh) b e = pick (is_line_end b) _ _ (inl e) (pick (is_capital b) _ _ (inl e) tt)
step_none r (InService six) b e = pick (nat_lt (length six) 5) _ _ (inl e) (adopt_none r (service_of (six ++ b ∷ [])) e)
step_none r (InTag fresh tag) b e =
    pick (nat_lt (length tag) 3) _ _ (pick (is_capital b || is_digit b) _ _ (inl e) tt)
    (pick (b == r.service.element) _ _ (inl e) (pick (b == r.service.terminator) _ _ (inr refl) tt))
step_none r (InData o) b e = of_keeps r.service _ (step_keeps r (InData o) b refl)
step_none r (Released o) b e = of_keeps r.service _ (step_keeps r (Released o) b refl)

step_lent : (r : Reading) (b : ℕ) → (r.segments ≡ []) ⊎ (is_settled r.place ≡ true) → IsLent (step r b)
step_lent r b (inl e) = step_none r r.place b e
step_lent r b (inr e) = of_keeps r.service _ (step_keeps r r.place b e)

run_lent : (r : Reading) (bytes : List ℕ) → (r.segments ≡ []) ⊎ (is_settled r.place ≡ true) → IsLent (run r bytes)
run_lent r [] e = e
run_lent r (b ∷ bytes) e =
    (elim (step r b) as (λ s. IsLent s → IsLent (s >>= λ next. run next bytes)) [
      | Ok next ↦ λ k. run_lent next bytes k
      | Err fault ↦ λ k. k
    ]) (step_lent r b e)

-- a text that is read has these characters
abbrev SaysService : Service → Result Tokens TokenFault → Type 0
SaysService s (Ok tokens) = tokens.service ≡ s
SaysService s (Err fault) = Unit {0}

finish_says : (r : Reading) (p : BytePlace) → SaysService r.service (finish_at r p)
finish_says r (Outside fresh) = refl
finish_says r (InService six) = tt
finish_says r (InTag fresh tag) = tt
finish_says r (InData o) = tt
finish_says r (Released o) = tt

run_says : (s : Service) (x : Result Reading TokenFault) (long : Bool) → KeepsService s x
    → SaysService s (x >>= λ r. if long then Err TooLong else finish r)
run_says s (Ok r) true k = tt
run_says s (Ok r) false k = subst (λ (t : Service). SaysService t (finish r)) k.1 (finish_says r r.place)
run_says s (Err fault) long k = tt

is_second : {A B : Type 0} → A ⊎ B → (A → ⊥) → B
is_second (inl a) never = absurd (never a)
is_second (inr b) never = b

module _ (known : Option (List ℕ)) (all : List ℕ) (lent : List Segment) (l : Lender) (fed : Fed known all lent l) (some : lent ≢ []) where
  settled : is_settled (reading_of lent l.machine).place ≡ true
  settled = is_second (subst IsLent fed.read_as (run_lent start fed.taken (inl refl))) some

  pub settled_known : known_service l ≡ Some l.machine.service
  settled_known = ap (λ b. if b then Some l.machine.service else None) settled

  abbrev more : List ℕ
  more = take (text_limit - length fed.taken) (l.piece ++ fed.left)

  runs : run start (take text_limit all) ≡ run (reading_of lent l.machine) more
  runs =
      ap (λ (bytes : List ℕ). run start (take text_limit bytes)) fed.all_is
      ∙ ap (run start) (front_within text_limit fed.taken (l.piece ++ fed.left) (omega (arith, fits known all lent l fed)))
      ∙ run-append start fed.taken more
      ∙ ap (λ (x : Result Reading TokenFault). x >>= λ next. run next more) fed.read_as

  says : SaysService l.machine.service (tokens_of all)
  says =
      subst (λ (x : Result Reading TokenFault). SaysService l.machine.service
      (x >>= λ r. if nat_lt text_limit (length all) then Err TooLong else finish r))
      (sym runs)
      (run_says l.machine.service (run (reading_of lent l.machine) more) (nat_lt text_limit (length all))
      (run_keeps (reading_of lent l.machine) more settled))

  pub settled_service : (tokens : Tokens) → tokens_of all ≡ Ok tokens → tokens.service ≡ l.machine.service
  settled_service tokens e = subst (SaysService l.machine.service) e says
