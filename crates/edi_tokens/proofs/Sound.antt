-- What reading gives, the grammar says: the segments are spelled, the fault is shown.
use Rattle.std.proofs.Common.{◌≡◌, ℕ, ◌<◌, ◌≤◌, cond, ltb, List, [], ◌∷◌, ◌++◌, length, take, drop, None, Result, Ok, Err}
use Rattle.std.proofs.Common.{refl, sym, ap, subst, ◌∙◌, append_assoc, arith, inl, inr}
use Rattle.std.proofs.lemmas.List.{take-append-drop, length-take, length-append, length-drop, take_all}
use Rattle.std.proofs.lemmas.Bool.{cases_Bool, ltb-true, ltb-false, ne_eqb, eq-eqb}
use Rattle.edi_segments.specs.declared.segment.Service.{Service}
use Rattle.edi_segments.specs.declared.segment.Segment.{Segment}
use Rattle.edi_segments.specs.declared.segment.Tokens.{Tokens}
use Rattle.edi_segments.specs.declared.fault.TokenFault.{TokenFault}
use Rattle.edi_segments.specs.declared.fault.TokenFault.TheVariants.{TooLong}
use Rattle.edi_segments.specs.Spelling.{text_limit, Spells}
use Rattle.edi_segments.specs.Reading.{BytePlace, Outside, InService, InTag, InData, Released, Reading, start, run, ◌>>=◌, finish}
use Rattle.edi_segments.specs.Reading.{finish_at, tokens_of}
use Rattle.edi_tokens.specs.Fault.{EndsAt, EndsIn, Shows}
use Rattle.edi_tokens.proofs.Steps.{Runs, StopsAtByte, run_leads}

-- the empty text is a valid front
pub start_ends : EndsIn [] start
start_ends = record {
  whole = record { advice = None; body = []; tail = []; text_is = refl; advises = (refl, tt); body_spells = refl; tail_is = tt };
  fresh_is = refl;
}

abbrev pub SpellsOrShows : List ℕ → Result Tokens TokenFault → Type 0
SpellsOrShows text (Ok tokens) = Spells text tokens.service tokens.segments
SpellsOrShows text (Err fault) = Shows text fault

stops_early : (text : List ℕ) (fault : TokenFault) → StopsAtByte (take text_limit text) fault → Shows text fault
stops_early text fault stop =
    let shorter : length stop.front < text_limit =
    omega (arith, length-take text_limit text, ap length stop.text_is, length-append stop.front (stop.byte ∷ stop.rest)) in
    inl (record {
      front = stop.front;
      byte = stop.byte;
      rest = stop.rest ++ drop text_limit text;
      reading = stop.reading;
      text_is =
          sym (take-append-drop text_limit text)
          ∙ ap (λ (t : List ℕ). t ++ drop text_limit text) stop.text_is
          ∙ append_assoc stop.front (stop.byte ∷ stop.rest) (drop text_limit text);
      front_ends = stop.front_ends;
      is_first = omega arith;
      shows = rw (ne_eqb (length stop.front) text_limit (λ e. absurd (omega arith))) stop.shows;
    })

stops_late : (text : List ℕ) (r : Reading) (rest : List ℕ)
    → text_limit < length text
    → EndsIn (take text_limit text) r
    → drop text_limit text ≡ rest
    → Shows text TooLong
stops_late text r [] long e is = absurd (omega (arith, length-drop text_limit text, ap length is))
stops_late text r (b ∷ rest) long e is =
    inl (record {
      front = take text_limit text;
      byte = b;
      rest = rest;
      reading = r;
      text_is = sym (take-append-drop text_limit text) ∙ ap (λ (t : List ℕ). take text_limit text ++ t) is;
      front_ends = e;
      is_first = omega (arith, length-take text_limit text);
      shows = rw (eq-eqb (length (take text_limit text)) text_limit (omega (arith, length-take text_limit text))) refl;
    })

ends_well : (text : List ℕ) (s : Service) (segments : List Segment) (place : BytePlace)
    → length text ≤ text_limit
    → EndsAt text s segments place
    → SpellsOrShows text (finish_at (record { service = s; segments = segments; place = place }) place)
ends_well text s segments (Outside fresh) short e = record { whole = e.whole; is_short = short }
ends_well text s segments (InService six) short e =
    inr (record {
      reading = record { service = s; segments = segments; place = InService six };
      text_ends = e;
      is_short = short;
      shows = refl;
    })
ends_well text s segments (InTag fresh tag) short e =
    inr (record {
      reading = record { service = s; segments = segments; place = InTag fresh tag };
      text_ends = e;
      is_short = short;
      shows = refl;
    })
ends_well text s segments (InData o) short e =
    inr (record {
      reading = record { service = s; segments = segments; place = InData o };
      text_ends = e;
      is_short = short;
      shows = refl;
    })
ends_well text s segments (Released o) short e =
    inr (record {
      reading = record { service = s; segments = segments; place = Released o };
      text_ends = e;
      is_short = short;
      shows = refl;
    })

-- reading gives what is spelled, or the fault that is shown
pub is_read : (text : List ℕ) → SpellsOrShows text (tokens_of text)
is_read text = go (run start (take text_limit text)) (run_leads [] (take text_limit text) start start_ends)
  where
    go : (x : Result Reading TokenFault)
        → Runs (take text_limit text) x
        → SpellsOrShows text (x >>= λ r. cond (ltb text_limit (length text)) (Err TooLong) (finish r))
    go (Err fault) stop = stops_early text fault stop
    go (Ok r) e =
        elim (cases_Bool (ltb text_limit (length text))) [
          | inl long ↦ rw long (stops_late text r (drop text_limit text) (ltb-true _ _ long) e refl)
          | inr short ↦ let le : length text ≤ text_limit = ltb-false _ _ short in
              rw short (ends_well text r.service r.segments r.place le (subst (λ (t : List ℕ). EndsIn t r) (take_all text_limit text le) e))
        ]
