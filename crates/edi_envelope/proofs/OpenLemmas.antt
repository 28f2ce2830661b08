-- The check and what is kept, one more segment at a time, and the interchange at the end.
use Rattle.std.proofs.Common.{◌≡◌, ◌≢◌, ℕ, ◌≤◌, true, false, List, [], ◌∷◌, ◌++◌, length, Some, None, Result, Ok, Err}
use Rattle.std.proofs.Common.{refl, sym, ap, subst, ◌∙◌}
use Rattle.std.specs.Prelude.{OnOk, IfOk}
use Rattle.std.proofs.lemmas.Bool.{true≢false, false≢true, not-false}
use Rattle.edi_segments.specs.declared.segment.Segment.{Segment}
use Rattle.edi_segments.specs.declared.segment.Tokens.{Tokens}
use Rattle.edi_envelope.specs.declared.fault.EnvelopeFault.{EnvelopeFault}
use Rattle.edi_envelope.specs.declared.fault.EnvelopeFault.TheVariants.{InterchangeFrame}
use Rattle.edi_envelope.specs.declared.interchange.Interchange.{Interchange}
use Rattle.edi_envelope.specs.declared.check.EnvelopeCheck.{EnvelopeCheck}
use Rattle.edi_envelope.specs.declared.check.Place.{Place}
use Rattle.edi_envelope.specs.declared.check.Place.TheVariants as place
use Rattle.edi_envelope.specs.declared.gathering.Gathered.{Gathered}
use Rattle.edi_envelope.specs.declared.opening.Opening.{Opening}
use Rattle.edi_envelope.specs.Segments.{is_unb, first_segment}
use Rattle.edi_envelope.specs.Header.{head_of}
use Rattle.edi_envelope.specs.Interchange.{is_framed, fault_of, contents_of, interchange_of, checked}
use Rattle.edi_envelope.specs.Check.{Checked, Placed, is_fine}
use Rattle.edi_envelope.specs.Gathered.{head_in, Gathers, EndsMessages, IsInterchangeOf, OpeningStands, IsChecked}
use Rattle.edi_envelope.proofs.FrameLemmas.{framed_unb, framed_unz}
use Rattle.edi_envelope.proofs.JoinLemmas.{same_interchange}
use Rattle.edi_envelope.proofs.LawLemmas.{HasNoEnvelopeFault-from_none, contents_again, few_messages}

-- one more segment, which is kept
module _ (lent : List Segment) (s t : Segment) (o : Opening) (check : EnvelopeCheck) (stands : Place) (same : t ≡ s)
    (before : OpeningStands lent o)
    (checked_next : Checked (lent ++ t ∷ []) check) (placed : Placed stands lent t)
    (refused : (stands ≡ place.Refused) → is_fine check ≡ false)
    (for_good : is_fine check ≡ true → is_fine o.check ≡ true) where
  checked_so : Checked (lent ++ s ∷ []) check
  checked_so = subst (λ (x : Segment). Checked (lent ++ x ∷ []) check) same checked_next

  placed_so : Placed stands lent s
  placed_so = subst (λ (x : Segment). Placed stands lent x) same placed

  pub keeps : {E A : Type 0} (r : Result A E) (gathered : Gathered)
      → (Gathers lent o.gathered → stands ≢ place.Refused → Placed stands lent s → OnOk r (Gathers (lent ++ s ∷ []) gathered))
      → OnOk r (OpeningStands (lent ++ s ∷ []) (record { check = check; gathered = gathered }))
  keeps (Ok a) gathered kept = record {
    checked = checked_so;
    kept = λ fine. kept (before.kept (for_good fine)) (λ e. true≢false (sym fine ∙ refused e)) placed_so;
  }
  keeps (Err e) gathered kept = tt

  pub drops : (gathered : Gathered) → stands ≡ place.Refused
      → OpeningStands (lent ++ s ∷ []) (record { check = check; gathered = gathered })
  drops gathered is = record { checked = checked_so; kept = λ fine. absurd (true≢false (sym fine ∙ refused is)) }

-- ---- the end

pub interchange_of-fault : (tokens : Tokens) (fault : EnvelopeFault) →
    fault_of tokens.segments ≡ Some fault → interchange_of tokens ≡ Err fault
unfolding interchange_of
interchange_of-fault tokens fault h = ap (λ f. checked f (contents_of tokens)) h

head_first : (xs : List Segment) → is_unb (first_segment xs) ≡ true → head_in xs ≡ Some (head_of (first_segment xs))
head_first [] h = absurd (false≢true h)
head_first (u ∷ m) h = refl

module _ (tokens : Tokens) (o : Opening) (stands : OpeningStands tokens.segments o) (none : fault_of tokens.segments ≡ None)
    (fine : is_fine o.check ≡ true) where
  framed : is_framed tokens.segments ≡ true
  framed = not-false _ (HasNoEnvelopeFault-from_none tokens.segments none InterchangeFrame)

  ended : EndsMessages tokens.segments o.gathered
  ended = (stands.kept fine).ended (framed_unz tokens.segments framed)

  head_is : o.gathered.head ≡ Some (head_of (first_segment tokens.segments))
  head_is = ended.head ∙ head_first tokens.segments (framed_unb tokens.segments framed)

  pub opened_as : (decimal : ℕ) (i : Interchange) → tokens.service.decimal ≡ decimal →
      IsInterchangeOf o.gathered decimal i → interchange_of tokens ≡ Ok i
  unfolding contents_of
  opened_as decimal i mark is =
      let heads : Some i.head ≡ Some (head_of (first_segment tokens.segments)) = sym is.head ∙ head_is in
      let head : i.head ≡ head_of (first_segment tokens.segments) = cc in
      contents_again tokens i (HasNoEnvelopeFault-from_none tokens.segments none)
      (same_interchange i (contents_of tokens) (is.decimal_is ∙ sym mark) head (is.messages ∙ ended.messages))

  pub has_head : o.gathered.head ≡ None → (r : Result Interchange EnvelopeFault) → interchange_of tokens ≡ r
  has_head e r =
      let some : None ≡ Some (head_of (first_segment tokens.segments)) = sym e ∙ head_is in cc

-- at most 999 messages, whatever the service characters
pub few_opened : (lent : List Segment) (decimal : ℕ) (r : Result Interchange EnvelopeFault)
    → ((tokens : Tokens) → tokens.segments ≡ lent → tokens.service.decimal ≡ decimal → IsChecked r (interchange_of tokens))
    → IfOk r (λ i. length i.messages ≤ 999)
few_opened lent decimal (Ok i) h =
    let tokens : Tokens = record {
      service = record { component = 0; element = 0; decimal = decimal; release = None; terminator = 0 };
      segments = lent;
    } in
    few_messages tokens i (h tokens refl refl)
few_opened lent decimal (Err fault) h = tt

pub few_from : (tokens : Tokens) (r : Result Interchange EnvelopeFault) → IfOk r (λ i. interchange_of tokens ≡ Ok i)
    → IfOk r (λ i. length i.messages ≤ 999)
few_from tokens (Ok i) h = few_messages tokens i h
few_from tokens (Err fault) h = tt
