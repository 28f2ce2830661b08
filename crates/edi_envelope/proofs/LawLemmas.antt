-- The lowest condition that holds, found in the list of all faults.
use Rattle.std.proofs.Common.{◌≡◌, ◌≤◌, length, ◌⊎◌, inl, inr, List, false, Option, Some, None}
use Rattle.std.proofs.Common.{Ok, Err, refl, sym, ap, ◌∙◌, arith}
use Rattle.std.proofs.lemmas.Bool.{ltb-false}
use Rattle.std.proofs.lemmas.List.{length-map}
use Rattle.edi_base.proofs.Lowest.{Among, RiseAbove, RiseAbove-from_test, holds_here, none_lower, is_found, all_false, is_none}
use Rattle.edi_envelope.specs.Message.{message_of}
use Rattle.edi_segments.specs.declared.segment.Segment.{Segment}
use Rattle.edi_envelope.specs.declared.fault.EnvelopeFault.{EnvelopeFault}
use Rattle.edi_envelope.specs.declared.fault.EnvelopeFault.TheVariants.{InterchangeFrame, InterchangeHeader, MessageFrame}
use Rattle.edi_envelope.specs.declared.fault.EnvelopeFault.TheVariants.{MessageHeader, SegmentCount, MessageReference}
use Rattle.edi_envelope.specs.declared.fault.EnvelopeFault.TheVariants.{MessageCount, ControlReference, RepeatedReference}
use Rattle.edi_envelope.specs.declared.fault.EnvelopeFault.TheVariants.{TestIndicator, TooManyMessages, CharacterSet}
use Rattle.edi_envelope.specs.declared.fault.EnvelopeFault.TheVariants.{Memory}
use Rattle.edi_envelope.specs.Fault.{number}
use Rattle.edi_segments.specs.declared.segment.Tokens.{Tokens}
use Rattle.edi_envelope.specs.declared.interchange.Interchange.{Interchange}
use Rattle.edi_envelope.specs.Interchange.{holds, faults, fault_of, checked, contents_of, interchange_of, messages_in}
use Rattle.edi_envelope.specs.Law.{IsLowestEnvelopeFault, HasNoEnvelopeFault}

rising : RiseAbove number 0 faults
rising = RiseAbove-from_test number 0 faults refl

-- each fault but out of memory is listed
listed : (f : EnvelopeFault) → (f ≡ Memory) ⊎ Among f faults
listed InterchangeFrame = inr (inl refl)
listed InterchangeHeader = inr (inr (inl refl))
listed MessageFrame = inr (inr (inr (inl refl)))
listed MessageHeader = inr (inr (inr (inr (inl refl))))
listed SegmentCount = inr (inr (inr (inr (inr (inl refl)))))
listed MessageReference = inr (inr (inr (inr (inr (inr (inl refl))))))
listed MessageCount = inr (inr (inr (inr (inr (inr (inr (inl refl)))))))
listed ControlReference = inr (inr (inr (inr (inr (inr (inr (inr (inl refl))))))))
listed RepeatedReference = inr (inr (inr (inr (inr (inr (inr (inr (inr (inl refl)))))))))
listed TestIndicator = inr (inr (inr (inr (inr (inr (inr (inr (inr (inr (inl refl))))))))))
listed TooManyMessages = inr (inr (inr (inr (inr (inr (inr (inr (inr (inr (inr (inl refl)))))))))))
listed CharacterSet = inr (inr (inr (inr (inr (inr (inr (inr (inr (inr (inr (inr (inl refl))))))))))))
listed Memory = inl refl

-- out of memory is no condition
not_memory : (f : EnvelopeFault) (segments : List Segment) → f ≡ Memory → holds f segments ≡ false
not_memory f segments e = rw e refl

-- each fault holds nowhere, or is listed
listed_or_false : (segments : List Segment) (f : EnvelopeFault) → (holds f segments ≡ false) ⊎ Among f faults
listed_or_false segments f =
    elim (listed f) [ inl memory ↦ inl (not_memory f segments memory) | inr among ↦ inr among ]

module _ (segments : List Segment) where
  pub IsLowestEnvelopeFault-from_fault_of : (f : EnvelopeFault) → fault_of segments ≡ Some f → IsLowestEnvelopeFault f segments
  unfolding fault_of
  IsLowestEnvelopeFault-from_fault_of f h = record {
    here = holds_here number (λ fault. holds fault segments) faults rising (listed_or_false segments) f h;
    lower = none_lower number (λ fault. holds fault segments) faults rising (listed_or_false segments) f h;
  }

  pub fault_of-lowest : (f : EnvelopeFault) → IsLowestEnvelopeFault f segments → fault_of segments ≡ Some f
  unfolding fault_of
  fault_of-lowest f h =
      is_found number (λ fault. holds fault segments) faults rising (listed_or_false segments) f h.here h.lower

  pub HasNoEnvelopeFault-from_none : fault_of segments ≡ None → HasNoEnvelopeFault segments
  unfolding fault_of
  HasNoEnvelopeFault-from_none h = all_false number (λ fault. holds fault segments) faults rising (listed_or_false segments) h

  pub fault_of-none : HasNoEnvelopeFault segments → fault_of segments ≡ None
  unfolding fault_of
  fault_of-none h = is_none number (λ fault. holds fault segments) faults rising (listed_or_false segments) h

checked_fault : (found : Option EnvelopeFault) (contents : Interchange) (f : EnvelopeFault) → checked found contents ≡ Err f
    → found ≡ Some f
checked_fault None contents f h = cc
checked_fault (Some g) contents f h = cc

checked_contents : (found : Option EnvelopeFault) (contents i : Interchange) → checked found contents ≡ Ok i
    → (found ≡ None) × (i ≡ contents)
checked_contents None contents i h = (refl, cc)
checked_contents (Some g) contents i h = cc

pub fault_law : (tokens : Tokens) (f : EnvelopeFault)
    → (interchange_of tokens ≡ Err f → IsLowestEnvelopeFault f tokens.segments)
    × (IsLowestEnvelopeFault f tokens.segments → interchange_of tokens ≡ Err f)
unfolding interchange_of
fault_law tokens f = (
  (λ h. IsLowestEnvelopeFault-from_fault_of tokens.segments f (checked_fault (fault_of tokens.segments) (contents_of tokens) f h)),
  (λ h. ap (λ found. checked found (contents_of tokens)) (fault_of-lowest tokens.segments f h)),
)

pub contents_law : (tokens : Tokens) (i : Interchange)
    → interchange_of tokens ≡ Ok i
    → HasNoEnvelopeFault tokens.segments × (i ≡ contents_of tokens)
unfolding interchange_of
contents_law tokens i h =
    let both = checked_contents (fault_of tokens.segments) (contents_of tokens) i h in
    (HasNoEnvelopeFault-from_none tokens.segments both.0, both.1)

pub contents_again : (tokens : Tokens) (i : Interchange)
    → HasNoEnvelopeFault tokens.segments
    → i ≡ contents_of tokens
    → interchange_of tokens ≡ Ok i
unfolding interchange_of
contents_again tokens i h e = ap (λ found. checked found (contents_of tokens)) (fault_of-none tokens.segments h) ∙ ap Ok (sym e)

-- an interchange has at most 999 messages
pub few_messages : (tokens : Tokens) (i : Interchange) → interchange_of tokens ≡ Ok i → length i.messages ≤ 999
unfolding contents_of
few_messages tokens i h =
    let both = contents_law tokens i h in
    let few : length (messages_in tokens.segments) ≤ 999 = ltb-false _ _ (both.0 TooManyMessages) in
    let same : length i.messages ≡ length (messages_in tokens.segments) =
    ap (λ (x : Interchange). length x.messages) both.1 ∙ length-map (messages_in tokens.segments) message_of in
    omega arith
