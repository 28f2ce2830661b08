-- What is known of a message whose record is valid.
use Rattle.std.proofs.Common.{◌≡◌, ◌⊎◌, inl, inr, Bool, false, List, [], ◌∷◌, find, Option, Some, None, Ok, refl, sym, ap}
use Rattle.std.proofs.Common.{◌==◌, ◌∙◌}
use Rattle.std.proofs.lemmas.Bool.{cases_Bool}
use Rattle.edi_base.proofs.Lowest.{Among, RiseAbove, RiseAbove-from_test, all_false}
use Rattle.edi_messages.specs.Fault.{number, faults, unless, unless_any}
use Rattle.edi_messages.specs.declared.fault.MessageFault.{MessageFault}
use Rattle.edi_messages.specs.declared.fault.MessageFault.TheVariants as fault

pub rising : RiseAbove number 0 faults
rising = RiseAbove-from_test number 0 faults refl

found_among : (p : MessageFault → Bool) (among : List MessageFault) (f : MessageFault) → find p among ≡ Some f → Among f among
found_among p [] f h = absurd cc
found_among p (first ∷ others) f h =
    elim (cases_Bool (p first)) [
      | inl is ↦ let same : Some first ≡ Some f = sym (rw is refl) ∙ h in inl cc
      | inr not_ ↦ inr (found_among p others f (sym (rw not_ refl) ∙ h))
    ]

-- each fault but out of memory is listed: it is found by its number
listed : (f : MessageFault) → (f ≡ fault.Memory) ⊎ Among f faults
listed fault.Memory = inl refl
listed other = inr (found_among (λ one. number one == number other) faults other refl)

-- a test of each fault, which out of memory never passes
pub listed_or_false : (p : MessageFault → Bool) → p fault.Memory ≡ false → (f : MessageFault) → (p f ≡ false)
    ⊎ Among f faults
listed_or_false p no_memory f =
    elim (listed f) [ inl memory ↦ inl (ap p memory ∙ no_memory) | inr among ↦ inr among ]

pub content_found : {X : Type 0} (found : Option MessageFault) (content right : X)
    → unless found content ≡ Ok right
    → (found ≡ None) × (content ≡ right)
content_found None content right h = (refl, cc)
content_found (Some f) content right h = absurd cc

-- the record is the content
pub content_is : {X : Type 0} (holds : MessageFault → Bool) (content right : X)
    → unless_any holds content ≡ Ok right → content ≡ right
content_is holds content right h = (content_found (find holds faults) content right h).1

-- no condition holds
pub no_fault_holds : {X : Type 0} (holds : MessageFault → Bool) (content right : X)
    → holds fault.Memory ≡ false
    → unless_any holds content ≡ Ok right
    → (f : MessageFault)
    → holds f ≡ false
no_fault_holds holds content right no_memory h =
    all_false number holds faults rising (listed_or_false holds no_memory) (content_found (find holds faults) content right h).0
