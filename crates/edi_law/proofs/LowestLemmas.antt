-- Shows that the first fault found in the order of the checks is the one with the lowest number.
use Rattle.std.proofs.Common.{◌≡◌, ℕ, zero, suc, ◌<◌, true, false, Bool, Option, Some, None, Ok, Err, sym, ap, ◌∙◌}
use Rattle.std.proofs.Common.{arith, find}
use Rattle.std.specs.Prelude.{◌↔◌}
use Rattle.std.proofs.lemmas.Bool.{true≢false, true_from_ne_false}
use Rattle.edi_base.proofs.Lowest.{holds_here, none_lower, is_found, all_false, is_none}
use Rattle.edi_messages.specs.declared.fault.MessageFault.{MessageFault}
use Rattle.edi_messages.specs.declared.fault.MessageFault.TheVariants as faulty
use Rattle.edi_messages.specs.Fault.{number, faults, unless, unless_any}
use Rattle.edi_messages.proofs.Valid.{rising, listed_or_false, content_found}
use Rattle.edi_law.specs.Lowest.{IsLowest, IsFaultless}
use Rattle.edi_law.proofs.Deciding.{Refutes}

module _ {X : Type 0} where
  fault_found : (found : Option MessageFault) (content : X) (f : MessageFault) → unless found content ≡ Err f
      → found ≡ Some f
  fault_found None content f h = absurd cc
  fault_found (Some g) content f h = let e : g ≡ f = cc in ap Some e

  -- If what each lower number checks is valid, the test of a fault is false exactly if what its own number checks is
  -- valid.
  module _ (p : MessageFault → Bool) (IsRight : MessageFault → Type 0)
      (refutes : (f : MessageFault) → ((g : MessageFault) → number g < number f → IsRight g) → Refutes (p f)
      (IsRight f))
      (no_memory : p faulty.Memory ≡ false) (content : X) where
    lower_right : (n : ℕ) → ((g : MessageFault) → number g < n → p g ≡ false) → (g : MessageFault) → number g < n
        → IsRight g
    lower_right zero h g lt = absurd (omega (arith, lt))
    lower_right (suc n) h g lt =
        (refutes g (λ k below. lower_right n (λ one small. h one (omega (arith, small))) k
        (omega (arith, below, lt)))).0
        (h g lt)

    all_right : ((g : MessageFault) → p g ≡ false) → (g : MessageFault) → IsRight g
    all_right h g = lower_right (suc (number g)) (λ one lt. h one) g (omega arith)

    right_false : (f g : MessageFault) → ((one : MessageFault) → number one < number f → IsRight one)
        → number g < number f → p g ≡ false
    right_false f g h lt = (refutes g (λ one below. h one (omega (arith, below, lt)))).1 (h g lt)

    not_right : (f : MessageFault) → p f ≡ true → ((g : MessageFault) → number g < number f → IsRight g) → IsRight f → ⊥
    not_right f is lower right = true≢false (sym is ∙ (refutes f lower).1 right)

    lowest_from : (f : MessageFault) → find p faults ≡ Some f → IsLowest IsRight f
    lowest_from f found =
        let lower = lower_right (number f) (none_lower number p faults rising (listed_or_false p no_memory) f found) in
        record {
          here = not_right f (holds_here number p faults rising (listed_or_false p no_memory) f found) lower;
          lower = lower;
        }

    found_from : (f : MessageFault) → IsLowest IsRight f → find p faults ≡ Some f
    found_from f h =
        is_found number p faults rising (listed_or_false p no_memory) f
        (true_from_ne_false (p f) (λ e. h.here ((refutes f h.lower).0 e)))
        (λ g lt. right_false f g h.lower lt)

    pub fault_is_lowest : (f : MessageFault) → (unless_any p content ≡ Err f) ↔ IsLowest IsRight f
    fault_is_lowest f = (
      (λ h. lowest_from f (fault_found (find p faults) content f h)),
      (λ h. ap (λ found. unless found content) (found_from f h)),
    )

    pub content_is_faultless : (right : X) → (unless_any p content ≡ Ok right) ↔ (IsFaultless IsRight × (content ≡ right))
    content_is_faultless right = (
      (λ h. let both = content_found (find p faults) content right h in
          (all_right (all_false number p faults rising (listed_or_false p no_memory) both.0), both.1)),
      (λ h. ap (λ found. unless found content)
          (is_none number p faults rising (listed_or_false p no_memory) (λ f. (refutes f (λ g lt. h.0 g)).1 (h.0 f)))
          ∙ ap Ok h.1),
    )
