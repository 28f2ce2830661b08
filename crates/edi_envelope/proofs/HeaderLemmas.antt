-- What a header that is taken has in its places.
use Rattle.std.proofs.Common.{◌≡◌, ℕ, zero, suc, ◌<◌, List, [], ◌∷◌, length, get_or, remove, true, refl, arith}
use Rattle.std.proofs.lemmas.Bool.{and_parts}
use Rattle.edi_segments.specs.declared.segment.Segment.{Segment}
use Rattle.edi_envelope.specs.Segments.{component}
use Rattle.edi_base.specs.Limits.{are_digits}
use Rattle.edi_envelope.specs.Limits.{is_reference}
use Rattle.edi_envelope.specs.Header.{has_partner, is_valid_header}
use Rattle.edi_envelope.proofs.LimitLemmas.{has_length_bounds}

pub record HasPlaces (unb : Segment) : Type 0 where
  pub date : length (component unb 3 0) ≡ 6
  pub time : length (component unb 3 1) ≡ 4
  pub sender : 0 < length (component unb 1 0)
  pub recipient : 0 < length (component unb 2 0)
  pub reference : 0 < length (component unb 4 0)

partner_length : (unb : Segment) (element : ℕ) → has_partner unb element ≡ true → 0 < length (component unb element 0)
partner_length unb element h = (has_length_bounds 1 35 (component unb element 0) (and_parts _ _ h).0).0

digits_length : (n : ℕ) (bytes : List ℕ) → are_digits n n bytes ≡ true → length bytes ≡ n
digits_length n bytes h = let b = has_length_bounds n n bytes (and_parts _ _ h).0 in omega arith

reference_length : (bytes : List ℕ) → is_reference bytes ≡ true → 0 < length bytes
reference_length bytes h = (has_length_bounds 1 14 bytes (and_parts _ _ h).0).0

pub header_places : (unb : Segment) → is_valid_header unb ≡ true → HasPlaces unb
header_places unb h =
    let to_reference = and_parts _ _ (and_parts _ _ h).0 in
    let to_date = and_parts _ _ to_reference.0 in
    let to_recipient = and_parts _ _ to_date.0 in
    let to_sender = and_parts _ _ to_recipient.0 in
    let dates = and_parts _ _ to_date.1 in
    record {
      date = digits_length 6 (component unb 3 0) dates.0;
      time = digits_length 4 (component unb 3 1) dates.1;
      sender = partner_length unb 1 to_sender.1;
      recipient = partner_length unb 2 to_recipient.1;
      reference = reference_length (component unb 4 0) to_reference.1;
    }

-- what stands before a place stays where the place is taken out
pub get_or-remove : {X : Type 0} (xs : List X) (i k : ℕ) (d : X) → k < i → get_or (remove xs i) k d ≡ get_or xs k d
get_or-remove [] zero k d h = absurd (omega arith)
get_or-remove [] (suc i) k d h = refl
get_or-remove (x ∷ xs) zero k d h = absurd (omega arith)
get_or-remove (x ∷ xs) (suc i) zero d h = refl
get_or-remove (x ∷ xs) (suc i) (suc k) d h = get_or-remove xs i k d (omega arith)
