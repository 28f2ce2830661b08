-- Proves that what is read of a cancellation is within its limits.
use Rattle.std.proofs.Common.{◌≡◌, ℕ, ◌^◌, ◌<◌, ◌≤◌, ◌==◌, nat_le, true, false, not, ◌&&◌, List, [], ◌∷◌, length}
use Rattle.std.proofs.Common.{Option, Some, None, refl, subst, arith}
use Rattle.std.specs.List.{list_all, slice_split}
use Rattle.std.proofs.Math.Nat.{pow-le-pow_right}
use Rattle.std.proofs.lemmas.Bool.{not-true, and_parts, and_from, leb-true, le-leb}
use Rattle.std.proofs.lemmas.Bool.Decides.{nat_tests}
use Rattle.edi_base.specs.Limits.{has_length, is_digit, are_digits, number_of}
use Rattle.edi_base.proofs.Numbers.{digits_below}
use Rattle.edi_envelope.specs.Limits.{is_reference}
use Rattle.edi_messages.specs.Values.{is_document_number}
use Rattle.gs1_ids.specs.Gln.{is_gln}
use Rattle.hub_store.specs.Clean.{is_line, is_quantity}
use Rattle.hub_rules.specs.declared.cancel.Cancel.{Cancel}
use Rattle.hub_acts.specs.HubTexts.Cancel.{is_end, positive, cancel_with, cancel_in, cancel_of}
use Rattle.hub_acts.specs.HubClean.Clean.{WithinCancel}
use Rattle.hub_acts.proofs.HubClean.ReadWithin.{when_some}

positive_within : (most : ℕ) (digits : List ℕ) (n : ℕ) → positive most digits ≡ Some n → (1 ≤ n) × (n < 10 ^ most)
positive_within most digits n h =
    let parts = when_some (are_digits 1 most digits && not (number_of digits == 0)) (Some (number_of digits)) n h in
    let tests = and_parts (are_digits 1 most digits) (not (number_of digits == 0)) parts.0 in
    let right = and_parts (has_length 1 most digits) (list_all is_digit digits) tests.0 in
    let short : length digits ≤ most = leb-true _ _ (and_parts (nat_le 1 (length digits)) (nat_le (length digits) most) right.0).1 in
    let below = digits_below 0 digits right.1 in
    let wide : 10 ^ length digits ≤ 10 ^ most = pow-le-pow_right {n = 10} (omega arith) short in
    let some : number_of digits == 0 ≡ false = not-true _ tests.1 in
    let same : number_of digits ≡ n = cc in
    (grind (arith, nat_tests), omega (arith, below, wide, same))

with_within : (supplier reference order : List ℕ) (line quantity : Option ℕ) (cancel : Cancel)
    → cancel_with supplier reference order line quantity ≡ Some cancel
    → ((n : ℕ) → line ≡ Some n → is_line n ≡ true)
    → ((n : ℕ) → quantity ≡ Some n → is_quantity n ≡ true)
    → WithinCancel cancel
with_within supplier reference order (Some line) (Some quantity) cancel h lines quantities =
    let made : Cancel = record {
      supplier = supplier;
      reference = reference;
      order = order;
      line = line;
      quantity = quantity;
    } in
    let parts = when_some (is_gln supplier && (is_reference reference && is_document_number order)) (Some made) cancel h in
    let tests = and_parts (is_reference reference) (is_document_number order) (and_parts (is_gln supplier) _ parts.0).1 in
    let same : made ≡ cancel = cc in
    subst WithinCancel same (record {
      reference = tests.0;
      order = tests.1;
      line = lines line refl;
      quantity = quantities quantity refl;
    })
with_within supplier reference order (Some line) None cancel h lines quantities = absurd cc
with_within supplier reference order None quantity cancel h lines quantities = absurd cc

line_within : (digits : List ℕ) (n : ℕ) → positive 6 digits ≡ Some n → is_line n ≡ true
line_within digits n h =
    let right = positive_within 6 digits n h in
    let high : n < 1_000_000 = right.1 in
    and_from _ _ (le-leb 1 n right.0) (le-leb n 999_999 (omega (arith, high)))

quantity_within : (digits : List ℕ) (n : ℕ) → positive 9 digits ≡ Some n → is_quantity n ≡ true
quantity_within digits n h =
    let right = positive_within 9 digits n h in
    let high : n < 1_000_000_000 = right.1 in
    and_from _ _ (le-leb 1 n right.0) (le-leb n 999_999_999 (omega (arith, high)))

in_within : (lines : List (List ℕ)) (cancel : Cancel) → cancel_in lines ≡ Some cancel → WithinCancel cancel
in_within (supplier ∷ reference ∷ order ∷ line ∷ quantity ∷ [] ∷ []) cancel h =
    with_within supplier reference order (positive 6 line) (positive 9 quantity) cancel h (line_within line) (quantity_within quantity)
in_within _ cancel h = absurd cc

pub cancel_within : (body : List ℕ) (cancel : Cancel) → cancel_of body ≡ Some cancel → WithinCancel cancel
cancel_within body cancel h = in_within (slice_split is_end body) cancel h
