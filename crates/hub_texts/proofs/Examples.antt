-- Computes what some bodies are read as, as examples of cancellations.
use Rattle.std.proofs.Common.{◌≡◌, ℕ, List, [], ◌∷◌, ◌++◌, Option, Some, None, codes, replicate, refl}
use Rattle.std.specs.List.{flat_map}
use Rattle.hub_law.specs.HubRules.declared.cancel.Cancel.{Cancel}
use Rattle.hub_law.specs.Widths.{line}
use Rattle.hub_texts.specs.Cancel.{cancel_of}

abbrev lines : List (List ℕ) → List ℕ
lines fields = flat_map (λ field. line (field ∷ [])) fields

abbrev supplier : List ℕ
supplier = codes "4012345500004"

abbrev ten_pieces : Option Cancel
ten_pieces = Some (record { supplier = supplier; reference = codes "C1"; order = codes "128576"; line = 1; quantity = 10 })

abbrev body : List ℕ → List ℕ → List ℕ
body number quantity = lines (supplier ∷ codes "C1" ∷ codes "128576" ∷ number ∷ quantity ∷ [])

ten : cancel_of (codes "4012345500004\nC1\n128576\n1\n10\n") ≡ ten_pieces
ten = refl

with_zeros : cancel_of (body (codes "000001") (codes "000000010")) ≡ ten_pieces
with_zeros = refl

seven_digits : cancel_of (body (codes "0000001") (codes "10")) ≡ None
seven_digits = refl

ten_digits : cancel_of (body (codes "1") (codes "0000000010")) ≡ None
ten_digits = refl

no_line_number : cancel_of (body [] (codes "10")) ≡ None
no_line_number = refl

line_zero : cancel_of (body (codes "0") (codes "10")) ≡ None
line_zero = refl

quantity_zero : cancel_of (body (codes "1") (codes "000")) ≡ None
quantity_zero = refl

signed_quantity : cancel_of (body (codes "1") (codes "+10")) ≡ None
signed_quantity = refl

not_ended : cancel_of (codes "4012345500004\nC1\n128576\n1\n10") ≡ None
not_ended = refl

six_lines : cancel_of (body (codes "1") (codes "10") ++ codes "\n") ≡ None
six_lines = refl

four_lines : cancel_of (codes "4012345500004\nC1\n128576\n1\n") ≡ None
four_lines = refl

with_carriage_returns : cancel_of (codes "4012345500004\r\nC1\r\n128576\r\n1\r\n10\r\n") ≡ None
with_carriage_returns = refl

wrong_check_digit : cancel_of (lines (codes "4012345500005" ∷ codes "C1" ∷ codes "128576" ∷ codes "1" ∷ codes "10" ∷ [])) ≡ None
wrong_check_digit = refl

long_reference : cancel_of (lines (supplier ∷ replicate 15 67 ∷ codes "128576" ∷ codes "1" ∷ codes "10" ∷ [])) ≡ None
long_reference = refl

long_order : cancel_of (lines (supplier ∷ codes "C1" ∷ replicate 36 49 ∷ codes "1" ∷ codes "10" ∷ [])) ≡ None
long_order = refl

no_body : cancel_of [] ≡ None
no_body = refl
