-- Shows that what is read from a line group is what is valid in it.
use Rattle.std.proofs.Common.{◌≡◌, ◌≢◌, ℕ, ◌≤◌, Bool, true, not, List, [], ◌∷◌, length, ◌⊎◌, refl, sym, ap, subst, ◌∙◌}
use Rattle.std.specs.Prelude.{◌==◌, nat_le, nat_eq, codes, unwrap_or, option_and_then, Decides}
use Rattle.std.specs.Str.{bytes_eq}
use Rattle.std.proofs.lemmas.Bool.{true≢false}
use Rattle.std.proofs.lemmas.List.{nil_from_length}
use Rattle.std.proofs.lemmas.Bool.Decides.{Decides-and, Decides-or, Decides-like, Decides-eqb}
use Rattle.std.proofs.lemmas.Slice.Eq.{bytes_eq-Decides}
use Rattle.gs1_ids.specs.Gtin.{IsGtin, in_fourteen, gtin_of}
use Rattle.gs1_ids.proofs.Decided.{Decides-is_gtin}
use Rattle.edi_base.specs.Seen.{has_number_twice, has_twice, comes_among, comes_twice}
use Rattle.edi_segments.specs.declared.segment.Segment.{Segment}
use Rattle.edi_segments.specs.Segment.{element_at}
use Rattle.edi_envelope.specs.Segments.{component}
use Rattle.edi_envelope.proofs.TallyLemmas.{not_not}
use Rattle.edi_messages.specs.Lines.{number, number_or_zero, gtin_in, gtin, is_line, is_piece, from_least, amount, quantity_of}
use Rattle.edi_messages.specs.Values.{quantity}
use Rattle.edi_law.specs.Lines.{HasGtin, IsLine, IsAmount, HasQuantity, NoneTwice}
use Rattle.edi_law.specs.Segments.{says}
use Rattle.edi_law.specs.Values.{IsLineNumber, IsQuantity}
use Rattle.edi_law.proofs.Deciding.{Says, Refutes, Refutes-false, Refutes-or, Refutes-any, Refutes-ne, Decides-leb}
use Rattle.edi_law.proofs.Deciding.{Decides-is_some, Says-like, Says-if, Says-when, Says-then}
use Rattle.edi_law.proofs.PartLemmas.{Says-of_only}
use Rattle.edi_law.proofs.ValueLemmas.{Says-line_number, Says-quantity}

pub Decides-nothing : {X : Type 0} (xs : List X) → Decides (length xs == 0) (xs ≡ [])
Decides-nothing xs = Decides-like (length xs == 0) (nil_from_length xs) (λ e. ap length e) (Decides-eqb (length xs) 0)

-- the article
gtin_there : (text : List ℕ) → Says (gtin_of text) (λ digits. IsGtin text × (in_fourteen text ≡ digits))
gtin_there text = Says-if _ (IsGtin text) (in_fourteen text) (Decides-is_gtin text)

pub Says-article : (lin : Segment) → Says (gtin_in lin) (HasGtin lin)
Says-article lin =
    Says-like (gtin_in lin) (λ digits.
    (component lin 2 1 ≡ codes "SRV") × (IsGtin (component lin 2 0) × (in_fourteen (component lin 2 0) ≡ digits)))
    (HasGtin lin)
    (λ digits h. record { said = h.0; right = h.1.0; gtin_is = h.1.1 })
    (λ digits h. (h.said, (h.right, h.gtin_is)))
    (Says-when (bytes_eq (component lin 2 1) (codes "SRV")) _ (component lin 2 1 ≡ codes "SRV") _
    (bytes_eq-Decides (component lin 2 1) (codes "SRV")) (gtin_there (component lin 2 0)))

Decides-no_sub_line : (elements : List (List ℕ)) → Decides (not (not (length elements == 0))) (elements ≡ [])
Decides-no_sub_line elements =
    let d = Decides-nothing elements in
    ((λ e. d.0 (sym (not_not (length elements == 0)) ∙ e)), (λ h. not_not (length elements == 0) ∙ d.1 h))

abbrev IsLineBy : Segment → Type 0
IsLineBy lin =
    (((n : ℕ) × IsLineNumber (component lin 0 0) n) × ((digits : List ℕ) × HasGtin lin digits))
    × (element_at lin.elements 3 ≡ [])

Decides-line_by : (lin : Segment) (body : List Segment) → Decides (is_line (lin ∷ body)) (IsLineBy lin)
Decides-line_by lin body =
    Decides-and _ _
    (Decides-and _ _
    (Decides-is_some (number (lin ∷ body)) (IsLineNumber (component lin 0 0)) (Says-line_number (component lin 0 0)))
    (Decides-is_some (gtin_in lin) (HasGtin lin) (Says-article lin)))
    (Decides-no_sub_line (element_at lin.elements 3))

-- a line, with its number and its article
pub line_there : (group : List Segment) → is_line group ≡ true → IsLine group (number_or_zero group) (unwrap_or (gtin group) [])
line_there [] e = absurd (true≢false (sym e))
line_there (lin ∷ body) e =
    let h = (Decides-line_by lin body).0 e in
    let n = (Says-line_number (component lin 0 0) h.0.0.0).1 h.0.0.1 in
    let article = (Says-article lin h.0.1.0).1 h.0.1.1 in
    record {
      lin = lin;
      body = body;
      place = refl;
      number_is = subst (IsLineNumber (component lin 0 0)) (sym (ap (λ o. unwrap_or o 0) n)) h.0.0.1;
      article = subst (HasGtin lin) (sym (ap (λ o. unwrap_or o []) article)) h.0.1.1;
      no_sub_line = h.1;
    }

pub is_line-from_IsLine : (group : List Segment) (n : ℕ) (digits : List ℕ) → IsLine group n digits → is_line group ≡ true
is_line-from_IsLine group n digits h =
    ap is_line h.place ∙ (Decides-line_by h.lin h.body).1 (((n, h.number_is), (digits, h.article)), h.no_sub_line)

pub number-from_IsLine : (group : List Segment) (n : ℕ) (digits : List ℕ) → IsLine group n digits → number_or_zero group ≡ n
number-from_IsLine group n digits h =
    ap number_or_zero h.place ∙ ap (λ o. unwrap_or o 0) ((Says-line_number (component h.lin 0 0) n).1 h.number_is)

pub article-from_IsLine : (group : List Segment) (n : ℕ) (digits : List ℕ) → IsLine group n digits → unwrap_or (gtin group) [] ≡ digits
article-from_IsLine group n digits h =
    ap (λ segments. unwrap_or (gtin segments) []) h.place ∙ ap (λ o. unwrap_or o []) ((Says-article h.lin digits).1 h.article)

pub Decides-line : (group : List Segment) → Decides (is_line group) ((number : ℕ) × (gtin : List ℕ) × IsLine group number gtin)
Decides-line group = (
  (λ e. (number_or_zero group, unwrap_or (gtin group) [], line_there group e)),
  (λ h. is_line-from_IsLine group h.0 h.1 h.2),
)

-- quantities
Decides-piece : (bytes : List ℕ) → Decides (is_piece bytes) ((bytes ≡ []) ⊎ (bytes ≡ codes "PCE"))
Decides-piece bytes = Decides-or _ _ (Decides-nothing bytes) (bytes_eq-Decides bytes (codes "PCE"))

pub Says-amount : (least : ℕ) (qty : Segment) → Says (amount least qty) (λ n. IsAmount least n qty)
Says-amount least qty =
    let bytes = component qty 0 1 in
    let unit = component qty 0 2 in
    Says-like (amount least qty)
    (λ n. ((unit ≡ []) ⊎ (unit ≡ codes "PCE")) × ((m : ℕ) × IsQuantity bytes m × ((least ≤ m) × (m ≡ n))))
    (λ n. IsAmount least n qty)
    (λ n h. record { unit = h.0; number_is = subst (IsQuantity bytes) h.1.2.1 h.1.1; from_least = subst (λ m. least ≤ m) h.1.2.1 h.1.2.0 })
    (λ n h. (h.unit, (n, h.number_is, (h.from_least, refl))))
    (Says-when (is_piece unit) (option_and_then (from_least least) (quantity bytes)) _ _ (Decides-piece unit)
    (Says-then (quantity bytes) (IsQuantity bytes) (from_least least) (λ m n. (least ≤ m) × (m ≡ n)) (Says-quantity bytes)
    (λ m. Says-if (nat_le least m) (least ≤ m) m (Decides-leb least m))))

pub Says-quantity_of : (kind : List ℕ) (least : ℕ) (group : List Segment)
    → Says (quantity_of kind least group) (HasQuantity kind least group)
Says-quantity_of kind least group = Says-of_only (says (codes "QTY") kind) (amount least) (IsAmount least) (Says-amount least) group

-- what occurs twice
module _ {X : Type 0} (same : X → X → Bool) (decides : (x y : X) → Decides (same x y) (x ≡ y)) where
  pub Refutes-twice : (xs : List X) → Refutes (comes_twice same xs) (NoneTwice xs)
  Refutes-twice [] = Refutes-false
  Refutes-twice (x ∷ xs) =
      Refutes-or (comes_among same x xs) (comes_twice same xs)
      (Refutes-any (same x) (λ other. x ≢ other) (λ other. Refutes-ne (same x other) (decides x other)) xs) (Refutes-twice xs)

pub Refutes-number_twice : (numbers : List ℕ) → Refutes (has_number_twice numbers) (NoneTwice numbers)
Refutes-number_twice = Refutes-twice nat_eq Decides-eqb

pub Refutes-text_twice : (texts : List (List ℕ)) → Refutes (has_twice texts) (NoneTwice texts)
Refutes-text_twice = Refutes-twice bytes_eq bytes_eq-Decides
