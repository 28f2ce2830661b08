-- Shows that the body of a cancellation has five lines, and that the text of a cancellation is read back as the same
-- one.
use Rattle.std.proofs.Common.{◌≡◌, ℕ, ◌+◌, true, false, cond, not, ◌&&◌, ◌==◌, List, [], ◌∷◌, ◌++◌, length, Option, Some, None}
use Rattle.std.proofs.Common.{refl, sym, ap, ap₂, ◌∙◌, append_assoc, arith}
use Rattle.std.specs.Char.{is_ascii_digit}
use Rattle.std.specs.Fmt.{decimal}
use Rattle.std.specs.List.{AllByRecursion, count_by, list_all, slice_split, join_with_byte}
use Rattle.std.proofs.lemmas.Bool.{and_parts}
use Rattle.std.proofs.lemmas.Bool.Decides.{nat_tests}
use Rattle.std.proofs.lemmas.List.Splits.{join_with_byte-slice_split, length-slice_split}
use Rattle.std.proofs.lemmas.List.Sums.{sum_by-append}
use Rattle.std.proofs.lemmas.Option.{cond_some, same_Some}
use Rattle.edi_base.specs.Limits.{has_length, is_printable, is_digit, are_digits, number_of}
use Rattle.edi_envelope.specs.Limits.{is_reference}
use Rattle.edi_messages.specs.Values.{is_document_number}
use Rattle.gs1_ids.specs.Gln.{is_gln}
use Rattle.hub_law.specs.CancelText.{cancel_text}
use Rattle.hub_law.specs.Widths.{line}
use Rattle.hub_law.specs.HubRules.declared.cancel.Cancel.{Cancel}
use Rattle.hub_texts.specs.Cancel.{is_end, positive, cancel_with, cancel_in, cancel_of}
use Rattle.hub_texts.specs.CancelLaw.{five_lines, SaysCancel}
use Rattle.hub_texts.proofs.Cutting.{in_one_line, cut_line}
use Rattle.hub_texts.proofs.Digits.{decimal_positive, positive_within}

abbrev OneLine : List ℕ → Type 0
OneLine field = AllByRecursion (λ b. is_end b ≡ false) field

-- five lines, split at their ends
five_cut : (s r o l q : List ℕ)
    → OneLine s
    → OneLine r
    → OneLine o
    → OneLine l
    → OneLine q
    → slice_split is_end (five_lines s r o l q) ≡ s ∷ r ∷ o ∷ l ∷ q ∷ [] ∷ []
five_cut s r o l q in_s in_r in_o in_l in_q =
    let end = λ (field : List ℕ). line (field ∷ []) in
    cut_line s (end r ++ (end o ++ (end l ++ (end q ++ [])))) in_s
    ∙ ap (λ parts. s ∷ parts) (cut_line r (end o ++ (end l ++ (end q ++ []))) in_r
    ∙ ap (λ parts. r ∷ parts) (cut_line o (end l ++ (end q ++ [])) in_o
    ∙ ap (λ parts. o ∷ parts) (cut_line l (end q ++ []) in_l
    ∙ ap (λ parts. l ∷ parts) (cut_line q [] in_q))))

-- parts that were split at line ends, joined again
five_joined : (body s r o l q : List ℕ) → slice_split is_end body ≡ s ∷ r ∷ o ∷ l ∷ q ∷ [] ∷ [] → body ≡ five_lines s r o l q
five_joined body s r o l q cut =
    sym (join_with_byte-slice_split 0x0A body) ∙ ap (join_with_byte 0x0A) cut ∙ regrouped
  where
    regrouped : join_with_byte 0x0A (s ∷ r ∷ o ∷ l ∷ q ∷ [] ∷ []) ≡ five_lines s r o l q
    regrouped = simp append_assoc

printable_inside : (b : ℕ) → is_printable b ≡ true → is_end b ≡ false
printable_inside b h = grind (arith, nat_tests)

digit_inside : (b : ℕ) → is_digit b ≡ true → is_end b ≡ false
digit_inside b h = grind (arith, nat_tests)

ascii_digit_inside : (b : ℕ) → is_ascii_digit b ≡ true → is_end b ≡ false
ascii_digit_inside b h = grind (arith, nat_tests)

gln_inside : (field : List ℕ) → is_gln field ≡ true → OneLine field
gln_inside field h =
    let rest = (and_parts (length field == 13) _ h).1 in
    in_one_line is_ascii_digit ascii_digit_inside field (and_parts (list_all is_ascii_digit field) _ rest).0

reference_inside : (field : List ℕ) → is_reference field ≡ true → OneLine field
reference_inside field h =
    in_one_line is_printable printable_inside field (and_parts (has_length 1 14 field) (list_all is_printable field) h).1

order_inside : (field : List ℕ) → is_document_number field ≡ true → OneLine field
order_inside field h = in_one_line is_printable printable_inside field (and_parts (has_length 1 35 field) (list_all is_printable field) h).1

positive_inside : (most : ℕ) (field : List ℕ) (n : ℕ) → positive most field ≡ Some n → OneLine field
positive_inside most field n h =
    let read = cond_some (are_digits 1 most field && not (number_of field == 0)) (number_of field) n h in
    let digits = (and_parts (are_digits 1 most field) (not (number_of field == 0)) read.0).0 in
    in_one_line is_digit digit_inside field (and_parts (has_length 1 most field) (list_all is_digit field) digits).1

-- what five lines within their limits are read as
pub said : (body : List ℕ) (c : Cancel) → SaysCancel body c → cancel_of body ≡ Some c
said body c says =
    ap cancel_of says.lines
    ∙ ap cancel_in (five_cut c.supplier c.reference c.order says.number says.quantity (gln_inside c.supplier says.supplier)
    (reference_inside c.reference says.reference)
    (order_inside c.order says.order) (positive_inside 6 says.number c.line says.is_line)
    (positive_inside 9 says.quantity c.quantity says.is_quantity))
    ∙ ap₂ (cancel_with c.supplier c.reference c.order) says.is_line says.is_quantity
    ∙ ap (λ v. cond v (Some c) None) (ap₂ (λ a b. a && b) says.supplier (ap₂ (λ a b. a && b) says.reference says.order))

-- what holds for a cancellation that five parts give
pub record Given (s r o l q : List ℕ) (c : Cancel) : Type 0 where
  pub alike : (c.supplier ≡ s) × (c.reference ≡ r) × (c.order ≡ o)
  pub right : (is_gln s ≡ true) × (is_reference r ≡ true) × (is_document_number o ≡ true)
  pub numbers : (positive 6 l ≡ Some c.line) × (positive 9 q ≡ Some c.quantity)

given_with : (s r o l q : List ℕ) (n m : Option ℕ) (c : Cancel)
    → positive 6 l ≡ n
    → positive 9 q ≡ m
    → cancel_with s r o n m ≡ Some c
    → Given s r o l q c
given_with s r o l q None m c is_n is_m h = absurd (cc)
given_with s r o l q (Some n) None c is_n is_m h = absurd (cc)
given_with s r o l q (Some n) (Some m) c is_n is_m h =
    let made : Cancel = record { supplier = s; reference = r; order = o; line = n; quantity = m } in
    let read = cond_some (is_gln s && (is_reference r && is_document_number o)) made c h in
    let first = and_parts (is_gln s) (is_reference r && is_document_number o) read.0 in
    let second = and_parts (is_reference r) (is_document_number o) first.1 in
    let back : c ≡ made = sym read.1 in
    record {
      alike = (ap (λ (c : Cancel). c.supplier) back, ap (λ (c : Cancel). c.reference) back, ap (λ (c : Cancel). c.order) back);
      right = (first.0, second.0, second.1);
      numbers = (is_n ∙ ap (λ (c : Cancel). Some c.line) read.1, is_m ∙ ap (λ (c : Cancel). Some c.quantity) read.1);
    }

says_of : (body : List ℕ) (parts : List (List ℕ)) (c : Cancel) → slice_split is_end body ≡ parts → cancel_in parts ≡ Some c
    → SaysCancel body c
says_of body [] c cut h = absurd (cc)
says_of body (s ∷ []) c cut h = absurd (cc)
says_of body (s ∷ r ∷ []) c cut h = absurd (cc)
says_of body (s ∷ r ∷ o ∷ []) c cut h = absurd (cc)
says_of body (s ∷ r ∷ o ∷ l ∷ []) c cut h = absurd (cc)
says_of body (s ∷ r ∷ o ∷ l ∷ q ∷ []) c cut h = absurd (cc)
says_of body (s ∷ r ∷ o ∷ l ∷ q ∷ (b ∷ bs) ∷ parts) c cut h = absurd (cc)
says_of body (s ∷ r ∷ o ∷ l ∷ q ∷ [] ∷ part ∷ parts) c cut h = absurd (cc)
says_of body (s ∷ r ∷ o ∷ l ∷ q ∷ [] ∷ []) c cut h =
    let given = given_with s r o l q (positive 6 l) (positive 9 q) c refl refl h in
    record {
      number = l;
      quantity = q;
      lines = five_joined body s r o l q cut ∙ (λ i. five_lines (sym given.alike.0 i) (sym given.alike.1 i) (sym given.alike.2 i) l q);
      supplier = ap is_gln given.alike.0 ∙ given.right.0;
      reference = ap is_reference given.alike.1 ∙ given.right.1;
      order = ap is_document_number given.alike.2 ∙ given.right.2;
      is_line = given.numbers.0;
      is_quantity = given.numbers.1;
    }

pub says : (body : List ℕ) (c : Cancel) → cancel_of body ≡ Some c → SaysCancel body c
says body c h = says_of body (slice_split is_end body) c refl h

-- the text of a cancellation that was read is read back as the same one
pub written_back : (body : List ℕ) (c : Cancel) → cancel_of body ≡ Some c → cancel_of (cancel_text c) ≡ Some c
written_back body c h =
    let s = says body c h in
    let on_line = positive_within 6 s.number c.line s.is_line in
    let of_quantity = positive_within 9 s.quantity c.quantity s.is_quantity in
    said (cancel_text c) c (record {
      number = decimal c.line;
      quantity = decimal c.quantity;
      lines = refl;
      supplier = s.supplier;
      reference = s.reference;
      order = s.order;
      is_line = decimal_positive 6 c.line (omega arith) on_line.0 on_line.1 (omega (arith, on_line.1));
      is_quantity = decimal_positive 9 c.quantity (omega arith) of_quantity.0 of_quantity.1 (omega (arith, of_quantity.1));
    })

-- two cancellations that were read have the same text exactly if they are the same
pub one_text : (first second : List ℕ) (c d : Cancel)
    → cancel_of first ≡ Some c
    → cancel_of second ≡ Some d
    → cancel_text c ≡ cancel_text d
    → c ≡ d
one_text first second c d h g e = same_Some c d (sym (written_back first c h) ∙ ap cancel_of e ∙ written_back second d g)

-- how many lines end in a text
abbrev ends : List ℕ → ℕ
ends text = count_by is_end text

ends_more : (b : ℕ) (bs : List ℕ) → ends (b ∷ bs) ≡ 0 + cond (is_end b) 1 0 + ends bs
ends_more b bs = sum_by-append (λ (x : ℕ). cond (is_end x) 1 0) (b ∷ []) bs

one_line : (field : List ℕ) → ends field ≡ 0 → OneLine field
one_line [] h = tt
one_line (b ∷ bs) h =
    elim (is_end b) as (λ v. 0 + cond v 1 0 + ends bs ≡ 0 → (v ≡ false) × OneLine bs) [
      | true ↦ λ e. absurd (omega (arith, e))
      | false ↦ λ e. (refl, one_line bs (omega (arith, e)))
    ] (sym (ends_more b bs) ∙ h)

ends_line : (field rest : List ℕ) → ends (line (field ∷ []) ++ rest) ≡ ends field + 1 + ends rest
ends_line field rest =
    let one = λ (b : ℕ). cond (is_end b) 1 0 in
    sum_by-append one (line (field ∷ [])) rest ∙ ap (λ (n : ℕ). n + ends rest) (sum_by-append one field (0x0A ∷ []))

-- a cancellation is said by five lines, the last of them ended
six_parts : (parts : List (List ℕ)) (c : Cancel) → cancel_in parts ≡ Some c → length parts ≡ 6
six_parts [] c h = absurd (cc)
six_parts (s ∷ []) c h = absurd (cc)
six_parts (s ∷ r ∷ []) c h = absurd (cc)
six_parts (s ∷ r ∷ o ∷ []) c h = absurd (cc)
six_parts (s ∷ r ∷ o ∷ l ∷ []) c h = absurd (cc)
six_parts (s ∷ r ∷ o ∷ l ∷ q ∷ []) c h = absurd (cc)
six_parts (s ∷ r ∷ o ∷ l ∷ q ∷ (b ∷ bs) ∷ parts) c h = absurd (cc)
six_parts (s ∷ r ∷ o ∷ l ∷ q ∷ [] ∷ part ∷ parts) c h = absurd (cc)
six_parts (s ∷ r ∷ o ∷ l ∷ q ∷ [] ∷ []) c h = refl

same_options : (x y : Option Cancel) → ((c : Cancel) → x ≡ Some c → y ≡ Some c) → ((c : Cancel) → y ≡ Some c → x ≡ Some c) → x ≡ y
same_options None None to from = refl
same_options (Some c) y to from = sym (to c refl)
same_options None (Some c) to from = from c refl

-- five texts say what the body of their lines says
pub given_by_texts : (s r o l q : List ℕ) → cancel_of (five_lines s r o l q) ≡ cancel_with s r o (positive 6 l) (positive 9 q)
given_by_texts s r o l q = same_options (cancel_of (five_lines s r o l q)) (cancel_with s r o (positive 6 l) (positive 9 q)) back taken
  where
    taken : (c : Cancel) → cancel_with s r o (positive 6 l) (positive 9 q) ≡ Some c → cancel_of (five_lines s r o l q) ≡ Some c
    taken c h =
        let given = given_with s r o l q (positive 6 l) (positive 9 q) c refl refl h in
        ap cancel_in (five_cut s r o l q (gln_inside s given.right.0) (reference_inside r given.right.1)
        (order_inside o given.right.2) (positive_inside 6 l c.line given.numbers.0) (positive_inside 9 q c.quantity given.numbers.1)) ∙ h

    back : (c : Cancel) → cancel_of (five_lines s r o l q) ≡ Some c → cancel_with s r o (positive 6 l) (positive 9 q) ≡ Some c
    back c h =
        let end = λ (field : List ℕ). line (field ∷ []) in
        let body = five_lines s r o l q in
        let parts : length (slice_split is_end body) ≡ 6 = six_parts (slice_split is_end body) c h in
        let counted : length (slice_split is_end body) ≡ ends body + 1 = length-slice_split is_end body in
        let in_s : ends body ≡ ends s + 1 + ends (end r ++ (end o ++ (end l ++ (end q ++ [])))) =
        ends_line s (end r ++ (end o ++ (end l ++ (end q ++ [])))) in
        let in_r : ends (end r ++ (end o ++ (end l ++ (end q ++ [])))) ≡ ends r + 1 + ends (end o ++ (end l ++ (end q ++ []))) =
        ends_line r (end o ++ (end l ++ (end q ++ []))) in
        let in_o : ends (end o ++ (end l ++ (end q ++ []))) ≡ ends o + 1 + ends (end l ++ (end q ++ [])) =
        ends_line o (end l ++ (end q ++ [])) in
        let in_l : ends (end l ++ (end q ++ [])) ≡ ends l + 1 + ends (end q ++ []) = ends_line l (end q ++ []) in
        let in_q : ends (end q ++ []) ≡ ends q + 1 + 0 = ends_line q [] in
        let none_s : ends s ≡ 0 = omega (arith, parts, counted, in_s, in_r, in_o, in_l, in_q) in
        let none_r : ends r ≡ 0 = omega (arith, parts, counted, in_s, in_r, in_o, in_l, in_q) in
        let none_o : ends o ≡ 0 = omega (arith, parts, counted, in_s, in_r, in_o, in_l, in_q) in
        let none_l : ends l ≡ 0 = omega (arith, parts, counted, in_s, in_r, in_o, in_l, in_q) in
        let none_q : ends q ≡ 0 = omega (arith, parts, counted, in_s, in_r, in_o, in_l, in_q) in
        sym (ap cancel_in (five_cut s r o l q (one_line s none_s) (one_line r none_r) (one_line o none_o) (one_line l none_l)
        (one_line q none_q))) ∙ h
