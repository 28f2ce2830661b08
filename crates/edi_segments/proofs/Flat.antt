-- Lists that stand one after another in one list, with the place where each ends.
use Rattle.std.proofs.Common.{◌≡◌, ◌<◌, ◌≤◌, ◌-◌, ◌+◌, ℕ, zero, suc, List, [], ◌∷◌, ◌++◌, length, take, drop, get_or, set, refl, sym, ap}
use Rattle.std.proofs.Common.{subst, ◌∙◌, append_assoc, arith, inl, inr}
use Rattle.std.proofs.lemmas.List.{take_all, take-append-le, drop-append-le, drop-drop, length-drop, length-take, length-append}
use Rattle.std.proofs.lemmas.List.{take-append-drop, drop_all, take-take, drop-take}
use Rattle.std.proofs.lemmas.List.{nil_from_length, length-take-le, take_more_set, take_at}
use Rattle.std.proofs.lemmas.List.{get_or-take, get_or-drop, get_or_past}
use Rattle.std.proofs.lemmas.Bool.{cases_order}
use Rattle.std.specs.Prelude.{nat_eq, ◌==◌}
use borrow.Rule.Slice.PartMut.{put_mid, post_of}
use Rattle.edi_segments.specs.Spelling.{without_empty_end}
use Rattle.edi_segments.specs.Flat.{cut_from, cut, Rise, IsKept, IsLeft, IsFlat, flat_open}
use Rattle.edi_segments.specs.Reading.{Open, with_component, with_element}
use Rattle.edi_segments.specs.OpenSegment.{with_bytes}
use Rattle.edi_segments.specs.Segment.{element_at, component_at}
use Rattle.edi_segments.proofs.EmptyEnd.{without_empty_end-push_empty, without_empty_end-push}

pub rise_le : (low : ℕ) (ends : List ℕ) (high : ℕ) → Rise low ends high → low ≤ high
rise_le low [] high r = omega (arith, r)
rise_le low (end ∷ ends) high r = omega (arith, r.0, rise_le end ends high r.1)

pub rise_push : (low : ℕ) (ends : List ℕ) (high n : ℕ) → Rise low ends high → high ≤ n → Rise low (ends ++ n ∷ []) n
rise_push low [] high n r le = (omega (arith, r), refl)
rise_push low (end ∷ ends) high n r le = (r.0, rise_push end ends high n r.1 le)

-- where a piece begins and ends
pub rise_at : (low : ℕ) (ends : List ℕ) (high i : ℕ) → Rise low ends high → i < length ends
    → (low ≤ get_or (low ∷ ends) i 0) × (get_or (low ∷ ends) i 0 ≤ get_or ends i 0) × (get_or ends i 0 ≤ high)
rise_at low [] high i r lt = absurd (omega arith)
rise_at low (end ∷ ends) high zero r lt = (omega arith, r.0, rise_le end ends high r.1)
rise_at low (end ∷ ends) high (suc i) r lt =
    let others = rise_at end ends high i r.1 (omega arith) in (omega (arith, r.0, others.0), others.1, others.2)

pub length-cut : {A : Type 0} (low : ℕ) (ends : List ℕ) (xs : List A) → length (cut_from low ends xs) ≡ length ends
length-cut low [] xs = refl
length-cut low (end ∷ ends) xs = ap suc (length-cut end ends (drop (end - low) xs))

pub take-cut : {A : Type 0} (n low : ℕ) (ends : List ℕ) (xs : List A) → take n (cut_from low ends xs) ≡ cut_from low (take n ends) xs
take-cut zero low ends xs = refl
take-cut (suc n) low [] xs = refl
take-cut (suc n) low (end ∷ ends) xs =
    ap (λ pieces. take (end - low) xs ∷ pieces) (take-cut n end ends (drop (end - low) xs))

-- what stands behind the last end
pub cut-longer : {A : Type 0} (low : ℕ) (ends : List ℕ) (high : ℕ) (xs ys : List A) → Rise low ends high
    → high ≤ low + length xs → cut_from low ends (xs ++ ys) ≡ cut_from low ends xs
cut-longer low [] high xs ys r le = refl
cut-longer low (end ∷ ends) high xs ys r le =
    let within : end ≤ high = rise_le end ends high r.1 in
    let n : end - low ≤ length xs = omega (arith, r.0) in
    let front : take (end - low) (xs ++ ys) ≡ take (end - low) xs = take-append-le (end - low) xs ys n in
    let rest : drop (end - low) (xs ++ ys) ≡ drop (end - low) xs ++ ys = drop-append-le (end - low) xs ys n in
    let others = cut-longer end ends high (drop (end - low) xs) ys r.1 (omega (arith, r.0, length-drop (end - low) xs)) in
    ap (λ piece. piece ∷ cut_from end ends (drop (end - low) (xs ++ ys))) front
    ∙ ap (λ l. take (end - low) xs ∷ cut_from end ends l) rest
    ∙ ap (λ pieces. take (end - low) xs ∷ pieces) others

-- one more piece, to the end of the list
pub cut-push : {A : Type 0} (low : ℕ) (ends : List ℕ) (high n end : ℕ) (xs : List A) → Rise low ends high
    → low + n ≡ high → high ≤ low + length xs → end ≡ low + length xs
    → cut_from low (ends ++ end ∷ []) xs ≡ cut_from low ends xs ++ drop n xs ∷ []
cut-push low [] high n end xs r at le is =
    let whole : take (end - low) xs ≡ xs = take_all (end - low) xs (omega arith) in
    let none : n ≡ 0 = omega (arith, r) in
    ap (λ piece. piece ∷ []) whole ∙ ap (λ (n : ℕ). drop n xs ∷ []) (sym none)
cut-push low (first ∷ ends) high n end xs r at le is =
    let within : first ≤ high = rise_le first ends high r.1 in
    let more : end ≡ first + length (drop (first - low) xs) = omega (arith, r.0, length-drop (first - low) xs) in
    let others = cut-push first ends high (high - first) end (drop (first - low) xs) r.1 (omega arith) (omega arith) more in
    let sum : (first - low) + (high - first) ≡ n = omega (arith, r.0) in
    let last : drop (high - first) (drop (first - low) xs) ≡ drop n xs =
    drop-drop (high - first) (first - low) xs ∙ ap (λ (n : ℕ). drop n xs) sum in
    ap (λ pieces. take (first - low) xs ∷ pieces) others
    ∙ ap (λ piece. take (first - low) xs ∷ (cut_from first ends (drop (first - low) xs) ++ piece ∷ [])) last

-- a piece
pub get_or-cut : {A : Type 0} (low : ℕ) (ends : List ℕ) (high i n : ℕ) (xs : List A) → Rise low ends high → i < length ends
    → low + n ≡ get_or (low ∷ ends) i 0
    → get_or (cut_from low ends xs) i [] ≡ take (get_or ends i 0 - get_or (low ∷ ends) i 0) (drop n xs)
get_or-cut low [] high i n xs r lt is = absurd (omega arith)
get_or-cut low (end ∷ ends) high zero n xs r lt is =
    let none : n ≡ 0 = omega arith in ap (λ (n : ℕ). take (end - low) (drop n xs)) (sym none)
get_or-cut low (end ∷ ends) high (suc i) n xs r lt is =
    let from : ℕ = get_or (end ∷ ends) i 0 in
    let at = rise_at end ends high i r.1 (omega arith) in
    let next : end + (from - end) ≡ from = omega (arith, at.0) in
    let sum : (end - low) + (from - end) ≡ n = omega (arith, r.0, at.0) in
    get_or-cut end ends high i (from - end) (drop (end - low) xs) r.1 (omega arith) next
    ∙ ap (λ l. take (get_or ends i 0 - from) l) (drop-drop (from - end) (end - low) xs ∙ ap (λ (n : ℕ). drop n xs) sum)

-- two places are one where nothing stands between them
pub equal_from_none : (from to between : ℕ) → from ≤ to → between ≡ to - from → nat_eq from to ≡ (between == 0)
equal_from_none from to between le is = grind (arith, is)

-- ---- the lists that are left without the empty ones at the end

pub kept_none : {A : Type 0} → IsKept {A = A} 0 []
kept_none = record { within = omega arith; front = refl }

pub kept_empty : {A : Type 0} (kept : ℕ) (lists : List (List A)) (x : List A) → IsKept kept lists → length x ≡ 0
    → IsKept kept (lists ++ x ∷ [])
kept_empty kept lists x k none =
    let within = k.within in
    let same : take kept (lists ++ x ∷ []) ≡ take kept lists = take-append-le kept lists (x ∷ []) k.within in
    record {
      within = omega (arith, length-append lists (x ∷ []));
      front =
          ap (λ l. without_empty_end (lists ++ l ∷ [])) (nil_from_length x none)
          ∙ without_empty_end-push_empty lists ∙ k.front ∙ sym same;
    }

pub kept_full : {A : Type 0} (kept : ℕ) (lists : List (List A)) (x : List A) → kept ≡ length lists + 1 → 0 < length x
    → IsKept kept (lists ++ x ∷ [])
kept_full kept lists x is some =
    let long : length (lists ++ x ∷ []) ≡ length lists + 1 = length-append lists (x ∷ []) in
    record {
      within = omega arith;
      front = without_empty_end-push lists x some ∙ sym (take_all kept (lists ++ x ∷ []) (omega arith));
    }

-- ---- the steps of an open segment

-- more bytes
module _ (bytes more ends element_ends : List ℕ) (from element_from kept elements_kept : ℕ)
    (f : IsFlat bytes ends element_ends from element_from kept elements_kept) where
  components-longer : cut ends (bytes ++ more) ≡ cut ends bytes
  components-longer = cut-longer 0 ends from bytes more f.components_rise (omega (arith, f.component_within))

  pub flat-longer : (after : List ℕ) → after ≡ bytes ++ more → IsFlat after ends element_ends from element_from kept elements_kept
  flat-longer after is =
      let same : cut ends after ≡ cut ends bytes = ap (cut ends) is ∙ components-longer in
      let within = f.component_within in
      record {
        components_rise = f.components_rise;
        kept_rise = f.kept_rise;
        component_within = omega (arith, ap length is, length-append bytes more);
        elements_rise = f.elements_rise;
        element_within = f.element_within;
        kept_within = f.kept_within;
        components_left = subst (λ pieces. IsKept (kept - element_from) (drop element_from pieces)) (sym same) f.components_left;
        elements_left = subst (λ pieces. IsKept elements_kept (cut element_ends pieces)) (sym same) f.elements_left;
      }

  pub open-longer : (tag after : List ℕ) (size size_after : ℕ) → after ≡ bytes ++ more → size_after ≡ size + length more
      → flat_open tag after ends element_ends from element_from size_after
      ≡ with_bytes (flat_open tag bytes ends element_ends from element_from size) more
  open-longer tag after size size_after is long =
      let same : cut ends after ≡ cut ends bytes = ap (cut ends) is ∙ components-longer in
      let last : drop from after ≡ drop from bytes ++ more = ap (drop from) is ∙ drop-append-le from bytes more f.component_within in
      rw (same, last, long) refl

-- the open component is closed
module _ (bytes ends element_ends : List ℕ) (from element_from kept elements_kept end : ℕ)
    (f : IsFlat bytes ends element_ends from element_from kept elements_kept) (whole : end ≡ length bytes) where
  components-push : cut (ends ++ end ∷ []) bytes ≡ cut ends bytes ++ drop from bytes ∷ []
  components-push = cut-push 0 ends from from end bytes f.components_rise (omega arith) (omega (arith, f.component_within)) (omega arith)

  counted_all : length (cut ends bytes) ≡ length ends
  counted_all = length-cut 0 ends bytes

  element-push : drop element_from (cut (ends ++ end ∷ []) bytes) ≡ drop element_from (cut ends bytes) ++ drop from bytes ∷ []
  element-push =
      ap (drop element_from) components-push
      ∙ drop-append-le element_from (cut ends bytes) (drop from bytes ∷ []) (omega (arith, counted_all, f.element_within, f.kept_within))

  elements-push : cut element_ends (cut (ends ++ end ∷ []) bytes) ≡ cut element_ends (cut ends bytes)
  elements-push =
      ap (cut element_ends) components-push
      ∙ cut-longer 0 element_ends element_from (cut ends bytes) (drop from bytes ∷ []) f.elements_rise
      (omega (arith, counted_all, f.element_within, f.kept_within))

  left_after : (left : ℕ) → IsLeft kept (length ends + 1) from end left
      → IsKept (left - element_from) (drop element_from (cut (ends ++ end ∷ []) bytes)) × Rise 0 (take left (ends ++ end ∷ [])) end
      × (element_from ≤ left) × (left ≤ length (ends ++ end ∷ []))
  left_after left (inl none) =
      let within = f.component_within in
      let same : left ≡ kept = none.1 in
      let stays : end ≡ from = omega (arith, none.0) in
      let empty : length (drop from bytes) ≡ 0 = omega (arith, length-drop from bytes, none.0) in
      let long : length (ends ++ end ∷ []) ≡ length ends + 1 = length-append ends (end ∷ []) in
      let front : take left (ends ++ end ∷ []) ≡ take kept ends =
      ap (λ (n : ℕ). take n (ends ++ end ∷ [])) same ∙ take-append-le kept ends (end ∷ []) f.kept_within in (
        subst (λ pieces. IsKept (left - element_from) pieces) (sym element-push)
            (kept_empty (left - element_from) (drop element_from (cut ends bytes)) (drop from bytes)
            (subst (λ (n : ℕ). IsKept (n - element_from) (drop element_from (cut ends bytes))) (sym same) f.components_left) empty),
        subst (λ l. Rise 0 l end) (sym front) (subst (λ (n : ℕ). Rise 0 (take kept ends) n) (sym stays) f.kept_rise),
        omega (arith, f.element_within),
        omega (arith, f.kept_within),
      )
  left_after left (inr some) =
      let within = f.component_within in
      let same : left ≡ length ends + 1 = some.1 in
      let full : 0 < length (drop from bytes) = omega (arith, length-drop from bytes, some.0) in
      let long : length (ends ++ end ∷ []) ≡ length ends + 1 = length-append ends (end ∷ []) in
      let all : take left (ends ++ end ∷ []) ≡ ends ++ end ∷ [] = take_all left (ends ++ end ∷ []) (omega arith) in
      let rest : left - element_from ≡ length (drop element_from (cut ends bytes)) + 1 =
      omega (arith, length-drop element_from (cut ends bytes), counted_all, f.element_within, f.kept_within) in (
        subst (λ pieces. IsKept (left - element_from) pieces) (sym element-push)
            (kept_full (left - element_from) (drop element_from (cut ends bytes)) (drop from bytes) rest full),
        subst (λ l. Rise 0 l end) (sym all) (rise_push 0 ends from end f.components_rise (omega arith)),
        omega (arith, f.element_within, f.kept_within),
        omega arith,
      )

  pub flat-component : (left : ℕ) → IsLeft kept (length ends + 1) from end left
      → IsFlat bytes (ends ++ end ∷ []) element_ends end element_from left elements_kept
  flat-component left is =
      let l = left_after left is in
      let within = f.component_within in
      record {
        components_rise = rise_push 0 ends from end f.components_rise (omega arith);
        kept_rise = l.1;
        component_within = omega arith;
        elements_rise = f.elements_rise;
        element_within = l.2;
        kept_within = l.3;
        components_left = l.0;
        elements_left = subst (IsKept elements_kept) (sym elements-push) f.elements_left;
      }

  pub open-component : (tag : List ℕ) (size : ℕ)
      → flat_open tag bytes (ends ++ end ∷ []) element_ends end element_from (size + 1)
      ≡ with_component (flat_open tag bytes ends element_ends from element_from size)
  open-component tag size =
      let none : drop end bytes ≡ [] = drop_all end bytes (omega arith) in
      rw (elements-push, element-push, none) refl

-- the open element is closed, whose components are closed
module _ (bytes ends element_ends : List ℕ) (from element_from kept elements_kept : ℕ)
    (f : IsFlat bytes ends element_ends from element_from kept elements_kept) where
  components-kept : cut (take kept ends) bytes ≡ take kept (cut ends bytes)
  components-kept = sym (take-cut kept 0 ends bytes)

  kept_all : length (take kept (cut ends bytes)) ≡ kept
  kept_all = length-take-le kept (cut ends bytes) (omega (arith, length-cut 0 ends bytes, f.kept_within))

  elements-kept : cut element_ends (take kept (cut ends bytes)) ≡ cut element_ends (cut ends bytes)
  elements-kept =
      sym (ap (cut element_ends) (sym (take-append-drop kept (cut ends bytes)))
      ∙ cut-longer 0 element_ends element_from (take kept (cut ends bytes)) (drop kept (cut ends bytes)) f.elements_rise
      (omega (arith, kept_all, f.element_within)))

  element_is : drop element_from (take kept (cut ends bytes)) ≡ without_empty_end (drop element_from (cut ends bytes))
  element_is =
      let sum : element_from + (kept - element_from) ≡ kept = omega (arith, f.element_within) in
      ap (λ (n : ℕ). drop element_from (take n (cut ends bytes))) (sym sum)
      ∙ drop-take element_from (kept - element_from) (cut ends bytes) ∙ sym f.components_left.front

  elements-more : cut (element_ends ++ kept ∷ []) (cut (take kept ends) bytes)
      ≡ cut element_ends (cut ends bytes) ++ without_empty_end (drop element_from (cut ends bytes)) ∷ []
  elements-more =
      ap (cut (element_ends ++ kept ∷ [])) components-kept
      ∙ cut-push 0 element_ends element_from element_from kept (take kept (cut ends bytes)) f.elements_rise (omega arith)
      (omega (arith, kept_all, f.element_within)) (omega (arith, kept_all))
      ∙ ap (λ pieces. pieces ++ drop element_from (take kept (cut ends bytes)) ∷ []) elements-kept
      ∙ ap (λ piece. cut element_ends (cut ends bytes) ++ piece ∷ []) element_is

  element_long : length (without_empty_end (drop element_from (cut ends bytes))) ≡ kept - element_from
  element_long =
      ap length (sym element_is) ∙ length-drop element_from (take kept (cut ends bytes)) ∙ ap (λ (n : ℕ). n - element_from) kept_all

  elements_after : (left : ℕ) → IsLeft elements_kept (length element_ends + 1) element_from kept left
      → IsKept left (cut element_ends (cut ends bytes) ++ without_empty_end (drop element_from (cut ends bytes)) ∷ [])
  elements_after left (inl none) =
      subst (λ (n : ℕ). IsKept n (cut element_ends (cut ends bytes) ++ without_empty_end (drop element_from (cut ends bytes)) ∷ []))
      (sym none.1) (kept_empty elements_kept (cut element_ends (cut ends bytes))
      (without_empty_end (drop element_from (cut ends bytes))) f.elements_left (omega (arith, element_long, none.0)))
  elements_after left (inr some) =
      kept_full left (cut element_ends (cut ends bytes)) (without_empty_end (drop element_from (cut ends bytes)))
      (some.1 ∙ ap (λ (n : ℕ). n + 1) (sym (length-cut 0 element_ends (cut ends bytes)))) (omega (arith, element_long, some.0))

  none_open : drop kept (cut (take kept ends) bytes) ≡ []
  none_open = ap (drop kept) components-kept ∙ drop_all kept (take kept (cut ends bytes)) (omega (arith, kept_all))

  pub flat-element : (left : ℕ) → IsLeft elements_kept (length element_ends + 1) element_from kept left
      → IsFlat bytes (take kept ends) (element_ends ++ kept ∷ []) from kept kept left
  flat-element left is =
      let same : take kept (take kept ends) ≡ take kept ends = take-take kept kept ends (omega arith) in
      let none : kept - kept ≡ 0 = omega arith in
      record {
        components_rise = f.kept_rise;
        kept_rise = subst (λ l. Rise 0 l from) (sym same) f.kept_rise;
        component_within = f.component_within;
        elements_rise = rise_push 0 element_ends element_from kept f.elements_rise f.element_within;
        element_within = omega arith;
        kept_within = omega (arith, length-take kept ends, f.kept_within);
        components_left =
            subst (λ pieces. IsKept (kept - kept) pieces) (sym none_open)
            (subst (λ (n : ℕ). IsKept {A = ℕ} n []) (sym none) kept_none);
        elements_left = subst (IsKept left) (sym elements-more) (elements_after left is);
      }

  pub open-element : (tag : List ℕ) (size : ℕ)
      → flat_open tag bytes (take kept ends) (element_ends ++ kept ∷ []) from kept size
      ≡ record {
        tag = tag;
        elements = cut element_ends (cut ends bytes) ++ without_empty_end (drop element_from (cut ends bytes)) ∷ [];
        element = [];
        component = drop from bytes;
        length = size;
      }
  open-element tag size = rw (elements-more, none_open) refl

-- ---- the same, in buffers

-- an end that is written behind the ends so far
pub ends_more : (items : List ℕ) (count end : ℕ) → count < length items
    → take (count + 1) (set items count end) ≡ take count items ++ end ∷ []
ends_more items count end within = take_more_set items count end within

-- of those, so many
pub ends_kept : (items : List ℕ) (count end kept : ℕ) → count < length items → kept ≤ count + 1
    → take kept (set items count end) ≡ take kept (take count items ++ end ∷ [])
ends_kept items count end kept within le =
    sym (take-take kept (count + 1) (set items count end) le) ∙ ap (take kept) (take_more_set items count end within)

pub counted : (items : List ℕ) (count : ℕ) → count < length items → length (take count items) + 1 ≡ count + 1
counted items count within = omega (arith, length-take-le count items (omega arith))

-- a component and its element are closed
module _ (bytes ends element_ends : List ℕ) (filled components elements from element_from kept elements_kept : ℕ)
    (f : IsFlat (take filled bytes) (take components ends) (take elements element_ends) from element_from kept elements_kept)
    (bytes_within : filled ≤ length bytes) (components_within : components < length ends)
    (elements_within : elements < length element_ends)
    (left : ℕ) (is : IsLeft kept (components + 1) from filled left) where
  whole : filled ≡ length (take filled bytes)
  whole = sym (length-take-le filled bytes bytes_within)

  all_ends : length (take components ends) + 1 ≡ components + 1
  all_ends = counted ends components components_within

  left_is : IsLeft kept (length (take components ends) + 1) from filled left
  left_is = subst (λ (n : ℕ). IsLeft kept n from filled left) (sym all_ends) is

  closed : IsFlat (take filled bytes) (take components ends ++ filled ∷ [])
      (take elements element_ends) filled element_from left elements_kept
  closed =
      flat-component (take filled bytes) (take components ends) (take elements element_ends) from element_from kept elements_kept filled
      f whole left left_is

  left_within : left ≤ components + 1
  left_within = omega (arith, closed.kept_within, length-append (take components ends) (filled ∷ []), all_ends)

  ends_are : take left (set ends components filled) ≡ take left (take components ends ++ filled ∷ [])
  ends_are = ends_kept ends components filled left components_within left_within

  element_ends_are : take (elements + 1) (set element_ends elements left) ≡ take elements element_ends ++ left ∷ []
  element_ends_are = take_more_set element_ends elements left elements_within

  pub flat-ended : (elements_left : ℕ) → IsLeft elements_kept (elements + 1) element_from left elements_left
      → IsFlat (take filled bytes) (take left (set ends components filled)) (take (elements + 1) (set element_ends elements left))
      filled left left elements_left × (left ≤ components + 1)
  flat-ended elements_left elements_is =
      let all : length (take elements element_ends) + 1 ≡ elements + 1 = counted element_ends elements elements_within in
      let flat = flat-element (take filled bytes) (take components ends ++ filled ∷ [])
      (take elements element_ends) filled element_from left
      elements_kept closed elements_left
      (subst (λ (n : ℕ). IsLeft elements_kept n element_from left elements_left) (sym all) elements_is) in (
        subst (λ l. IsFlat (take filled bytes) l (take (elements + 1) (set element_ends elements left)) filled left left elements_left)
            (sym ends_are)
            (subst (λ l. IsFlat (take filled bytes) (take left (take components ends ++ filled ∷ [])) l filled left left elements_left)
            (sym element_ends_are) flat),
        left_within,
      )

  pub open-ended : (tag : List ℕ) (size : ℕ)
      → flat_open tag (take filled bytes) (take left (set ends components filled)) (take (elements + 1) (set element_ends elements left))
      filled left (size + 1)
      ≡ with_element (flat_open tag (take filled bytes) (take components ends) (take elements element_ends) from element_from size)
  open-ended tag size =
      ap (λ l. flat_open tag (take filled bytes) l (take (elements + 1) (set element_ends elements left)) filled left (size + 1)) ends_are
      ∙ ap (λ l. flat_open tag (take filled bytes)
      (take left (take components ends ++ filled ∷ [])) l filled left (size + 1)) element_ends_are
      ∙ open-element (take filled bytes) (take components ends ++ filled ∷ []) (take elements element_ends) filled element_from left
      elements_kept closed tag (size + 1)
      ∙ ap closed_of (open-component (take filled bytes) (take components ends) (take elements element_ends) from element_from kept
      elements_kept filled f whole tag size)
    where
      closed_of : Open → Open
      closed_of o = record {
        tag = o.tag;
        elements = o.elements ++ without_empty_end o.element ∷ [];
        element = [];
        component = o.component;
        length = o.length;
      }

-- the front of what was copied behind those so far
pub part_more : (items held copied bytes rest : List ℕ) (len filled room count : ℕ) → len ≡ length items → held ≡ items
    → copied ≡ take count bytes ++ rest → count ≤ length bytes → filled + count ≤ len
    → take (filled + count) (take len (put_mid filled room held copied ++ drop (length (put_mid filled room held copied)) items))
    ≡ take filled items ++ take count bytes
part_more items held copied bytes rest len filled room count whole same is within fits =
    let held_long : length held ≡ length items = ap length same in
    let front : length (take count bytes) ≡ count = length-take-le count bytes within in
    let written : List ℕ = put_mid filled room held copied in
    let all : written ≡ take filled held ++ (take count bytes ++ (rest ++ post_of filled room held)) =
    ap (λ l. take filled held ++ (l ++ post_of filled room held)) is
    ∙ ap (λ l. take filled held ++ l) (append_assoc (take count bytes) rest (post_of filled room held)) in
    let begun : length (take filled held) ≡ filled = length-take-le filled held (omega arith) in
    let enough : filled + count ≤ length written =
    omega (
      arith,
      ap length all,
      length-append (take filled held) (take count bytes ++ (rest ++ post_of filled room held)),
      length-append (take count bytes) (rest ++ post_of filled room held),
    ) in
    take-take (filled + count) len (written ++ drop (length written) items) fits
    ∙ take-append-le (filled + count) written (drop (length written) items) enough
    ∙ ap (take (filled + count)) (all ∙ sym (append_assoc (take filled held) (take count bytes) (rest ++ post_of filled room held)))
    ∙ take_at (take filled held ++ take count bytes) (rest ++ post_of filled room held) (filled + count)
    (omega (arith, length-append (take filled held) (take count bytes)))
    ∙ ap (λ l. take filled l ++ take count bytes) same

-- ---- the parts of the elements that are left

front_at : (items : List ℕ) (n i : ℕ) → i ≤ n → get_or (0 ∷ take n items) i 0 ≡ get_or (0 ∷ items) i 0
front_at items n zero le = refl
front_at items n (suc i) le = get_or-take n items i 0 (omega arith)

module _ (bytes ends element_ends : List ℕ) (components elements from element_from kept elements_kept : ℕ)
    (f : IsFlat bytes (take components ends) (take elements element_ends) from element_from kept elements_kept)
    (element : ℕ) where
  pub shown_within : element < elements_kept → element < length (take elements element_ends)
  shown_within lt = omega (arith, f.elements_left.within, length-cut 0 (take elements element_ends) (cut (take components ends) bytes))

  pub element_low : element < elements_kept → get_or (0 ∷ take elements element_ends) element 0 ≡ get_or (0 ∷ element_ends) element 0
  element_low lt = front_at element_ends elements element (omega (arith, shown_within lt, length-take elements element_ends))

  pub element_high : element < elements_kept → get_or (take elements element_ends) element 0 ≡ get_or element_ends element 0
  element_high lt = get_or-take elements element_ends element 0 (omega (arith, shown_within lt, length-take elements element_ends))

  pub element_rises : element < elements_kept
      → (get_or (0 ∷ element_ends) element 0 ≤ get_or element_ends element 0)
      × (get_or element_ends element 0 ≤ length (take components ends))
  element_rises lt =
      let at = rise_at 0 (take elements element_ends) element_from element f.elements_rise (shown_within lt) in (
        omega (arith, at.1, element_low lt, element_high lt),
        omega (arith, at.2, element_high lt, f.element_within, f.kept_within),
      )

  pub element_shown : element < elements_kept
      → element_at (without_empty_end (cut (take elements element_ends) (cut (take components ends) bytes))) element
      ≡ take (get_or element_ends element 0 - get_or (0 ∷ element_ends) element 0)
      (drop (get_or (0 ∷ element_ends) element 0) (cut (take components ends) bytes))
  element_shown lt =
      let pieces : List (List (List ℕ)) = cut (take elements element_ends) (cut (take components ends) bytes) in
      let low = element_low lt in
      ap (λ (l : List (List (List ℕ))). get_or l element []) f.elements_left.front
      ∙ get_or-take elements_kept pieces element [] lt
      ∙ get_or-cut 0 (take elements element_ends) element_from element
      (get_or (0 ∷ element_ends) element 0) (cut (take components ends) bytes)
      f.elements_rise (shown_within lt) (omega (arith, low))
      ∙ rw (low, element_high lt) refl

  pub element_past : elements_kept ≤ element
      → element_at (without_empty_end (cut (take elements element_ends) (cut (take components ends) bytes))) element ≡ []
  element_past le =
      ap (λ (l : List (List (List ℕ))). get_or l element []) f.elements_left.front
      ∙ get_or_past (take elements_kept (cut (take elements element_ends) (cut (take components ends) bytes))) element []
      (omega (arith, length-take elements_kept (cut (take elements element_ends) (cut (take components ends) bytes))))

  pub element_long_is : element < elements_kept
      → length (element_at (without_empty_end (cut (take elements element_ends) (cut (take components ends) bytes))) element)
      ≡ get_or element_ends element 0 - get_or (0 ∷ element_ends) element 0
  element_long_is lt =
      let pieces : List (List ℕ) = cut (take components ends) bytes in
      let low : ℕ = get_or (0 ∷ element_ends) element 0 in
      let high : ℕ = get_or element_ends element 0 in
      let rises = element_rises lt in
      ap (λ (l : List (List ℕ)). length l) (element_shown lt)
      ∙ length-take-le (high - low) (drop low pieces)
      (omega (arith, length-drop low pieces, length-cut 0 (take components ends) bytes, rises.0, rises.1))

  pub component_shown : (place index : ℕ) → element < elements_kept → index ≡ get_or (0 ∷ element_ends) element 0 + place
      → place < get_or element_ends element 0 - get_or (0 ∷ element_ends) element 0
      → component_at (without_empty_end (cut (take elements element_ends) (cut (take components ends) bytes))) element place
      ≡ take (get_or ends index 0 - get_or (0 ∷ ends) index 0) (drop (get_or (0 ∷ ends) index 0) bytes)
  component_shown place index lt is within =
      let pieces : List (List ℕ) = cut (take components ends) bytes in
      let low : ℕ = get_or (0 ∷ element_ends) element 0 in
      let high : ℕ = get_or element_ends element 0 in
      let rises = element_rises lt in
      let inside : index < length (take components ends) = omega (arith, rises.0, rises.1) in
      let counted : index < components = omega (arith, length-take components ends) in
      let begins = front_at ends components index (omega arith) in
      let ends_at = get_or-take components ends index 0 counted in
      ap (λ (l : List (List ℕ)). get_or l place []) (element_shown lt)
      ∙ get_or-take (high - low) (drop low pieces) place [] within
      ∙ get_or-drop low pieces place []
      ∙ ap (λ (n : ℕ). get_or pieces n []) (sym is)
      ∙ get_or-cut 0 (take components ends) from index (get_or (0 ∷ ends) index 0) bytes f.components_rise inside (omega (arith, begins))
      ∙ rw (begins, ends_at) refl

  pub component_rises : (place index : ℕ) → element < elements_kept → index ≡ get_or (0 ∷ element_ends) element 0 + place
      → place < get_or element_ends element 0 - get_or (0 ∷ element_ends) element 0
      → (index < components) × (get_or (0 ∷ ends) index 0 ≤ get_or ends index 0) × (get_or ends index 0 ≤ length bytes)
  component_rises place index lt is within =
      let rises = element_rises lt in
      let inside : index < length (take components ends) = omega (arith, rises.0, rises.1) in
      let counted : index < components = omega (arith, length-take components ends) in
      let at = rise_at 0 (take components ends) from index f.components_rise inside in (
        counted,
        omega (arith, at.1, front_at ends components index (omega arith), get_or-take components ends index 0 counted),
        omega (arith, at.2, get_or-take components ends index 0 counted, f.component_within),
      )

  pub component_past : (place : ℕ)
      → length (element_at (without_empty_end (cut (take elements element_ends) (cut (take components ends) bytes))) element) ≤ place
      → component_at (without_empty_end (cut (take elements element_ends) (cut (take components ends) bytes))) element place ≡ []
  component_past place le =
      get_or_past (element_at (without_empty_end (cut (take elements element_ends) (cut (take components ends) bytes))) element) place [] le

  -- all of a component that is there
  pub component_there : (place index : ℕ)
      → place < length (element_at (without_empty_end (cut (take elements element_ends) (cut (take components ends) bytes))) element)
      → index ≡ get_or (0 ∷ element_ends) element 0 + place
      → (element < elements_kept) × (index < components) × (get_or (0 ∷ ends) index 0 ≤ get_or ends index 0)
      × (get_or ends index 0 ≤ length bytes)
      × (component_at (without_empty_end (cut (take elements element_ends) (cut (take components ends) bytes))) element place
      ≡ take (get_or ends index 0 - get_or (0 ∷ ends) index 0) (drop (get_or (0 ∷ ends) index 0) bytes))
  component_there place index within is =
      elim (cases_order element elements_kept) [
        | inl same ↦ absurd (omega (arith, ap (λ (l : List (List ℕ)). length l) (element_past (omega arith))))
        | inr (inl lt) ↦
            let inside : place < get_or element_ends element 0 - get_or (0 ∷ element_ends) element 0 = omega (arith, element_long_is lt) in
            let rises = component_rises place index lt is inside in
            (lt, rises.0, rises.1, rises.2, component_shown place index lt is inside)
        | inr (inr gt) ↦ absurd (omega (arith, ap (λ (l : List (List ℕ)). length l) (element_past (omega arith))))
      ]

  pub element_there : (place : ℕ)
      → place < length (element_at (without_empty_end (cut (take elements element_ends) (cut (take components ends) bytes))) element)
      → element < elements_kept
  element_there place within =
      (component_there place (get_or (0 ∷ element_ends) element 0 + place) within refl).0

-- a place below a count
pub place_there : (o inside : Open) (element place count : ℕ) → inside ≡ o
    → count ≡ length (element_at (without_empty_end o.elements) element) → place < count
    → place < length (element_at (without_empty_end inside.elements) element)
place_there o inside element place count same is lt =
    omega (arith, ap (λ (p : Open). length (element_at (without_empty_end p.elements) element)) same)

-- a part of the front is that part of the whole
pub same_bytes : (items : List ℕ) (filled from end : ℕ) → from ≤ end → end ≤ length (take filled items)
    → take (end - from) (drop from items) ≡ take (end - from) (drop from (take filled items))
same_bytes items filled from end rises within =
    let whole : take filled items ++ drop filled items ≡ items = take-append-drop filled items in
    ap (λ (l : List ℕ). take (end - from) (drop from l)) (sym whole)
    ∙ ap (take (end - from)) (drop-append-le from (take filled items) (drop filled items) (omega arith))
    ∙ take-append-le (end - from) (drop from (take filled items)) (drop filled items)
    (omega (arith, length-drop from (take filled items)))
