-- Handles items that occur twice, and the set of those seen so far.
use Rattle.std.proofs.Common.{◌≡◌, ℕ, ◌+◌, ◌<◌, List, [], ◌∷◌, ◌++◌, length, get_or, take, drop, map, true, false, Bool}
use Rattle.std.proofs.Common.{◌||◌, Ordering, nat_eq, refl, sym, ap, ◌∙◌, Bor, inl, inr}
use Rattle.std.specs.List.{list_any}
use Rattle.std.specs.Str.{bytes_eq}
use Rattle.std.specs.Ordering.{is_eq, nat_cmp, match_ordering}
use Rattle.std.specs.Cmp.{unsigned_ties}
use Rattle.std.specs.Cmp.Lexicographic.{slice_cmp}
use Rattle.std.specs.BTreeMap.{is_at}
use Rattle.std.specs.BTreeSet.{insert_key}
use Rattle.std.specs.declared.cmp.Ordering.TheVariants.{Less, Equal, Greater}
use Rattle.std.proofs.lemmas.Bool.{or_parts, or_from, or_left, or_right, or_cases}
use Rattle.std.proofs.lemmas.Bool.Decides.{same_from_decides, Decides-eqb}
use Rattle.std.proofs.lemmas.Slice.Eq.{bytes_eq-Decides}
use Rattle.std.proofs.lemmas.Map.Text.{is_eq-slice_cmp}
use Rattle.std.proofs.lemmas.Map.Lookups.{exact_bytes, exact_unsigned}
use Rattle.std.proofs.lemmas.List.{take_more, take-append-drop, drop_more}
use Rattle.edi_base.specs.Seen.{comes_among, comes_twice}

or_swap : (a b c : Bool) → (a || (b || c)) ≡ (b || (a || c))
or_swap true true c = refl
or_swap true false c = refl
or_swap false b c = refl

or_same : (a b c : Bool) → a ≡ b → (a || (b || c)) ≡ (b || c)
or_same true true c h = refl
or_same true false c h = cc
or_same false b c h = refl

-- the items that the keys of a set stand for, in an order by which equal keys are equal items
module _ {K X : Type 0} (item : K → X) (order : K → K → Ordering) (same : X → X → Bool)
    (exact : (a b : K) → order a b ≡ Equal → item a ≡ item b)
    (tells : (a b : K) → is_eq (order a b) ≡ same (item a) (item b)) where
  insert_case : (o : Ordering) (q : X) (k x : K) (xs more : List K)
      → (o ≡ Equal → item k ≡ item x)
      → comes_among same q (map item more) ≡ (same q (item k) || comes_among same q (map item xs))
      → comes_among same q (map item (match_ordering o (k ∷ x ∷ xs) (x ∷ xs) (x ∷ more)))
      ≡ (same q (item k) || comes_among same q (map item (x ∷ xs)))
  insert_case Less q k x xs more agree h = refl
  insert_case Equal q k x xs more agree h =
      sym (or_same (same q (item k)) (same q (item x)) (comes_among same q (map item xs)) (ap (same q) (agree refl)))
  insert_case Greater q k x xs more agree h =
      ap (λ rest. same q (item x) || rest) h ∙ or_swap (same q (item x)) (same q (item k)) (comes_among same q (map item xs))

  -- after inserting, the item is among those of the set, and so are the others
  pub among-insert : (q : X) (keys : List K) (k : K)
      → comes_among same q (map item (insert_key order keys k)) ≡ (same q (item k) || comes_among same q (map item keys))
  among-insert q [] k = refl
  among-insert q (x ∷ xs) k = insert_case (order k x) q k x xs (insert_key order xs k) (exact k x) (among-insert q xs k)

  -- what the set returns
  pub contains-among : (q : K) (keys : List K) → list_any (is_at (order q)) keys ≡ comes_among same (item q) (map item keys)
  contains-among q [] = refl
  contains-among q (k ∷ keys) = rw (tells q k, contains-among q keys) refl

-- the text of a reference, and the order of references
abbrev pub text_of : Bor (List ℕ) → List ℕ
text_of key = key.now

abbrev pub by_bytes : Bor (List ℕ) → Bor (List ℕ) → Ordering
by_bytes a b = slice_cmp nat_cmp a.now b.now

pub is_among-insert : (q : List ℕ) (keys : List (Bor (List ℕ))) (k : Bor (List ℕ))
    → comes_among bytes_eq q (map text_of (insert_key by_bytes keys k))
    ≡ (bytes_eq q k.now || comes_among bytes_eq q (map text_of keys))
is_among-insert = among-insert text_of by_bytes bytes_eq (λ a b. exact_bytes a.now b.now) (λ a b. is_eq-slice_cmp a.now b.now)

pub contains-text : (q : Bor (List ℕ)) (keys : List (Bor (List ℕ)))
    → list_any (is_at (by_bytes q)) keys ≡ comes_among bytes_eq q.now (map text_of keys)
contains-text = contains-among text_of by_bytes bytes_eq (λ a b. exact_bytes a.now b.now) (λ a b. is_eq-slice_cmp a.now b.now)

-- numbers are their own keys
abbrev pub number_itself : ℕ → ℕ
number_itself n = n

numbers_tell : (a b : ℕ) → is_eq (nat_cmp a b) ≡ nat_eq a b
numbers_tell a b = sym (unsigned_ties a b)

pub number-insert : (q : ℕ) (keys : List ℕ) (k : ℕ)
    → comes_among nat_eq q (map number_itself (insert_key nat_cmp keys k))
    ≡ (nat_eq q k || comes_among nat_eq q (map number_itself keys))
number-insert = among-insert number_itself nat_cmp nat_eq exact_unsigned numbers_tell

pub contains-number : (q : ℕ) (keys : List ℕ) → list_any (is_at (nat_cmp q)) keys ≡ comes_among nat_eq q (map number_itself keys)
contains-number = contains-among number_itself nat_cmp nat_eq exact_unsigned numbers_tell

pub bytes_eq-sym : (a b : List ℕ) → bytes_eq a b ≡ bytes_eq b a
bytes_eq-sym a b =
    let d = bytes_eq-Decides b a in
    same_from_decides (bytes_eq a b) (bytes_eq b a) (bytes_eq-Decides a b) ((λ t. sym (d.0 t)), (λ e. d.1 (sym e)))

pub nat_eq-sym : (a b : ℕ) → nat_eq a b ≡ nat_eq b a
nat_eq-sym a b =
    same_from_decides (nat_eq a b) (nat_eq b a) (Decides-eqb a b)
    ((λ t. sym ((Decides-eqb b a).0 t)), (λ e. (Decides-eqb b a).1 (sym e)))

-- items compared by a symmetric test
module _ {X : Type 0} (same : X → X → Bool) (same-sym : (a b : X) → same a b ≡ same b a) where
  among-push : (q : X) (xs : List X) (x : X) → comes_among same q (xs ++ x ∷ []) ≡ (same q x || comes_among same q xs)
  among-push q [] x = refl
  among-push q (y ∷ ys) x = ap (λ rest. same q y || rest) (among-push q ys x) ∙ or_swap (same q y) (same q x) (comes_among same q ys)

  -- one more item that is new
  twice-push : (xs : List X) (x : X) → comes_twice same xs ≡ false → comes_among same x xs ≡ false → comes_twice same (xs ++ x ∷ []) ≡ false
  twice-push [] x once new = refl
  twice-push (y ∷ ys) x once new =
      let before = or_parts (comes_among same y ys) (comes_twice same ys) once in
      let here = or_parts (same x y) (comes_among same x ys) new in
      or_from _ _ (among-push y ys x ∙ or_from (same y x) (comes_among same y ys) (same-sym y x ∙ here.0) before.0)
      (twice-push ys x before.1 here.1)

  among-middle : (q : X) (xs : List X) (x : X) (ys : List X) → same q x ≡ true → comes_among same q (xs ++ x ∷ ys) ≡ true
  among-middle q [] x ys h = or_left (same q x) (comes_among same q ys) h
  among-middle q (y ∷ xs) x ys h = or_right (same q y) _ (among-middle q xs x ys h)

  -- one that occurred before
  twice-again : (xs : List X) (x : X) (ys : List X) → comes_among same x xs ≡ true → comes_twice same (xs ++ x ∷ ys) ≡ true
  twice-again [] x ys h = cc
  twice-again (y ∷ xs) x ys h =
      elim (or_cases (same x y) (comes_among same x xs) h) [
        | inl equal ↦ or_left _ (comes_twice same (xs ++ x ∷ ys)) (among-middle y xs x ys (same-sym y x ∙ equal))
        | inr later ↦ or_right (comes_among same y (xs ++ x ∷ ys)) _ (twice-again xs x ys later)
      ]

  -- walking along items: the one at a position occurred before, or is new
  module _ (xs : List X) (i : ℕ) (x : X) (within : i < length xs) (at : x ≡ get_or xs i x) where
    taken : take (i + 1) xs ≡ take i xs ++ x ∷ []
    taken = take_more xs i x within ∙ ap (λ y. take i xs ++ y ∷ []) (sym at)

    pub comes_again : comes_among same x (take i xs) ≡ true → comes_twice same xs ≡ true
    comes_again before =
        ap (comes_twice same) (sym (take-append-drop i xs)
        ∙ ap (λ rest. take i xs ++ rest) (drop_more xs i x within)
        ∙ ap (λ y. take i xs ++ y ∷ drop (i + 1) xs) (sym at))
        ∙ twice-again (take i xs) x (drop (i + 1) xs) before

    pub comes_first : comes_twice same (take i xs) ≡ false
        → comes_among same x (take i xs) ≡ false
        → comes_twice same (take (i + 1) xs) ≡ false
    comes_first once new = ap (comes_twice same) taken ∙ twice-push (take i xs) x once new

    pub among_more : (q : X) → comes_among same q (take (i + 1) xs) ≡ (same q x || comes_among same q (take i xs))
    among_more q = ap (comes_among same q) taken ∙ among-push q (take i xs) x
