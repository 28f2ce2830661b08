-- Shows what collecting the prefixes of each supplier, one after another, gives.
use Rattle.std.proofs.Common.{◌≡◌, ℕ, zero, suc, ◌<◌, Bool, true, false, cond, List, [], ◌∷◌, ◌++◌}
use Rattle.std.proofs.Common.{length, get_or, map, filter, slice_set, refl, sym, ap, ap₂, ◌∙◌, arith}
use Rattle.std.specs.List.{AllByRecursion, HoldsAt}
use Rattle.std.specs.Ordering.{is_eq}
use Rattle.std.specs.declared.cmp.Ordering.TheVariants.{Less}
use Rattle.std.proofs.lemmas.Map.Text.{is_eq-slice_cmp}
use Rattle.edi_base.proofs.Twice.{bytes_eq-sym}
use Rattle.hub_parties.specs.KeyOrder.{bytes_cmp, Rises}
use Rattle.hub_tables.specs.Rows.{same, key_cmp}
use Rattle.hub_tables.specs.declared.rows.KeyRow.{KeyRow}
use Rattle.hub_tables.specs.declared.rows.PrefixRow.{PrefixRow}
use Rattle.hub_tables.proofs.Lists.{all_weaker, same_if}
use Rattle.hub_founding.specs.Gathered.{prefixes_in, gathered, with_prefix}

-- what is collected so far, with the prefixes that are still to be added
abbrev pub and_rest : List PrefixRow → List KeyRow → List (List (List ℕ)) → List (List (List ℕ))
and_rest rest (key ∷ keys) (list ∷ lists) = (list ++ prefixes_in rest key) ∷ and_rest rest keys lists
and_rest rest keys [] = []
and_rest rest [] (list ∷ lists) = []

pub nothing_put : (rest : List PrefixRow) (keys : List KeyRow) → gathered rest keys ≡ and_rest rest keys (map (λ row. []) keys)
nothing_put rest [] = refl
nothing_put rest (key ∷ keys) = ap (λ more. prefixes_in rest key ∷ more) (nothing_put rest keys)

pub all_put : (keys : List KeyRow) (lists : List (List (List ℕ))) → length lists ≡ length keys → and_rest [] keys lists ≡ lists
all_put [] [] same = refl
all_put [] (list ∷ lists) same = absurd (omega (arith, same))
all_put (key ∷ keys) [] same = absurd (omega (arith, same))
all_put (key ∷ keys) (list ∷ lists) same = ap₂ (λ first more. first ∷ more) (nothing_more list) (all_put keys lists (omega (arith, same)))
  where
    nothing_more : (xs : List (List ℕ)) → xs ++ [] ≡ xs
    nothing_more [] = refl
    nothing_more (x ∷ xs) = ap (λ rest. x ∷ rest) (nothing_more xs)

one_after : (xs : List (List ℕ)) (x : List ℕ) (rest : List (List ℕ)) → xs ++ x ∷ rest ≡ (xs ++ x ∷ []) ++ rest
one_after [] x rest = refl
one_after (y ∷ xs) x rest = ap (λ more. y ∷ more) (one_after xs x rest)

pub one_put : (row : PrefixRow) (rest : List PrefixRow) (keys : List KeyRow) (lists : List (List (List ℕ)))
    → and_rest (row ∷ rest) keys lists ≡ and_rest rest keys (with_prefix row keys lists)
one_put row rest [] [] = refl
one_put row rest [] (list ∷ lists) = refl
one_put row rest (key ∷ keys) [] = refl
one_put row rest (key ∷ keys) (list ∷ lists) =
    ap₂ (λ first more. first ∷ more) (here (same row.supplier key.supplier)) (one_put row rest keys lists)
  where
    here : (b : Bool)
        → list ++ map (λ (found : PrefixRow). found.prefix)
        (cond b (row ∷ filter (λ found. same found.supplier key.supplier) rest) (filter (λ found. same found.supplier key.supplier) rest))
        ≡ cond b (list ++ row.prefix ∷ []) list ++ prefixes_in rest key
    here true = one_after list row.prefix (prefixes_in rest key)
    here false = refl

-- A prefix is added only to the list of its supplier's key.
below_is_other : (a b : List ℕ) → bytes_cmp a b ≡ Less → same b a ≡ false
below_is_other a b less = bytes_eq-sym b a ∙ sym (is_eq-slice_cmp a b) ∙ ap is_eq less

none_put : (row : PrefixRow) (keys : List KeyRow) (lists : List (List (List ℕ)))
    → AllByRecursion (λ key. same row.supplier key.supplier ≡ false) keys
    → with_prefix row keys lists ≡ lists
none_put row [] [] others = refl
none_put row [] (list ∷ lists) others = refl
none_put row (key ∷ keys) [] others = refl
none_put row (key ∷ keys) (list ∷ lists) others =
    ap₂ (λ first more. first ∷ more) (ap (λ b. cond b (list ++ row.prefix ∷ []) list) others.0) (none_put row keys lists others.1)

head_at : (P : KeyRow → Type 0) (keys : List KeyRow) (i : ℕ) (d : KeyRow) → AllByRecursion P keys → i < length keys → P (get_or keys i d)
head_at P [] i d all within = absurd (omega (arith, within))
head_at P (key ∷ keys) zero d all within = all.0
head_at P (key ∷ keys) (suc i) d all within = head_at P keys i d all.1 (omega (arith, within))

module _ {V : Type 0} (items : V → List (List ℕ)) (row : PrefixRow) (new : V) where
  pub put_at : (keys : List KeyRow) (lists : List V) (place : ℕ) (old : V)
      → Rises key_cmp keys
      → length lists ≡ length keys
      → place < length keys
      → HoldsAt (λ key. key.supplier ≡ row.supplier) keys place
      → items new ≡ items (get_or lists place old) ++ row.prefix ∷ []
      → map items (slice_set lists place new) ≡ with_prefix row keys (map items lists)
  put_at [] lists place old rises same_length within at is = absurd (omega (arith, within))
  put_at (key ∷ keys) [] place old rises same_length within at is = absurd (omega (arith, same_length))
  put_at (key ∷ keys) (list ∷ lists) zero old rises same_length within at is =
      let mine : same row.supplier key.supplier ≡ true = same_if row.supplier key.supplier (sym (at key)) in
      let others = all_weaker (λ y. key_cmp key y ≡ Less) (λ y. same row.supplier y.supplier ≡ false)
      (λ y less. bytes_eq-sym row.supplier y.supplier ∙ ap (same y.supplier) (sym (at key))
      ∙ below_is_other key.supplier y.supplier less) keys rises.0 in
      ap₂ (λ first more. first ∷ more) (is ∙ ap (λ b. cond b (items list ++ row.prefix ∷ []) (items list)) (sym mine))
      (sym (none_put row keys (map items lists) others))
  put_at (key ∷ keys) (list ∷ lists) (suc place) old rises same_length within at is =
      let here : place < length keys = omega (arith, within) in
      let below : bytes_cmp key.supplier (get_or keys place key).supplier ≡ Less =
      head_at (λ y. key_cmp key y ≡ Less) keys place key rises.0 here in
      let other : same row.supplier key.supplier ≡ false =
      below_is_other key.supplier row.supplier (sym (ap (bytes_cmp key.supplier) (at key)) ∙ below) in
      ap₂ (λ first more. first ∷ more) (ap (λ b. cond b (items list ++ row.prefix ∷ []) (items list)) (sym other))
      (put_at keys lists place old rises.1 (omega (arith, same_length)) here at is)
