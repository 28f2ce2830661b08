-- Proves whether rows pass a test, and whether a query finds any.
use Rattle.std.proofs.Common.{◌≡◌, ◌++◌, ℕ, zero, suc, take, ◌==◌, ◌<◌, ◌^◌, ◌*◌, ℤ, negsuc, nat_lt, inl, inr, Bool}
use Rattle.std.proofs.Common.{true, false, cond, not, ◌&&◌, ◌||◌, List, [], ◌∷◌, map, filter, length, pos, refl, sym}
use Rattle.std.proofs.Common.{ap, ap₂, ◌∙◌, arith}
use Rattle.std.specs.List.{AllByRecursion, list_all, list_any}
use Rattle.std.proofs.lemmas.Bool.Decides.{nat_tests}
use Rattle.std.proofs.lemmas.List.Sorted.{length_permutation}
use Rattle.sqlite_value.specs.declared.value.Value.{Value}
use Rattle.sqlite_value.specs.declared.value.Value.TheVariants.{Int, Blob}
use Rattle.sqlite_value.specs.declared.keys.Collation.TheVariants.{Binary}
use Rattle.sqlite_schema.specs.declared.schema.Kind.TheVariants as kind
use Rattle.std.proofs.lemmas.Bool.{cases_Bool, and_parts, and_from}
use Rattle.std.proofs.lemmas.Int.{ints}
use Rattle.std.specs.Ordering.{is_eq, int_cmp}
use Rattle.sqlite_value.proofs.OrderLemmas.{value_cmp-Int}
use Rattle.sqlite_sql.specs.declared.ops.BinaryOp.TheVariants.{Compare}
use Rattle.sqlite_sql.specs.declared.ops.CompareOp.TheVariants.{Eq}
use Rattle.sqlite_sql.specs.Ops.{is_true, binary}
use Rattle.sql_rows.specs.Cells.{IsOf}
use Rattle.sql_rows.proofs.Answers.{same_bytes, is_truth, length_map}
use Rattle.sqlite_value.specs.declared.keys.Key.{Key}
use Rattle.sqlite_value.specs.Order.{Row}
use Rattle.sqlite_sql.specs.Term.{Term}
use Rattle.hub_rows.proofs.Finding.{no_limit, passes, FindsRows}
use Rattle.hub_tables.specs.Rows.{same}
use Rattle.hub_schema.specs.Cells.{bytes_in, natural, number_in}

pub cell_bytes : (v : Value) (bytes : List ℕ) → IsOf kind.Blob v
    → is_true (binary (Compare Eq Binary) v (Blob bytes)) ≡ same (bytes_in v) bytes
cell_bytes v bytes it = same_bytes v it.0 bytes it.1 ∙ ap (λ w. same w bytes) (sym (ap bytes_in it.1))

pub same_natural : (m : ℤ) (n : ℕ) → n < 2 ^ 64 → is_eq (int_cmp m (pos n)) ≡ (natural m == n)
same_natural (pos k) n low = elim (cases_Bool (nat_lt k (2 ^ 64))) [
  | inl e ↦ ap (λ v. is_eq (int_cmp (pos k) (pos v))) refl ∙ both k n ∙ ap (λ b. cond b k (2 * k) == n) (sym e)
  | inr e ↦ differs k n low e ∙ ap (λ b. cond b k (2 * k) == n) (sym e)
]
  where
    both : (k n : ℕ) → is_eq (int_cmp (pos k) (pos n)) ≡ (k == n)
    both k n = grind (arith, ints, nat_tests)

    differs : (k n : ℕ) → n < 2 ^ 64 → nat_lt k (2 ^ 64) ≡ false → is_eq (int_cmp (pos k) (pos n)) ≡ (2 * k == n)
    differs k n low e = grind (arith, ints, nat_tests)
same_natural (negsuc k) n low = grind (arith, ints, nat_tests)

pub cell_number : (v : Value) (n : ℕ) → n < 2 ^ 64 → IsOf kind.Integer v
    → is_true (binary (Compare Eq Binary) v (Int (pos n))) ≡ (number_in v == n)
unfolding binary
cell_number v n low it =
    ap (λ w. is_true (binary (Compare Eq Binary) w (Int (pos n)))) it.1
    ∙ (is_truth _ ∙ (ap is_eq (value_cmp-Int it.0 (pos n)) ∙ same_natural it.0 n low))
    ∙ ap (λ w. w == n) (sym (ap number_in it.1))

pub any_filter : {X : Type 0} (p q : X → Bool) (xs : List X) → list_any q (filter p xs) ≡ list_any (λ x. p x && q x) xs
any_filter p q [] = refl
any_filter p q (x ∷ xs) = elim (p x) as (λ v. list_any q (cond v (x ∷ filter p xs) (filter p xs))
    ≡ ((v && q x) || list_any (λ x. p x && q x) xs))
    [ true ↦ ap (λ v. q x || v) (any_filter p q xs) | false ↦ any_filter p q xs ]

pub any_shown : {X Y : Type 0} (f : X → Y) (p : Y → Bool) (q : X → Bool) (xs : List X) → AllByRecursion (λ x. q x ≡ p (f x)) xs
    → list_any q xs ≡ list_any p (map f xs)
any_shown f p q [] all = refl
any_shown f p q (x ∷ xs) all = ap₂ (λ v w. v || w) all.0 (any_shown f p q xs all.1)

pub some_pass : {X : Type 0} (q : X → Bool) (xs : List X) → not (length (filter q xs) == 0) ≡ list_any q xs
some_pass q [] = refl
some_pass q (x ∷ xs) = elim (q x) as (λ v. not (length (cond v (x ∷ filter q xs) (filter q xs)) == 0) ≡ (v || list_any q xs))
    [ true ↦ more (length (filter q xs)) | false ↦ some_pass q xs ]
  where
    more : (n : ℕ) → not (suc n == 0) ≡ true
    more n = grind (arith, nat_tests)

pub all_such : {X : Type 0} (P Q : X → Type 0) → ((x : X) → P x → Q x) → (xs : List X) → AllByRecursion P xs → AllByRecursion Q xs
all_such P Q f [] all = tt
all_such P Q f (x ∷ xs) all = (f x all.0, all_such P Q f xs all.1)

pub one_more : {X : Type 0} (p : X → Bool) (xs : List X) (x : X) → list_all p xs ≡ true → p x ≡ true → list_all p (xs ++ x ∷ []) ≡ true
one_more p [] x all one = and_from (p x) true one refl
one_more p (y ∷ ys) x all one =
    let parts = and_parts (p y) (list_all p ys) all in and_from (p y) (list_all p (ys ++ x ∷ [])) parts.0 (one_more p ys x parts.1 one)

pub all_take : {X : Type 0} (p : X → Bool) (n : ℕ) (xs : List X) → list_all p xs ≡ true → list_all p (take n xs) ≡ true
all_take p zero xs all = refl
all_take p (suc n) [] all = refl
all_take p (suc n) (x ∷ xs) all =
    let parts = and_parts (p x) (list_all p xs) all in and_from (p x) (list_all p (take n xs)) parts.0 (all_take p n xs parts.1)

-- the query has rows exactly if some stored row passes
pub some_found : (stored : List Row) (tests shown : List Term) (order : List (Term × Key)) (params : Row) (rows : List Row)
    → FindsRows stored tests shown order no_limit params rows
    → not (length rows == 0) ≡ list_any (passes tests params) stored
some_found stored tests shown order params rows it =
    ap (λ n. not (n == 0)) (ap length it.is ∙ length_map _ it.sources ∙ length_permutation _ it.sources it.same)
    ∙ some_pass (passes tests params) stored
