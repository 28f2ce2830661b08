-- Proves how the numbers of cells compare.
use Rattle.std.proofs.Common.{◌≡◌, ℕ, ◌+◌, ◌*◌, ◌%◌, ◌==◌, ◌<◌, ◌^◌, nat_lt, ℤ, pos, negsuc, Bool, true, false, cond}
use Rattle.std.proofs.Common.{not, ◌&&◌, ◌||◌, inl, inr, refl, sym, ap, ap₂, ◌∙◌, arith}
use Rattle.std.specs.declared.cmp.Ordering.{Ordering}
use Rattle.std.specs.declared.cmp.Ordering.TheVariants.{Less, Equal, Greater}
use Rattle.std.specs.Ordering.{is_eq, is_ne, is_lt, is_gt, int_cmp, nat_cmp}
use Rattle.std.proofs.lemmas.Bool.{cases_Bool, and_parts}
use Rattle.std.proofs.lemmas.Bool.Decides.{nat_tests}
use Rattle.std.proofs.lemmas.Int.{ints}
use Rattle.sqlite_value.specs.declared.value.Value.{Value}
use Rattle.sqlite_value.specs.declared.value.Value.TheVariants.{Int}
use Rattle.sqlite_value.specs.declared.keys.Collation.TheVariants.{Binary}
use Rattle.sqlite_value.proofs.OrderLemmas.{value_cmp-Int}
use Rattle.sqlite_schema.specs.declared.schema.Kind.TheVariants as kind
use Rattle.sqlite_sql.specs.declared.ops.CompareOp.{CompareOp}
use Rattle.sqlite_sql.specs.declared.ops.CompareOp.TheVariants.{Lt, Gt, Ne}
use Rattle.sqlite_sql.specs.declared.ops.BinaryOp.TheVariants.{Compare}
use Rattle.sqlite_sql.specs.Ops.{is_true, binary, test}
use Rattle.sql_rows.specs.Cells.{IsOf}
use Rattle.sql_rows.proofs.Answers.{is_truth}
use Rattle.hub_schema.specs.Cells.{natural, number_in}
use Rattle.sqlite_value.specs.Order.{value_cmp}
use Rattle.hub_rows.proofs.Counting.{same_natural}
use Rattle.hub_rows.proofs.Ranking.{nat_int}
use Rattle.hub_reads.specs.Mail.{is_low, is_above}

odd : (k : ℕ) → ((2 ^ 65 + 2 * k + 1) % 2 == 1) ≡ true
odd k = let one : (2 ^ 65 + 2 * k + 1) % 2 ≡ 1 = omega arith in ap (λ n. n == 1) one

even : (k : ℕ) → ((2 * k) % 2 == 1) ≡ false
even k = let none : (2 * k) % 2 ≡ 0 = omega arith in ap (λ n. n == 1) none

natural_low : (m : ℤ) → is_low (natural m) ≡ is_lt (int_cmp m (pos 1))
natural_low (pos k) = elim (cases_Bool (nat_lt k (2 ^ 64))) [
  | inl e ↦ ap (λ b. is_low (cond b k (2 * k))) e ∙ small k e
  | inr e ↦ ap (λ b. is_low (cond b k (2 * k))) e ∙ ap (λ b. ((2 * k) == 0) || (nat_lt (2 ^ 65) (2 * k) && b)) (even k)
      ∙ great k e (nat_lt (2 ^ 65) (2 * k))
]
  where
    small : (k : ℕ) → nat_lt k (2 ^ 64) ≡ true → ((k == 0) || (nat_lt (2 ^ 65) k && (k % 2 == 1))) ≡ is_lt (int_cmp (pos k) (pos 1))
    small k e = let below : nat_lt (2 ^ 65) k ≡ false = grind (arith, nat_tests) in ap (λ b. (k == 0) || (b && (k % 2 == 1))) below ∙ last k
      where
        last : (k : ℕ) → ((k == 0) || false) ≡ is_lt (int_cmp (pos k) (pos 1))
        last k = grind (arith, ints, nat_tests)

    great : (k : ℕ) → nat_lt k (2 ^ 64) ≡ false → (b : Bool) → (((2 * k) == 0) || (b && false)) ≡ is_lt (int_cmp (pos k) (pos 1))
    great k e true = grind (arith, ints, nat_tests)
    great k e false = grind (arith, ints, nat_tests)
natural_low (negsuc k) = ap (λ b. ((2 ^ 65 + 2 * k + 1) == 0) || (nat_lt (2 ^ 65) (2 ^ 65 + 2 * k + 1) && b)) (odd k) ∙ last k
  where
    last : (k : ℕ) → (((2 ^ 65 + 2 * k + 1) == 0) || (nat_lt (2 ^ 65) (2 ^ 65 + 2 * k + 1) && true)) ≡ is_lt (int_cmp (negsuc k) (pos 1))
    last k = grind (arith, ints, nat_tests)

natural_above : (m : ℤ) (n : ℕ) → n < 2 ^ 63 → is_above n (natural m) ≡ is_gt (int_cmp m (pos n))
natural_above (pos k) n low = ap (λ b. nat_lt n (natural (pos k)) && not b) (natural_low (pos k)) ∙ elim (cases_Bool (nat_lt k (2 ^ 64))) [
  | inl e ↦ ap (λ b. nat_lt n (cond b k (2 * k)) && not (is_lt (int_cmp (pos k) (pos 1)))) e ∙ small k n
  | inr e ↦ ap (λ b. nat_lt n (cond b k (2 * k)) && not (is_lt (int_cmp (pos k) (pos 1)))) e ∙ great k n e low
]
  where
    small : (k n : ℕ) → (nat_lt n k && not (is_lt (int_cmp (pos k) (pos 1)))) ≡ is_gt (int_cmp (pos k) (pos n))
    small k n = grind (arith, ints, nat_tests)

    great : (k n : ℕ) → nat_lt k (2 ^ 64) ≡ false → n < 2 ^ 63
        → (nat_lt n (2 * k) && not (is_lt (int_cmp (pos k) (pos 1)))) ≡ is_gt (int_cmp (pos k) (pos n))
    great k n e low = grind (arith, ints, nat_tests)
natural_above (negsuc k) n low = ap (λ b. nat_lt n (natural (negsuc k)) && not b) (natural_low (negsuc k)) ∙ last k n
  where
    last : (k n : ℕ) → (nat_lt n (2 ^ 65 + 2 * k + 1) && not (is_lt (int_cmp (negsuc k) (pos 1)))) ≡ is_gt (int_cmp (negsuc k) (pos n))
    last k n = grind (arith, ints, nat_tests)

cell_test : (op : CompareOp) (v : Value) (n : ℕ) (it : IsOf kind.Integer v)
    → is_true (binary (Compare op Binary) v (Int (pos n))) ≡ test op (int_cmp it.0 (pos n))
unfolding binary
cell_test op v n it = ap (λ w. is_true (binary (Compare op Binary) w (Int (pos n)))) it.1
    ∙ (is_truth _ ∙ ap (test op) (value_cmp-Int it.0 (pos n)))

pub cell_low : (v : Value) → IsOf kind.Integer v → is_true (binary (Compare Lt Binary) v (Int (pos 1))) ≡ is_low (number_in v)
cell_low v it = cell_test Lt v 1 it ∙ sym (natural_low it.0) ∙ ap is_low (sym (ap number_in it.1))

pub cell_above : (v : Value) (n : ℕ) → n < 2 ^ 63 → IsOf kind.Integer v
    → is_true (binary (Compare Gt Binary) v (Int (pos n))) ≡ is_above n (number_in v)
cell_above v n low it = cell_test Gt v n it ∙ sym (natural_above it.0 n low) ∙ ap (is_above n) (sym (ap number_in it.1))

unequal : (o : Ordering) → is_ne o ≡ not (is_eq o)
unequal Less = refl
unequal Equal = refl
unequal Greater = refl

pub cell_differs : (v : Value) (n : ℕ) → n < 2 ^ 64 → IsOf kind.Integer v
    → is_true (binary (Compare Ne Binary) v (Int (pos n))) ≡ not (number_in v == n)
cell_differs v n low it =
    cell_test Ne v n it ∙ unequal (int_cmp it.0 (pos n)) ∙ ap not
    (same_natural it.0 n low ∙ ap (λ m. m == n) (sym (ap number_in it.1)))

pub cell_untaken : (v : Value) → IsOf kind.Integer v → is_true (binary (Compare Ne Binary) v (Int (pos 1))) ≡ not (number_in v == 1)
cell_untaken v it = cell_differs v 1 (omega arith) it

natural_rank : (a b : ℕ) → int_cmp (pos a) (pos b) ≡ nat_cmp (natural (pos a)) (natural (pos b))
natural_rank a b = elim (cases_Bool (nat_lt a (2 ^ 64))) [
  | inl e ↦ elim (cases_Bool (nat_lt b (2 ^ 64))) [
    | inl f ↦ nat_int a b ∙ sym (ap₂ (λ v w. nat_cmp (cond v a (2 * a)) (cond w b (2 * b))) e f)
    | inr f ↦ apart a b e f ∙ sym (ap₂ (λ v w. nat_cmp (cond v a (2 * a)) (cond w b (2 * b))) e f)
  ]
  | inr e ↦ elim (cases_Bool (nat_lt b (2 ^ 64))) [
    | inl f ↦ other a b e f ∙ sym (ap₂ (λ v w. nat_cmp (cond v a (2 * a)) (cond w b (2 * b))) e f)
    | inr f ↦ doubled a b ∙ sym (ap₂ (λ v w. nat_cmp (cond v a (2 * a)) (cond w b (2 * b))) e f)
  ]
]
  where
    apart : (a b : ℕ) → nat_lt a (2 ^ 64) ≡ true → nat_lt b (2 ^ 64) ≡ false → int_cmp (pos a) (pos b) ≡ nat_cmp a (2 * b)
    apart a b e f = grind (arith, ints, nat_tests)

    other : (a b : ℕ) → nat_lt a (2 ^ 64) ≡ false → nat_lt b (2 ^ 64) ≡ true → int_cmp (pos a) (pos b) ≡ nat_cmp (2 * a) b
    other a b e f = grind (arith, ints, nat_tests)

    doubled : (a b : ℕ) → int_cmp (pos a) (pos b) ≡ nat_cmp (2 * a) (2 * b)
    doubled a b = grind (arith, ints, nat_tests)

is_low_negative : (k : ℕ) → is_low (natural (negsuc k)) ≡ true
is_low_negative k = natural_low (negsuc k) ∙ last k
  where
    last : (k : ℕ) → is_lt (int_cmp (negsuc k) (pos 1)) ≡ true
    last k = grind (arith, ints, nat_tests)

-- a number above some other is no less than zero
pub counted : (bound : ℕ) (m : ℤ) → is_above bound (natural m) ≡ true → (k : ℕ) × (m ≡ pos k)
counted bound (pos k) h = (k, refl)
counted bound (negsuc k) h =
    let high = (and_parts (nat_lt bound (natural (negsuc k))) (not (is_low (natural (negsuc k)))) h).1 in
    absurd (let both : false ≡ true = sym (ap not (is_low_negative k)) ∙ high in cc)

pub rank_above : (bound : ℕ) (v w : Value) → IsOf kind.Integer v → IsOf kind.Integer w → is_above bound (number_in v) ≡ true
    → is_above bound (number_in w) ≡ true → value_cmp v w ≡ nat_cmp (number_in v) (number_in w)
rank_above bound v w a b h g =
    let first = counted bound a.0 (sym (ap (is_above bound) (ap number_in a.1)) ∙ h) in
    let second = counted bound b.0 (sym (ap (is_above bound) (ap number_in b.1)) ∙ g) in
    let left : v ≡ Int (pos first.0) = a.1 ∙ ap Int first.1 in
    let right : w ≡ Int (pos second.0) = b.1 ∙ ap Int second.1 in
    ap₂ value_cmp left right ∙ value_cmp-Int (pos first.0) (pos second.0) ∙ natural_rank first.0 second.0
    ∙ sym (ap₂ nat_cmp (ap number_in left) (ap number_in right))
