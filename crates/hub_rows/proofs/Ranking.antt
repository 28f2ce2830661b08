-- Shows that cells are in the same order as the values that they stand for.
use Rattle.std.proofs.Common.{◌≡◌, ℕ, ◌<◌, ◌^◌, ◌*◌, nat_lt, ℤ, pos, negsuc, cond, inl, inr, true, false, refl, sym, ap, ap₂, ◌∙◌, arith}
use Rattle.std.specs.declared.cmp.Ordering.{Ordering}
use Rattle.std.specs.declared.cmp.Ordering.TheVariants.{Less, Equal, Greater}
use Rattle.std.specs.Ordering.{nat_cmp, int_cmp, ordering_then}
use Rattle.std.proofs.lemmas.Bool.{cases_Bool}
use Rattle.std.proofs.lemmas.Bool.Decides.{nat_tests}
use Rattle.std.proofs.lemmas.Int.{ints}
use Rattle.sqlite_value.specs.declared.value.Value.{Value}
use Rattle.sqlite_value.specs.declared.value.Value.TheVariants.{Int}
use Rattle.sqlite_value.specs.Order.{value_cmp}
use Rattle.sqlite_value.proofs.OrderLemmas.{value_cmp-Blob, value_cmp-Int}
use Rattle.sqlite_schema.specs.declared.schema.Kind.TheVariants as kind
use Rattle.sql_rows.specs.Cells.{IsOf}
use Rattle.hub_parties.specs.KeyOrder.{bytes_cmp}
use Rattle.hub_store.specs.Clean.{is_within}
use Rattle.hub_schema.specs.Cells.{bytes_in, natural, number_in}

pub then_none : (o : Ordering) → ordering_then o Equal ≡ o
then_none Less = refl
then_none Equal = refl
then_none Greater = refl

pub rank_bytes : (v w : Value) → IsOf kind.Blob v → IsOf kind.Blob w → value_cmp v w ≡ bytes_cmp (bytes_in v) (bytes_in w)
rank_bytes v w a b = ap₂ value_cmp a.1 b.1 ∙ value_cmp-Blob a.0 b.0 ∙ sym (ap₂ bytes_cmp (ap bytes_in a.1) (ap bytes_in b.1))

-- a number that is not negative
pub is_counted : (n : ℤ) → natural n < 2 ^ 64 → n ≡ pos (natural n)
is_counted (pos k) low = elim (cases_Bool (nat_lt k (2 ^ 64))) [
  | inl e ↦ ap pos (sym (ap (λ b. cond b k (2 * k)) e))
  | inr e ↦ absurd (let doubled : natural (pos k) ≡ 2 * k = ap (λ b. cond b k (2 * k)) e in high k (natural (pos k)) e doubled low)
]
  where
    high : (k n : ℕ) → nat_lt k (2 ^ 64) ≡ false → n ≡ 2 * k → n < 2 ^ 64 → ⊥
    high k n e is low = grind (arith, nat_tests)
is_counted (negsuc k) low = absurd (omega (arith, low))

pub nat_int : (a b : ℕ) → int_cmp (pos a) (pos b) ≡ nat_cmp a b
nat_int a b = grind (arith, ints, nat_tests)

pub rank_numbers : (v w : Value) → IsOf kind.Integer v → IsOf kind.Integer w → number_in v < 2 ^ 64 → number_in w < 2 ^ 64
    → value_cmp v w ≡ nat_cmp (number_in v) (number_in w)
rank_numbers v w a b low also =
    let first : a.0 ≡ pos (number_in v) = is_counted a.0 (rw (sym (ap number_in a.1)) low) ∙ ap pos (sym (ap number_in a.1)) in
    let second : b.0 ≡ pos (number_in w) = is_counted b.0 (rw (sym (ap number_in b.1)) also) ∙ ap pos (sym (ap number_in b.1)) in
    ap₂ value_cmp (a.1 ∙ ap Int first) (b.1 ∙ ap Int second) ∙ value_cmp-Int (pos (number_in v)) (pos (number_in w))
    ∙ nat_int (number_in v) (number_in w)

-- a line number, or a place on a pallet, within its limits fits a u64
pub low_number : (n : ℕ) → is_within 1 999_999 n ≡ true → n < 2 ^ 64
low_number n e = grind (arith, nat_tests)
