-- Compares a row that is added under a key with the stored rows.
use Rattle.std.proofs.Common.{◌≡◌, inl, inr, ℕ, ◌<◌, ◌^◌, ◌==◌, ℤ, pos, true, false, List, [], ◌∷◌, ◌++◌, map, sym, ap}
use Rattle.std.proofs.Common.{◌∙◌, true≢false, arith}
use Rattle.std.specs.List.{AllByRecursion, list_any}
use Rattle.std.specs.declared.cmp.Ordering.{Ordering}
use Rattle.std.specs.Ordering.{is_eq}
use Rattle.std.specs.Cmp.{IsTotalOrder}
use Rattle.std.specs.Str.{bytes_eq}
use Rattle.std.proofs.lemmas.Bool.{and_parts, or_parts}
use Rattle.std.proofs.lemmas.Bool.Decides.{nat_tests}
use Rattle.std.proofs.lemmas.List.{map-append}
use Rattle.sqlite_value.specs.declared.value.Value.{Value}
use Rattle.sqlite_value.specs.declared.value.Value.TheVariants.{Int, Blob}
use Rattle.sqlite_value.specs.declared.keys.Collation.TheVariants.{Binary}
use Rattle.sqlite_value.specs.declared.keys.Order as keys
use Rattle.sqlite_value.specs.Keys.{plain, first_key}
use Rattle.sqlite_value.specs.Order.{Row, column}
use Rattle.sqlite_schema.specs.Rules.{agree, equal}
use Rattle.sql_rows.proofs.Answers.{same_bytes, same_int}
use Rattle.sql_rows.proofs.Unique.{HasNewKey}
use Rattle.hub_parties.specs.KeyOrder.{put, Rises}
use Rattle.hub_tables.proofs.Back.{rises_put_back}
use Rattle.hub_tables.proofs.Lists.{decide, same_is}
use Rattle.hub_tables.proofs.Setting.{not_put}
use Rattle.hub_schema.specs.Cells.{bytes_in, natural, number_in}
use Rattle.hub_schema.specs.Rows.{in_key_order}
use Rattle.hub_schema.proofs.InKeyOrder.{listed_more, listed_any}

natural_plain : (n : ℕ) → n < 2 ^ 64 → natural (pos n) ≡ n
natural_plain n low = grind (arith, nat_tests, low)

-- a number that fits a u64 is stored as it is
pub number_shown : (n : ℕ) → n < 2 ^ 64 → number_in (Int (pos n)) ≡ n
number_shown n low = natural_plain n low

-- whether a stored cell has these bytes
pub bytes_equal : (v : Value) (bytes : List ℕ) → ((b : List ℕ) × (v ≡ Blob b))
    → equal Binary v (Blob bytes) ≡ bytes_eq (bytes_in v) bytes
bytes_equal v bytes (b, is) = same_bytes v b bytes is ∙ ap (λ (w : Value). bytes_eq (bytes_in w) bytes) (sym is)

-- whether a stored cell has this number
pub number_equal : (v : Value) (number : ℕ) → number < 2 ^ 64 → ((n : ℤ) × (v ≡ Int n))
    → equal Binary v (Int (pos number)) ≡ (number_in v == number)
number_equal v number low (n, is) =
    same_int natural natural_plain (λ n large. grind (arith, nat_tests, large)) (λ n. omega arith) v n number low is
    ∙ ap (λ (w : Value). number_in w == number) (sym is)

pub number_same : (a b : ℕ) → (a == b) ≡ true → a ≡ b
number_same a b e = grind (arith, nat_tests, e)

pub bytes_are : (v : Value) (bytes : List ℕ) → ((b : List ℕ) × (v ≡ Blob b)) → equal Binary v (Blob bytes) ≡ true
    → bytes_in v ≡ bytes
bytes_are v bytes is e = same_is (bytes_in v) bytes (sym (bytes_equal v bytes is) ∙ e)

pub number_is : (v : Value) (number : ℕ) → number < 2 ^ 64 → ((n : ℤ) × (v ≡ Int n))
    → equal Binary v (Int (pos number)) ≡ true → number_in v ≡ number
number_is v number low is e = let same = sym (number_equal v number low is) ∙ e in grind (arith, nat_tests, same)

-- rows that agree in a key have equal values in each of its columns
pub agreeing : (places : List ℕ) (r new : Row) → agree plain places r places new ≡ true
    → AllByRecursion (λ p. equal Binary (column r p) (column new p) ≡ true) places
unfolding first_key
agreeing [] r new e = tt
agreeing (p ∷ places) r new e =
    let parts = and_parts (equal Binary (column r p) (column new p)) (agree plain places r places new) e in
    (parts.0, agreeing places r new parts.1)

module _ {X : Type 0} {cmp : X → X → Ordering} (total : IsTotalOrder cmp) (f : Row → X) where
  -- a row that comes last is inserted at its place
  pub listed_last : (rows : List Row) (new : Row)
      → in_key_order cmp (map f (rows ++ new ∷ [])) ≡ put cmp (f new) (in_key_order cmp (map f rows))
  listed_last rows new = ap (in_key_order cmp) (map-append f rows (new ∷ [])) ∙ listed_more cmp (map f rows) (f new)

  module _ (row : X) (o : keys.Order) (places : List ℕ) (new : Row) (Typed : Row → Type 0)
      (tied : (r : Row) → Typed r → agree o places r places new ≡ true → is_eq (cmp (f r) row) ≡ true) where
    none_tied : (rows : List Row) → AllByRecursion Typed rows → list_any (λ x. is_eq (cmp x row)) (map f rows) ≡ false
        → HasNewKey o places new rows
    none_tied [] typed none = tt
    none_tied (r ∷ rows) typed none =
        let parts = or_parts (is_eq (cmp (f r) row)) (list_any (λ x. is_eq (cmp x row)) (map f rows)) none in (
          elim (decide (agree o places r places new)) [
            | inl e ↦ absurd (true≢false (sym (tied r typed.0 e)
                ∙ parts.0))
            | inr e ↦ e
          ],
          none_tied rows typed.1 parts.1,
        )

    -- if the keys still rise with the row, no stored row has its key
    pub is_new : (rows : List Row) → AllByRecursion Typed rows
        → Rises cmp (put cmp row (in_key_order cmp (map f rows))) → HasNewKey o places new rows
    is_new rows typed rises =
        let listed = in_key_order cmp (map f rows) in
        none_tied rows typed (elim (decide (list_any (λ x. is_eq (cmp x row)) listed)) [
          | inl e ↦ absurd (not_put total row listed (rises_put_back cmp row listed rises) e rises)
          | inr e ↦ sym (listed_any cmp (λ x. is_eq (cmp x row)) (map f rows)) ∙ e
        ])
