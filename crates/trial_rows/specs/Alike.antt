-- Shows that what compares as equal is the same.
use Rattle.std.proofs.Common.{◌≡◌, ℕ, Bool, ◌&&◌, ◌==◌, List, sym}
use Rattle.std.specs.Cmp.{both_tied, unsigned_tied}
use Rattle.std.specs.Ordering.{nat_cmp, ordering_then, is_eq}
use Rattle.std.specs.declared.cmp.Ordering.{Ordering}
use Rattle.std.proofs.lemmas.Map.Text.{is_eq-slice_cmp}
use Rattle.hub_parties.specs.KeyOrder.{bytes_cmp}
use Rattle.hub_tables.specs.Rows.{same}

pub same_bytes : (xs ys : List ℕ) → is_eq (bytes_cmp xs ys) ≡ same xs ys
same_bytes xs ys = is_eq-slice_cmp xs ys

pub same_numbers : (x y : ℕ) → is_eq (nat_cmp x y) ≡ (x == y)
same_numbers x y = unsigned_tied x y

pub both : (a b : Ordering) {s t : Bool} → is_eq a ≡ s → is_eq b ≡ t → is_eq (ordering_then a b) ≡ (s && t)
both a b {s} {t} p q = sym (both_tied s t a b (sym p) (sym q))
