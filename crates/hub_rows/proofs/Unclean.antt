-- Shows when a row does not have the form of its kind.
use Rattle.std.proofs.Common.{◌==◌, ◌≤◌, ◌^◌, [], ◌∷◌, ◌≡◌, ℕ, ◌+◌, ◌-◌, ◌<◌, nat_lt, List, length, get_or, Bool, true, false, Option}
use Rattle.std.proofs.Common.{Some, None, if◌then◌else◌, nat_le, refl, arith}
use Rattle.std.proofs.Math.Bool.{and-false}
pub use Rattle.std.proofs.lemmas.Bool.{and_left as first_fails, and_right as later_fails}
use Rattle.std.proofs.lemmas.Bool.Decides.{nat_tests}
use Rattle.std.proofs.lemmas.List.Sums.{list_all-from_AllPass}
use Rattle.std.specs.List.{list_all, list_any}
use Rattle.hub_store.specs.Clean.{is_within, are_bytes, are_clean, clean_line, clean_pallet}
use Rattle.hub_store.specs.Clean.{clean_content, clean_receipt, clean_remembered, clean_mail}
use Rattle.hub_tables.specs.Tables.{Tables}

pub bytes_fit : (xs : List ℕ) → ((k d : ℕ) → k < length xs → get_or xs k d < 256) → are_bytes xs ≡ true
bytes_fit xs h = list_all-from_AllPass (λ byte. nat_lt byte 256) xs (λ k d within. less (get_or xs k d) (h k d within))
  where
    less : (n : ℕ) → n < 256 → nat_lt n 256 ≡ true
    less n low = grind (arith, nat_tests)

-- which value passes a test, and which does not
pub passed : {X : Type 0} (b : Bool) (x y : X) → Some x ≡ (if b then Some y else None) → b ≡ true
passed true x y h = refl
passed false x y h = absurd cc

pub failed : {X : Type 0} (b : Bool) (y : X) → ◌≡◌ {A = Option X} None (if b then Some y else None) → b ≡ false
failed true y h = absurd cc
failed false y h = refl

-- too many pieces of a line are open
pub too_open : (ordered open_qty refused cancelled : ℕ) → is_within 0 ordered open_qty ≡ false
    → nat_le (open_qty + refused + cancelled) ordered ≡ false
too_open ordered open_qty refused cancelled h = grind (arith, nat_tests)

pub too_refused : (ordered open_qty refused cancelled : ℕ) → is_within 0 (ordered - open_qty) refused ≡ false
    → nat_le (open_qty + refused + cancelled) ordered ≡ false
too_refused ordered open_qty refused cancelled h = grind (arith, nat_tests)

pub too_cancelled : (ordered open_qty refused cancelled : ℕ) → is_within 0 (ordered - open_qty - refused) cancelled ≡ false
    → nat_le (open_qty + refused + cancelled) ordered ≡ false
too_cancelled ordered open_qty refused cancelled h = grind (arith, nat_tests)

pub too_many : (most n : ℕ) → is_within 0 most n ≡ false → nat_le n most ≡ false
too_many most n h = grind (arith, nat_tests)

-- the open pieces of a line are no more than it orders
pub fits : (ordered open_qty refused cancelled : ℕ) → is_within 0 ordered open_qty ≡ true → is_within 0 (ordered - open_qty) refused ≡ true
    → is_within 0 (ordered - open_qty - refused) cancelled ≡ true → nat_le (open_qty + refused + cancelled) ordered ≡ true
fits ordered open_qty refused cancelled h g k = grind (arith, nat_tests)

pub no_more : (most n : ℕ) → is_within 0 most n ≡ true → nat_le n most ≡ true
no_more most n h = grind (arith, nat_tests)

-- a row of one table does not have the form of its kind
module _ (t : Tables) where
  pub lines_unclean : list_all clean_line t.lines ≡ false → are_clean t ≡ false
  lines_unclean h = simp (h, and-false)

  pub pallets_unclean : list_all clean_pallet t.pallets ≡ false → are_clean t ≡ false
  pallets_unclean h = simp (h, and-false)

  pub contents_unclean : list_all clean_content t.contents ≡ false → are_clean t ≡ false
  contents_unclean h = simp (h, and-false)

  pub receipts_unclean : list_all clean_receipt t.receipts ≡ false → are_clean t ≡ false
  receipts_unclean h = simp (h, and-false)

  pub remembered_unclean : list_all clean_remembered t.remembered ≡ false → are_clean t ≡ false
  remembered_unclean h = simp (h, and-false)

  pub mail_unclean : list_all clean_mail t.mail ≡ false → are_clean t ≡ false
  mail_unclean h = simp (h, and-false)

-- what is wrong with a line that does not have its form
pub ruleset unclean_line = (first_fails, later_fails, too_open, too_refused, too_cancelled)

-- a number that takes more than one byte is not the number of a case
pub no_case : {C : Type 0} (number : C → ℕ) (small : (case : C) → number case < 256) (n : ℕ) (cases : List C)
    → 2 ^ 64 ≤ n
    → list_any (λ case. n == number case) cases ≡ false
no_case number small n [] great = refl
no_case number small n (case ∷ cases) great =
    let other : (n == number case) ≡ false = grind (arith, nat_tests, small case, great) in
    rw other (no_case number small n cases great)
