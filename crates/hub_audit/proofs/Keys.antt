-- Keys of rows, cell by cell.
use Rattle.std.proofs.Common.{Result, Ok, Err, IfErr, ◌⊎◌, ◌≡◌, ℕ, zero, suc, ◌<◌, ◌≤◌, ◌^◌, nat_lt, false, List, [], ◌∷◌, length, get_or}
use Rattle.std.proofs.Common.{sym, ap, if◌then◌else◌, inl, inr, arith}
use Rattle.std.proofs.lemmas.Bool.Decides.{nat_tests}
use Rattle.hub_sound.specs.Finding.{bytes_cell, number_cell}
use Rattle.hub_sound.specs.declared.finding.KeyCell.TheVariants.{Number, Other}
use Rattle.hub_store.specs.declared.fault.StoreFault.{StoreFault}
use Rattle.hub_store.specs.declared.fault.StoreFault.TheVariants.{Memory, Unclean}
use Rattle.hub_tables.specs.Sets.{Has}

-- a number of more than 64 bits is none of a key
pub no_number : (n : ℕ) → 2 ^ 64 ≤ n → Other ≡ number_cell n
no_number n great =
    let high : nat_lt n (2 ^ 64) ≡ false = grind (arith, nat_tests) in
    sym (ap (λ b. if b then Number n else Other) high)

-- what no bytes are is no text of a key
pub no_text : (bytes : List ℕ) → bytes ≡ 256 ∷ [] → Other ≡ bytes_cell bytes
no_text bytes is = sym (ap bytes_cell is)

-- a member of a list
pub at_has : {X : Type 0} (xs : List X) (i : ℕ) (x : X) → i < length xs → x ≡ get_or xs i x → Has xs x
at_has [] i x h e = absurd (omega (arith, h))
at_has (y ∷ ys) zero x h e = inl e
at_has (y ∷ ys) (suc i) x h e = inr (at_has ys i x (omega (arith, h)) e)

-- a call that fails for want of memory alone
module _ {X : Type 0} where
  pub never_unclean : (r : Result X StoreFault) → IfErr r (λ fault. fault ≡ Memory) → r ≡ Err Unclean → ⊥
  never_unclean (Ok x) memory is = cc
  never_unclean (Err fault) memory is = cc

  pub only_memory : (r : Result X StoreFault) → IfErr r (λ fault. fault ≡ Memory)
      → IfErr r (λ fault. (fault ≡ Memory) ⊎ (fault ≡ Unclean))
  only_memory (Ok x) memory = tt
  only_memory (Err fault) memory = inl memory
