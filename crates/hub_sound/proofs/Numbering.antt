-- Entries that are the first of their mailbox or have the one before them are numbered from 1, and only these are.
use Rattle.std.proofs.Common.{◌≡◌, ◌⊎◌, ℕ, ◌+◌, ◌-◌, ◌<◌, ◌≤◌, ◌==◌, true, false, cond, inl, inr, List, [], ◌∷◌}
use Rattle.std.proofs.Common.{find, is_some, Some, refl, sym, ◌∙◌, ap, arith}
use Rattle.std.specs.List.{AllByRecursion}
use Rattle.std.specs.Ordering.{nat_cmp, ordering_then}
use Rattle.std.specs.declared.cmp.Ordering.TheVariants.{Less, Equal}
use Rattle.std.proofs.lemmas.Bool.Decides.{nat_tests}
use Rattle.std.proofs.lemmas.Cmp.{tied_itself, nat_list_cmp_total}
use Rattle.hub_parties.specs.KeyOrder.{bytes_cmp, Rises}
use Rattle.hub_tables.specs.Rows.{mail_cmp}
use Rattle.hub_tables.specs.Sets.{Has}
use Rattle.hub_tables.specs.declared.rows.MailRow.{MailRow}
use Rattle.hub_tables.proofs.Lists.{all_weaker}
use Rattle.hub_tables.proofs.Members.{all_of, all_if}
use Rattle.hub_rules.specs.Sound.{Numbered}

-- the first, or the one before it is among these
abbrev pub HasNumberBefore : List MailRow → MailRow → Type 0
HasNumberBefore all entry =
    (entry.number ≡ 1) ⊎ ((before : MailRow) × Has all before × (before.number ≡ entry.number - 1))

below : (a b : ℕ) → nat_cmp a b ≡ Less → a < b
below a b h = grind (arith, nat_tests)

number_is : (a b : ℕ) → (a == b) ≡ true → a ≡ b
number_is a b h = grind (arith, nat_tests)

-- the next number, where all before are no greater and the others no less
next : (n number before : ℕ) → n < number → (before ≤ n) ⊎ (number ≤ before) → before ≡ number - 1 → number ≡ n + 1
next n number before more (inl low) is = omega arith
next n number before more (inr high) is = omega arith

numbered_from : (all : List MailRow) (n : ℕ) (ms : List MailRow)
    → AllByRecursion (λ e. (e.number ≤ n) ⊎ Has ms e) all
    → AllByRecursion (λ e. n < e.number) ms
    → Rises (λ a b. nat_cmp a.number b.number) ms
    → AllByRecursion (HasNumberBefore all) ms
    → Numbered n ms
numbered_from all n [] cover low rises goes = tt
numbered_from all n (m ∷ ms) cover low rises goes = (
  is,
  numbered_from all (n + 1) ms (all_weaker _ (λ e. (e.number ≤ n + 1) ⊎ Has ms e) step all cover)
      (all_weaker (λ e. nat_cmp m.number e.number ≡ Less) (λ e. n + 1 < e.number)
      (λ e less. let more = below m.number e.number less in omega (arith, is)) ms rises.0) rises.1 goes.1,
)
  where
    place : (e : MailRow) → Has all e → (e.number ≤ n) ⊎ (m.number ≤ e.number)
    place e there = elim (all_of (λ e. (e.number ≤ n) ⊎ Has (m ∷ ms) e) all cover e there) [
      | inl few ↦ inl few
      | inr one ↦ inr (elim one [
        | inl same ↦ let it : e.number ≡ m.number = ap (λ (x : MailRow). x.number) same in omega arith
        | inr later ↦ let more = below m.number e.number (all_of (λ e. nat_cmp m.number e.number ≡ Less) ms rises.0 e later) in
            omega arith
      ])
    ]

    is : m.number ≡ n + 1
    is = elim goes.0 [
      | inl first ↦ let more : n < m.number = low.0 in omega arith
      | inr it ↦ next n m.number (it.0).number low.0 (place it.0 it.1) it.2
    ]

    step : (e : MailRow) → (e.number ≤ n) ⊎ Has (m ∷ ms) e → (e.number ≤ n + 1) ⊎ Has ms e
    step e (inl few) = inl (omega arith)
    step e (inr (inl same)) = inl (let it : e.number ≡ m.number = ap (λ (x : MailRow). x.number) same in omega (arith, is))
    step e (inr (inr later)) = inr later

pub numbered_if : (ms : List MailRow)
    → AllByRecursion (λ e. 0 < e.number) ms
    → Rises (λ a b. nat_cmp a.number b.number) ms
    → AllByRecursion (HasNumberBefore ms) ms
    → Numbered 0 ms
numbered_if ms low rises goes =
    numbered_from ms 0 ms (all_if (λ e. (e.number ≤ 0) ⊎ Has ms e) ms (λ e there. inr there)) low rises goes

-- entries of one supplier rise by their numbers
same_tied : (a b : List ℕ) → a ≡ b → bytes_cmp a b ≡ Equal
same_tied a b e = ap (bytes_cmp a) (sym e) ∙ tied_itself nat_list_cmp_total a

pub by_numbers : (gln : List ℕ) (ms : List MailRow) → AllByRecursion (λ e. e.supplier ≡ gln) ms → Rises mail_cmp ms
    → Rises (λ a b. nat_cmp a.number b.number) ms
by_numbers gln [] own rises = tt
by_numbers gln (m ∷ ms) own rises = (each ms own.1 rises.0, by_numbers gln ms own.1 rises.1)
  where
    each : (es : List MailRow) → AllByRecursion (λ e. e.supplier ≡ gln) es → AllByRecursion (λ e. mail_cmp m e ≡ Less) es
        → AllByRecursion (λ e. nat_cmp m.number e.number ≡ Less) es
    each [] a b = tt
    each (e ∷ es) a b = (
      sym (ap (λ o. ordering_then o (nat_cmp m.number e.number)) (same_tied m.supplier e.supplier (own.0 ∙ sym a.0))) ∙ b.0,
      each es a.1 b.1,
    )

-- what is found has the number
pub found_number : (number : ℕ) (ms : List MailRow) → is_some (find (λ e. e.number == number) ms) ≡ true
    → (e : MailRow) × Has ms e × (e.number ≡ number)
found_number number [] h = cc
found_number number (m ∷ ms) h =
    elim (m.number == number) as (λ v. (m.number == number) ≡ v
    → is_some (cond v (Some m) (find (λ e. e.number == number) ms)) ≡ true
    → (e : MailRow) × Has (m ∷ ms) e × (e.number ≡ number)) [
      | true ↦ λ e _. (m, inl refl, number_is m.number number e)
      | false ↦ λ e later. let it = found_number number ms later in (it.0, inr it.1, it.2)
    ] refl h

found_more : (m : MailRow) (number : ℕ) (ms : List MailRow) → is_some (find (λ e. e.number == number) ms) ≡ true
    → is_some (find (λ e. e.number == number) (m ∷ ms)) ≡ true
found_more m number ms h =
    elim (m.number == number) as (λ v. is_some (cond v (Some m) (find (λ e. e.number == number) ms)) ≡ true)
    [ true ↦ refl | false ↦ h ]

found_first : (m : MailRow) (number : ℕ) (ms : List MailRow) → (m.number == number) ≡ true
    → is_some (find (λ e. e.number == number) (m ∷ ms)) ≡ true
found_first m number ms h = ap (λ v. is_some (cond v (Some m) (find (λ e. e.number == number) ms))) h

-- of numbered entries each but the first has the one before it
pub numbered_goes : (n : ℕ) (ms : List MailRow) → Numbered n ms → (e : MailRow) → Has ms e
    → (e.number ≡ n + 1) ⊎ (is_some (find (λ x. x.number == e.number - 1) ms) ≡ true)
numbered_goes n [] h e there = absurd there
numbered_goes n (m ∷ ms) h e there =
    elim there [
      | inl same ↦ inl (ap (λ (x : MailRow). x.number) same ∙ h.0)
      | inr later ↦ inr (elim (numbered_goes (n + 1) ms h.1 e later) [
        | inl second ↦ found_first m (e.number - 1) ms (step m.number e.number n h.0 second)
        | inr found ↦ found_more m (e.number - 1) ms found
      ])
    ]
  where
    step : (a b n : ℕ) → a ≡ n + 1 → b ≡ n + 1 + 1 → (a == b - 1) ≡ true
    step a b n p q = let is : a ≡ b - 1 = omega arith in grind (arith, nat_tests)
