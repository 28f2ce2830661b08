-- Shows to which supplier an SSCC belongs.
use Rattle.std.proofs.Common.{◌≡◌, ◌≢◌, ℕ, suc, ◌<◌, true, false, cond, ◌&&◌, ◌||◌, inl, inr, List, [], ◌∷◌}
use Rattle.std.proofs.Common.{length, get_or, filter, Some, refl, sym, ◌∙◌, ap, arith}
use Rattle.std.specs.Bool.{⊤}
use Rattle.std.specs.List.{AllByRecursion, list_any}
use Rattle.std.proofs.lemmas.Bool.{and_parts}
use Rattle.std.proofs.lemmas.List.{get_or_default, get_or-map, length-map}
use Rattle.gs1_ids.specs.Sscc.{under_some}
use Rattle.gs1_ids.specs.Overlap.{PrefixFree}
use Rattle.gs1_ids.proofs.Overlaps.{one_supplier}
use Rattle.hub_parties.specs.Rows.{company_prefixes, supplier_row}
use Rattle.hub_parties.specs.declared.row.SupplierRow.{SupplierRow}
use Rattle.hub_tables.specs.Rows.{same}
use Rattle.hub_tables.specs.Tables.{Tables, holds}
use Rattle.hub_tables.specs.declared.rows.PalletRow.{PalletRow}
use Rattle.hub_tables.proofs.Lists.{decide, same_is, same_if, differ, all_weaker, all_always, all_found}
use Rattle.hub_rules.specs.Sound.{IsRooted}

pub gln_found : (suppliers : List SupplierRow) (gln : List ℕ) (s : SupplierRow) → supplier_row suppliers gln ≡ Some s → s.gln ≡ gln
gln_found suppliers gln s known =
    same_is s.gln gln (all_found (λ _. ⊤) (λ supplier. same supplier.gln gln) suppliers s (all_always (λ _. ⊤) (λ _. tt) suppliers)
    known).1

-- a supplier that is found has a position in the list
place_of : (suppliers : List SupplierRow) (gln : List ℕ) (s : SupplierRow)
    → supplier_row suppliers gln ≡ Some s
    → (i : ℕ) × (i < length suppliers) × (get_or suppliers i s ≡ s)
place_of [] gln s h = cc
place_of (first ∷ suppliers) gln s h =
    elim (same first.gln gln) as (λ v. cond v (Some first) (supplier_row suppliers gln) ≡ Some s
    → (i : ℕ) × (i < suc (length suppliers)) × (get_or (first ∷ suppliers) i s ≡ s)) [
      | true ↦ λ e. (0, omega arith, cc)
      | false ↦ λ e. let later = place_of suppliers gln s e in (suc later.0, omega (arith, later.1), later.2)
    ] h

-- an SSCC under prefixes of two suppliers shows that they are the same
one_supplier_of : (suppliers : List SupplierRow)
    → PrefixFree (company_prefixes suppliers)
    → (one other sscc : List ℕ) (a b : SupplierRow)
    → supplier_row suppliers one ≡ Some a
    → supplier_row suppliers other ≡ Some b
    → under_some sscc a.prefixes ≡ true → under_some sscc b.prefixes ≡ true → one ≡ other
one_supplier_of suppliers free one other sscc a b first second of_first of_second =
    let i = place_of suppliers one a first in
    let j = place_of suppliers other b second in
    let within : (k : ℕ) → k < length suppliers → k < length (company_prefixes suppliers) =
    λ k h. omega (arith, h, length-map suppliers (λ (supplier : SupplierRow). supplier.prefixes)) in
    let at : (k : ℕ) (s : SupplierRow)
    → k < length suppliers
    → get_or suppliers k s ≡ s
    → get_or (company_prefixes suppliers) k [] ≡ s.prefixes =
    λ k s inside is. get_or-map (λ (supplier : SupplierRow). supplier.prefixes) suppliers k s [] inside
    ∙ ap (λ (r : SupplierRow). r.prefixes) is in
    let same_place : i.0 ≡ j.0 =
    one_supplier (company_prefixes suppliers) sscc i.0 j.0 free (within i.0 i.1)
    (ap (under_some sscc) (at i.0 a i.1 i.2) ∙ of_first) (within j.0 j.1)
    (ap (under_some sscc) (at j.0 b j.1 j.2) ∙ of_second) in
    let same_row : a ≡ b = sym i.2 ∙ get_or_default suppliers i.0 a b i.1 ∙ ap (λ k. get_or suppliers k b) same_place ∙ j.2 in
    sym (gln_found suppliers one a first) ∙ ap (λ (r : SupplierRow). r.gln) same_row ∙ gln_found suppliers other b second

module _ (suppliers : List SupplierRow) (free : PrefixFree (company_prefixes suppliers)) (gln : List ℕ) (s : SupplierRow)
    (known : supplier_row suppliers gln ≡ Some s) where
  -- a pallet whose SSCC is under the supplier's prefixes belongs to the supplier
  pub owner : (q : PalletRow) → IsRooted suppliers q → under_some q.sscc s.prefixes ≡ true → q.supplier ≡ gln
  owner q rooted below = one_supplier_of suppliers free q.supplier gln q.sscc rooted.supplier s rooted.known known rooted.is_under below

  pub ours : (t : Tables) (x : List ℕ)
      → AllByRecursion (IsRooted suppliers) t.pallets
      → under_some x s.prefixes ≡ true
      → AllByRecursion (λ q. same q.sscc x ≡ true → q.supplier ≡ gln) t.pallets
  ours t x all below =
      all_weaker (IsRooted suppliers) (λ q. same q.sscc x ≡ true → q.supplier ≡ gln)
      (λ q rooted e. owner q rooted (ap (λ v. under_some v s.prefixes) (same_is q.sscc x e) ∙ below)) t.pallets all

  -- the SSCCs of a supplier's pallets are under its prefixes
  pub under_held : (ps : List PalletRow) (x : List ℕ)
      → AllByRecursion (IsRooted suppliers) ps
      → holds gln ps x ≡ true
      → under_some x s.prefixes ≡ true
  under_held [] x all h = cc
  under_held (p ∷ ps) x all h =
      elim (decide (same p.supplier gln && same p.sscc x)) [
        | inl e ↦
            let parts = and_parts (same p.supplier gln) (same p.sscc x) e in
            let who : p.supplier ≡ gln = same_is p.supplier gln parts.0 in
            let what : p.sscc ≡ x = same_is p.sscc x parts.1 in
            let there : supplier_row suppliers gln ≡ Some (all.0).supplier = ap (supplier_row suppliers) (sym who) ∙ (all.0).known in
            let one : (all.0).supplier ≡ s = cc in
            ap (λ (r : SupplierRow). under_some x r.prefixes) (sym one)
            ∙ ap (λ v. under_some v (all.0).supplier.prefixes) (sym what)
            ∙ (all.0).is_under
        | inr e ↦ under_held ps x all.1 (ap (λ v. v || holds gln ps x) (sym e) ∙ h)
      ]

-- a supplier sees exactly the pallets that it has
pub holds_seen : (s : List ℕ) (ps : List PalletRow) (x : List ℕ)
    → list_any (λ p. same p.sscc x) (filter (λ p. same p.supplier s) ps) ≡ holds s ps x
holds_seen s [] x = refl
holds_seen s (p ∷ ps) x =
    elim (same p.supplier s) as (λ v.
    list_any (λ p. same p.sscc x) (cond v (p ∷ filter (λ p. same p.supplier s) ps) (filter (λ p. same p.supplier s) ps))
    ≡ ((v && same p.sscc x) || holds s ps x)) [
      | true ↦ ap (λ v. same p.sscc x || v) (holds_seen s ps x)
      | false ↦ holds_seen s ps x
    ]

pub holds_all : (s : List ℕ) (ps : List PalletRow) (x : List ℕ)
    → AllByRecursion (λ q. same q.sscc x ≡ true → q.supplier ≡ s) ps
    → list_any (λ p. same p.sscc x) ps ≡ holds s ps x
holds_all s [] x all = refl
holds_all s (p ∷ ps) x all =
    let ih = holds_all s ps x all.1 in
    elim (decide (same p.sscc x)) [
      | inl e ↦ let mine = same_if p.supplier s (all.0 e) in grind (arith, e, mine, ih)
      | inr e ↦ elim (decide (same p.supplier s)) [ inl m ↦ grind (arith, e, m, ih) | inr m ↦ grind (arith, e, m, ih) ]
    ]

pub holds_none : (s other : List ℕ) (ps : List PalletRow) (x : List ℕ)
    → other ≢ s
    → AllByRecursion (λ q. same q.sscc x ≡ true → q.supplier ≡ s) ps
    → holds other ps x ≡ false
holds_none s other [] x ne all = refl
holds_none s other (p ∷ ps) x ne all =
    let ih = holds_none s other ps x ne all.1 in
    elim (decide (same p.sscc x)) [
      | inl e ↦ let not_other = differ p.supplier other (λ h. ne (sym h ∙ all.0 e)) in grind (arith, e, not_other, ih)
      | inr e ↦ elim (decide (same p.supplier other)) [ inl m ↦ grind (arith, e, m, ih) | inr m ↦ grind (arith, e, m, ih) ]
    ]
