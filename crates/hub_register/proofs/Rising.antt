-- Handles rows whose GLNs rise and of whose prefixes no two overlap.
use Rattle.std.proofs.Common.{◌≡◌, suc, ◌+◌, List, [], ◌∷◌, length, get_or, map, arith, true, subst}
use Rattle.std.specs.List.{AllAdjacentBelow, AllByRecursion, flat_map}
use Rattle.std.specs.declared.cmp.Ordering.TheVariants.{Less}
use Rattle.std.proofs.lemmas.Cmp.{nat_list_cmp_total}
use Rattle.gs1_ids.specs.Overlap.{AreApart, NoneOverlap}
use Rattle.gs1_ids.proofs.Overlaps.{apart-parts, none_overlap-parts}
use Rattle.hub_parties.specs.KeyOrder.{bytes_cmp, Rises}
use Rattle.hub_parties.specs.declared.row.SupplierRow.{SupplierRow}
use Rattle.hub_register.specs.Kept.{are_in_order}
use Rattle.hub_register.proofs.Kept.{Below, in_order}
use Rattle.hub_register.proofs.Ordered.{Pairwise}
use Rattle.hub_register.proofs.Right.{HaveFreePrefixes}

below_all : (row next : SupplierRow) (rows : List SupplierRow)
    → Below row next
    → AllByRecursion (λ gln. bytes_cmp next.gln gln ≡ Less) (map (λ r. r.gln) rows)
    → AllByRecursion (λ gln. bytes_cmp row.gln gln ≡ Less) (map (λ r. r.gln) rows)
below_all row next [] here there = tt
below_all row next (r ∷ rows) here there =
    (nat_list_cmp_total.trans row.gln next.gln r.gln here there.0, below_all row next rows here there.1)

pub rises_by_neighbours : (rows : List SupplierRow) → AllAdjacentBelow Below rows (length rows) → Rises bytes_cmp (map (λ r. r.gln) rows)
rises_by_neighbours [] below = tt
rises_by_neighbours (row ∷ []) below = (tt, tt)
rises_by_neighbours (row ∷ next ∷ rows) below =
    let here : Below row next = below 0 row (omega arith) in
    let behind : AllAdjacentBelow Below (next ∷ rows) (length (next ∷ rows)) =
    λ k d within.
    let place : suc k + 1 ≡ suc (k + 1) = omega arith in
    subst (λ n. Below (get_or (next ∷ rows) k d) (get_or (row ∷ next ∷ rows) n d)) place (below (suc k) d (omega (arith, within))) in
    let rest = rises_by_neighbours (next ∷ rows) behind in
    ((here, below_all row next rows here rest.0), rest)

free_of_all : (row : SupplierRow) (rows : List SupplierRow)
    → AreApart row.prefixes (flat_map (λ (r : SupplierRow). r.prefixes) rows)
    → AllByRecursion (HaveFreePrefixes row) rows
free_of_all row [] apart = tt
free_of_all row (r ∷ rows) apart =
    let parts = apart-parts row.prefixes r.prefixes (flat_map (λ (r : SupplierRow). r.prefixes) rows) apart in
    (parts.0, free_of_all row rows parts.1)

free_by_all : (rows : List SupplierRow) → NoneOverlap (flat_map (λ (r : SupplierRow). r.prefixes) rows) → Pairwise HaveFreePrefixes rows
free_by_all [] none = tt
free_by_all (row ∷ rows) none =
    let parts = none_overlap-parts row.prefixes (flat_map (λ (r : SupplierRow). r.prefixes) rows) none in
    (free_of_all row rows parts.0, free_by_all rows parts.1)

pub in_order_without_overlap : (rows : List SupplierRow)
    → Rises bytes_cmp (map (λ r. r.gln) rows)
    → NoneOverlap (flat_map (λ (r : SupplierRow). r.prefixes) rows)
    → are_in_order rows ≡ true
in_order_without_overlap rows rises none = in_order rows rises (free_by_all rows none)
