-- Shows what inserting a row into the map from GLNs to rows does, and what is found in it.
use Rattle.std.proofs.Common.{◌≡◌, ℕ, if◌then◌else◌, List, [], ◌∷◌, map, find, get_or, drop, Some, Ordering, refl, sym, ap, ap₂, ◌∙◌}
use Rattle.std.specs.BTreeMap.{insert_entry, is_at}
use Rattle.std.specs.Cmp.Lexicographic.{slice_cmp}
use Rattle.std.specs.Map.{keys_of, values_of, lookup}
use Rattle.std.specs.Ordering.{nat_cmp, match_ordering}
use Rattle.std.specs.declared.cmp.Ordering.TheVariants.{Less, Equal, Greater}
use Rattle.std.proofs.lemmas.Map.Lookups.{exact_bytes}
use Rattle.std.specs.Str.{bytes_eq}
use Rattle.std.proofs.lemmas.Map.Text.{is_eq-slice_cmp}
use Rattle.edi_base.proofs.Twice.{bytes_eq-sym}
use Rattle.hub_parties.specs.declared.row.SupplierRow.{SupplierRow}
use Rattle.hub_register.specs.InOrder.{put}

abbrev pub by_gln : List ℕ → List ℕ → Ordering
by_gln = slice_cmp nat_cmp

-- each row is stored under its GLN
abbrev pub AtGln : List (List ℕ × SupplierRow) → Type 0
AtGln entries = keys_of entries ≡ map (λ row. row.gln) (values_of entries)

abbrev head : List (List ℕ) → List ℕ
head keys = get_or keys 0 []

values_at : (o : Ordering) (a b c : List (List ℕ × SupplierRow))
    → values_of (match_ordering o a b c) ≡ match_ordering o (values_of a) (values_of b) (values_of c)
values_at Less a b c = refl
values_at Equal a b c = refl
values_at Greater a b c = refl

-- the rows of the map are those from before, with the new one at its place
pub put-insert : (entries : List (List ℕ × SupplierRow)) (row : SupplierRow)
    → AtGln entries
    → values_of (insert_entry by_gln entries row.gln row) ≡ put row (values_of entries)
put-insert [] row at = refl
put-insert (e ∷ es) row at =
    values_at (by_gln row.gln e.0) ((row.gln, row) ∷ e ∷ es) ((e.0, row) ∷ es) (e ∷ insert_entry by_gln es row.gln row)
    ∙ ap₂ (λ o rest. match_ordering o (row ∷ e.1 ∷ values_of es) (row ∷ values_of es) (e.1 ∷ rest))
    (ap (by_gln row.gln) (ap head at)) (put-insert es row (ap (drop 1) at))

at-case : (o : Ordering) (e : List ℕ × SupplierRow) (es : List (List ℕ × SupplierRow)) (row : SupplierRow)
    (more : List (List ℕ × SupplierRow))
    → (o ≡ Equal → row.gln ≡ e.0)
    → AtGln (e ∷ es)
    → AtGln more
    → AtGln (match_ordering o ((row.gln, row) ∷ e ∷ es) ((e.0, row) ∷ es) (e ∷ more))
at-case Less e es row more same at rest = ap (λ keys. row.gln ∷ keys) at
at-case Equal e es row more same at rest = ap₂ (λ key keys. key ∷ keys) (sym (same refl)) (ap (drop 1) at)
at-case Greater e es row more same at rest = ap₂ (λ key keys. key ∷ keys) (ap head at) rest

pub at-insert : (entries : List (List ℕ × SupplierRow)) (row : SupplierRow)
    → AtGln entries
    → AtGln (insert_entry by_gln entries row.gln row)
at-insert [] row at = refl
at-insert (e ∷ es) row at = at-case (by_gln row.gln e.0) e es row _ (exact_bytes row.gln e.0) at (at-insert es row (ap (drop 1) at))

-- the map finds the row with this GLN
pub lookup-find : (gln : List ℕ) (entries : List (List ℕ × SupplierRow))
    → AtGln entries
    → lookup (is_at (by_gln gln)) entries ≡ find (λ row. bytes_eq row.gln gln) (values_of entries)
lookup-find gln [] at = refl
lookup-find gln (e ∷ es) at =
    ap₂ (λ here rest. if here then Some e.1 else rest)
    (is_eq-slice_cmp gln e.0 ∙ ap (bytes_eq gln) (ap head at) ∙ bytes_eq-sym gln (e.1).gln)
    (lookup-find gln es (ap (drop 1) at))
