-- Shows what removing a row from the map from GLNs to rows does, and whether a row is found.
use Rattle.std.proofs.Common.{◌≡◌, ℕ, Bool, true, false, cond, ◌||◌, List, [], ◌∷◌, map}
use Rattle.std.proofs.Common.{find, get_or, drop, Option, Some, refl, ap, ap₂, ◌∙◌}
use Rattle.std.specs.Prelude.{is_some}
use Rattle.std.specs.List.{list_any}
use Rattle.edi_base.proofs.Twice.{bytes_eq-sym}
use Rattle.std.specs.Map.{values_of, remove_entry}
use Rattle.std.specs.BTreeMap.{is_at}
use Rattle.std.specs.Str.{bytes_eq}
use Rattle.std.proofs.lemmas.Map.Text.{is_eq-slice_cmp}
use Rattle.hub_parties.specs.declared.row.SupplierRow.{SupplierRow}
use Rattle.hub_register.specs.Joined.{without}
use Rattle.hub_register.proofs.Inserted.{AtGln, by_gln}

abbrev head : List (List ℕ) → List ℕ
head keys = get_or keys 0 []

-- the row that is removed from the map is that of the GLN
pub without-remove : (gln : List ℕ) (entries : List (List ℕ × SupplierRow))
    → AtGln entries
    → values_of (remove_entry (is_at (by_gln gln)) entries) ≡ without gln (values_of entries)
without-remove gln [] at = refl
without-remove gln (e ∷ es) at =
    values_at (is_at (by_gln gln) e.0) es (e ∷ remove_entry (is_at (by_gln gln)) es)
    ∙ ap₂ (λ here rest. cond here (values_of es) (e.1 ∷ rest))
    (is_eq-slice_cmp gln e.0 ∙ ap (bytes_eq gln) (ap head at)) (without-remove gln es (ap (drop 1) at))
  where
    values_at : (b : Bool) (xs ys : List (List ℕ × SupplierRow)) → values_of (cond b xs ys) ≡ cond b (values_of xs) (values_of ys)
    values_at true xs ys = refl
    values_at false xs ys = refl

-- each row is still stored under its GLN
pub at-remove : (gln : List ℕ) (entries : List (List ℕ × SupplierRow))
    → AtGln entries
    → AtGln (remove_entry (is_at (by_gln gln)) entries)
at-remove gln [] at = refl
at-remove gln (e ∷ es) at = elim (is_at (by_gln gln) e.0) as (λ b. AtGln (cond b es (e ∷ remove_entry (is_at (by_gln gln)) es))) [
  | true ↦ ap (drop 1) at
  | false ↦ ap₂ (λ key keys. key ∷ keys) (ap head at) (at-remove gln es (ap (drop 1) at))
]

-- a row is found exactly if one has the GLN
pub found_is_any : (gln : List ℕ) (rows : List SupplierRow)
    → is_some (find (λ row. bytes_eq row.gln gln) rows) ≡ list_any (bytes_eq gln) (map (λ row. row.gln) rows)
found_is_any gln [] = refl
found_is_any gln (row ∷ rows) =
    some_at (bytes_eq row.gln gln) (find (λ row. bytes_eq row.gln gln) rows)
    ∙ ap₂ (λ here rest. here || rest) (bytes_eq-sym row.gln gln) (found_is_any gln rows)
  where
    some_at : (b : Bool) (rest : Option SupplierRow) → is_some (cond b (Some row) rest) ≡ (b || is_some rest)
    some_at true rest = refl
    some_at false rest = refl
