-- Shows that the lines which a supplier sees of sound tables rise by order number and line number.
use Rattle.std.proofs.Common.{◌≡◌, ℕ, true, List, [], ◌∷◌, sym, ap, ap₂, ◌∙◌}
use Rattle.std.specs.List.{AllByRecursion}
use Rattle.std.specs.declared.cmp.Ordering.TheVariants.{Less, Equal}
use Rattle.std.specs.Ordering.{ordering_then}
use Rattle.std.proofs.lemmas.Cmp.{nat_list_cmp_total, tied_itself}
use Rattle.hub_parties.specs.declared.row.SupplierRow.{SupplierRow}
use Rattle.hub_parties.specs.KeyOrder.{bytes_cmp, Rises}
use Rattle.hub_tables.specs.Rows.{same, line_cmp}
use Rattle.hub_tables.specs.Tables.{Tables, view}
use Rattle.hub_tables.specs.declared.rows.LineRow.{LineRow}
use Rattle.hub_tables.proofs.Lists.{all_passes, same_is}
use Rattle.hub_order_lines.specs.Book.{place_cmp}
use Rattle.hub_law.specs.HubRules.Sound.{Sound}
use Rattle.hub_law.proofs.HubRules.Rising.{view_rises}

abbrev OfOne : List ℕ → List LineRow → Type 0
OfOne gln rows = AllByRecursion (λ (row : LineRow). same row.supplier gln ≡ true) rows

below : (gln : List ℕ) (row later : LineRow)
    → same row.supplier gln ≡ true
    → same later.supplier gln ≡ true
    → line_cmp row later ≡ Less
    → place_cmp row later ≡ Less
below gln row later one other less =
    let tied : bytes_cmp row.supplier later.supplier ≡ Equal =
    ap₂ bytes_cmp (same_is row.supplier gln one) (same_is later.supplier gln other) ∙ tied_itself nat_list_cmp_total gln in
    sym (ap (λ o. ordering_then o (place_cmp row later)) tied) ∙ less

all_below : (gln : List ℕ) (row : LineRow) (rows : List LineRow)
    → same row.supplier gln ≡ true
    → OfOne gln rows
    → AllByRecursion (λ later. line_cmp row later ≡ Less) rows
    → AllByRecursion (λ later. place_cmp row later ≡ Less) rows
all_below gln row [] one others less = tt
all_below gln row (later ∷ rows) one others less = (below gln row later one others.0 less.0, all_below gln row rows one others.1 less.1)

places_rise : (gln : List ℕ) (rows : List LineRow) → OfOne gln rows → Rises line_cmp rows → Rises place_cmp rows
places_rise gln [] all rise = tt
places_rise gln (row ∷ rows) all rise = (all_below gln row rows all.0 all.1 rise.0, places_rise gln rows all.1 rise.1)

pub seen_rise : (suppliers : List SupplierRow) (gln : List ℕ) (t : Tables) → Sound suppliers t → Rises place_cmp (view gln t).lines
seen_rise suppliers gln t sound =
    places_rise gln (view gln t).lines (all_passes (λ (row : LineRow). same row.supplier gln) t.lines)
    (view_rises gln t sound.rooted.ordered (sound.kept gln)).lines
