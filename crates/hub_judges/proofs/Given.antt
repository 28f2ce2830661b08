-- Shows that the lines which a supplier sees of sound tables meet what judges require.
use Rattle.std.proofs.Common.{◌≡◌, ℕ, ◌+◌, Bool, true, ◌&&◌, List, [], ◌∷◌, filter, Some, None, refl, sym, ◌∙◌, ap, ap₂, arith}
use Rattle.std.specs.List.{AllByRecursion, list_all}
use Rattle.std.specs.declared.cmp.Ordering.{Ordering}
use Rattle.std.specs.declared.cmp.Ordering.TheVariants.{Less, Equal}
use Rattle.std.specs.Ordering.{nat_cmp, ordering_then, is_lt}
use Rattle.std.proofs.lemmas.Bool.{le-leb}
use Rattle.std.proofs.lemmas.Cmp.{tied_itself, nat_list_cmp_total}
use Rattle.hub_parties.specs.declared.row.SupplierRow.{SupplierRow}
use Rattle.hub_parties.specs.KeyOrder.{bytes_cmp, Rises}
use Rattle.hub_tables.specs.Rows.{line_cmp}
use Rattle.hub_tables.specs.Tables.{Tables, view}
use Rattle.hub_tables.specs.declared.rows.LineRow.{LineRow}
use Rattle.hub_tables.proofs.KeyOrder.{rises_filter}
use Rattle.hub_tables.proofs.Lists.{all_filter}
use Rattle.hub_order_lines.specs.Book.{facts_cmp, IsCovered}
use Rattle.hub_order_lines.specs.KnownLines.{is_covered, steps_up}
use Rattle.hub_rules.specs.Sound.{Balanced, Sound}
use Rattle.hub_rules.proofs.OwnChanges.{good_view}
use Rattle.hub_rules.proofs.Rising.{view_rises}
use Rattle.hub_judges.specs.Facts.{fact_in, facts_in}

module _ (state : Tables) where
  -- comparing lines of one supplier by their numbers
  below : (a b : LineRow) → a.supplier ≡ b.supplier → line_cmp a b ≡ Less → facts_cmp (fact_in state a) (fact_in state b) ≡ Less
  below a b same h =
      let rest : Ordering = ordering_then (bytes_cmp a.number b.number) (nat_cmp a.line b.line) in
      let tied : bytes_cmp a.supplier b.supplier ≡ Equal =
      ap (bytes_cmp a.supplier) (sym same) ∙ tied_itself nat_list_cmp_total a.supplier in
      sym (ap (λ o. ordering_then o rest) tied) ∙ h

  all_below : (gln : List ℕ) (row : LineRow) (rows : List LineRow)
      → row.supplier ≡ gln
      → AllByRecursion (λ row. row.supplier ≡ gln) rows
      → AllByRecursion (λ later. line_cmp row later ≡ Less) rows
      → AllByRecursion (λ later. facts_cmp (fact_in state row) later ≡ Less) (facts_in state rows)
  all_below gln row [] own owns less = tt
  all_below gln row (later ∷ rows) own owns less = (below row later (own ∙ sym owns.0) less.0, all_below gln row rows own owns.1 less.1)

  facts_rise : (gln : List ℕ) (rows : List LineRow)
      → AllByRecursion (λ row. row.supplier ≡ gln) rows
      → Rises line_cmp rows
      → Rises facts_cmp (facts_in state rows)
  facts_rise gln [] owns rises = tt
  facts_rise gln (row ∷ rows) owns rises = (all_below gln row rows owns.0 owns.1 rises.0, facts_rise gln rows owns.1 rises.1)

  -- their rows are accepted
  step_up_after : (row : LineRow) (rows : List LineRow)
      → Rises facts_cmp (facts_in state (row ∷ rows))
      → steps_up (Some row) rows ≡ true
  step_up_after row [] rises = refl
  step_up_after row (later ∷ rows) rises = ap₂ (λ o v. is_lt o && v) rises.0.0 (step_up_after later rows rises.1)

  step_up : (rows : List LineRow) → Rises facts_cmp (facts_in state rows) → steps_up None rows ≡ true
  step_up [] rises = refl
  step_up (row ∷ rows) rises = step_up_after row rows rises

  rows_covered : (rows : List LineRow) → AllByRecursion IsCovered (facts_in state rows) → list_all is_covered rows ≡ true
  rows_covered [] all = refl
  rows_covered (row ∷ rows) all =
      ap₂ (λ a b. a && b) (le-leb (row.open_qty + row.refused + row.cancelled) row.ordered all.0) (rows_covered rows all.1)

  facts_covered : (rows : List LineRow) → AllByRecursion (Balanced state) rows → AllByRecursion IsCovered (facts_in state rows)
  facts_covered [] all = tt
  facts_covered (row ∷ rows) all = (omega (arith, all.0), facts_covered rows all.1)

module _ (suppliers : List SupplierRow) (gln : List ℕ) (t : Tables) (test : LineRow → Bool) (sound : Sound suppliers t) where
  pub seen_rise : Rises facts_cmp (facts_in (view gln t) (filter test (view gln t).lines))
  seen_rise =
      let whose : SupplierRow = record { gln = gln; prefixes = []; key = [] } in
      let good = good_view suppliers whose t sound in
      facts_rise (view gln t) gln (filter test (view gln t).lines)
      (all_filter (λ row. row.supplier ≡ gln) test (view gln t).lines good.own.lines)
      (rises_filter line_cmp test (view gln t).lines (view_rises gln t (sound.rooted).ordered (sound.kept gln)).lines)

  pub seen_covered : AllByRecursion IsCovered (facts_in (view gln t) (filter test (view gln t).lines))
  seen_covered =
      facts_covered (view gln t) (filter test (view gln t).lines)
      (all_filter (Balanced (view gln t)) test (view gln t).lines (sound.kept gln).balanced)

  pub seen_step_up : steps_up None (filter test (view gln t).lines) ≡ true
  seen_step_up = step_up (view gln t) (filter test (view gln t).lines) seen_rise

  pub seen_rows_covered : list_all is_covered (filter test (view gln t).lines) ≡ true
  seen_rows_covered = rows_covered (view gln t) (filter test (view gln t).lines) seen_covered
