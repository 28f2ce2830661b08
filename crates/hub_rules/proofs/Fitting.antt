-- Shows that what the rules accept fits the tables of all suppliers: keys rise strictly after it, and before rows are
-- deleted.
use Rattle.std.proofs.Common.{◌≡◌, ◌≢◌, ℕ, inl, inr, List, [], ◌∷◌, Some, sym, subst}
use Rattle.gs1_ids.specs.Overlap.{PrefixFree}
use Rattle.hub_parties.specs.KeyOrder.{Rises}
use Rattle.hub_parties.specs.Rows.{company_prefixes, supplier_row}
use Rattle.hub_parties.specs.declared.row.SupplierRow.{SupplierRow}
use Rattle.hub_tables.specs.Change.{apply, apply_all}
use Rattle.hub_tables.specs.Rows.{same, hub_cmp, key_cmp, prefix_cmp}
use Rattle.hub_tables.specs.Sets.{Rising, RisesAt, Fit}
use Rattle.hub_tables.specs.Tables.{Tables, view}
use Rattle.hub_tables.specs.declared.change.Change.{Change}
use Rattle.hub_tables.specs.declared.change.Change.TheVariants.{ClearReceipts}
use Rattle.hub_tables.proofs.Lists.{decide, same_is, same_if}
use Rattle.hub_rules.specs.Laws.{KeptOwn, PartiesRise, PartiesStay, Registered}
use Rattle.hub_rules.specs.Sound.{Kept, Rooted}
use Rattle.hub_rules.proofs.Belonging.{Belongs, BelongAll}
use Rattle.hub_rules.proofs.Changes.{seen, unseen, rooted_after, parties_stay}
use Rattle.hub_rules.proofs.Rising.{all_rise, rising_from}
use Rattle.hub_rules.proofs.Verdicts.{Leaves}

pub parties_still_rise : (t after : Tables) → PartiesStay t after → PartiesRise t → PartiesRise after
parties_still_rise t after stay rise = record {
  hubs = subst (Rises hub_cmp) (sym stay.hubs) rise.hubs;
  keys = subst (Rises key_cmp) (sym stay.keys) rise.keys;
  prefixes = subst (Rises prefix_cmp) (sym stay.prefixes) rise.prefixes;
}

module _ (suppliers : List SupplierRow) (free : PrefixFree (company_prefixes suppliers)) (s : SupplierRow)
    (known : supplier_row suppliers s.gln ≡ Some s) where
  -- what each other supplier sees is sound
  abbrev Others : Tables → Type 0
  Others t = (other : List ℕ) → other ≢ s.gln → Kept (view other t)

  rises_now : (t : Tables) → Rooted suppliers t → PartiesRise t → Others t → Kept (view s.gln t) → Rising t
  rises_now t rooted parties others kept =
      rising_from t parties (all_rise suppliers t free rooted (λ gln. elim (decide (same gln s.gln)) [
        | inl e ↦ subst (λ who. Kept (view who t)) (sym (same_is gln s.gln e)) kept
        | inr e ↦ others gln (λ h. let yes = same_if gln s.gln h in (cc))
      ]))

  rises_before : (t : Tables) (change : Change)
      → Rooted suppliers t
      → PartiesRise t
      → Others t
      → Belongs s (view s.gln t) change
      → RisesAt change t
  rises_before t (ClearReceipts sscc) rooted parties others belongs = rises_now t rooted parties others belongs.1
  rises_before t _ rooted parties others belongs = tt

  fit_own : (changes : List Change) (t : Tables)
      → Rooted suppliers t
      → PartiesRise t
      → Others t
      → BelongAll s (view s.gln t) changes
      → Kept (apply_all changes (view s.gln t))
      → Fit changes t
  fit_own [] t rooted parties others belong kept = rises_now t rooted parties others kept
  fit_own (change ∷ changes) t rooted parties others belong kept =
      let one = seen suppliers free s known t rooted change belong.0 in (
        rises_before t change rooted parties others belong.0,
        fit_own changes (apply change t) (rooted_after suppliers free s known t rooted change belong.0)
            (parties_still_rise t (apply change t) (parties_stay s (view s.gln t) t change belong.0) parties)
            (λ other ne. subst Kept (sym (unseen suppliers free s known t rooted change belong.0 other ne)) (others other ne))
            (subst (λ rows. BelongAll s rows changes) (sym one) belong.1)
            (subst (λ rows. Kept (apply_all changes rows)) (sym one) kept),
      )

pub fit_from : (suppliers : List SupplierRow) (s : SupplierRow) (t : Tables) (changes : List Change)
    → Registered suppliers s t
    → PartiesRise t
    → Leaves s (KeptOwn s) (view s.gln t) changes
    → Fit changes t
fit_from suppliers s t changes here parties left =
    fit_own suppliers here.free s here.known changes t (here.sound).rooted parties (λ other ne. (here.sound).kept other)
    left.belong (left.after).kept
