-- Shows what changes that keep a supplier's rows sound do in the tables of all suppliers.
use Rattle.std.proofs.Common.{◌≡◌, inl, inr, List, Some, sym, subst}
use Rattle.gs1_ids.specs.Overlap.{PrefixFree}
use Rattle.hub_parties.specs.Rows.{company_prefixes, supplier_row}
use Rattle.hub_parties.specs.declared.row.SupplierRow.{SupplierRow}
use Rattle.hub_tables.specs.Change.{apply_all}
use Rattle.hub_tables.specs.Rows.{same}
use Rattle.hub_tables.specs.Tables.{Tables, view}
use Rattle.hub_tables.specs.declared.change.Change.{Change}
use Rattle.hub_tables.proofs.Lists.{decide, same_is, same_if}
use Rattle.hub_rules.specs.Laws.{KeptOwn, KeepsApart}
use Rattle.hub_rules.specs.Sound.{Kept, Sound}
use Rattle.hub_rules.proofs.Belonging.{KeepsSupplier}
use Rattle.hub_rules.proofs.Changes.{follows}
use Rattle.hub_rules.proofs.GoodRows.{keeps_from}
use Rattle.hub_rules.proofs.Verdicts.{Leaves}
use Rattle.hub_rules.proofs.Views.{view_own}

-- what a supplier sees of sound tables is its own and sound
pub good_view : (suppliers : List SupplierRow) (s : SupplierRow) (t : Tables) → Sound suppliers t → KeptOwn s (view s.gln t)
good_view suppliers s t sound = record { own = view_own s.gln t (sound.rooted).ordered; kept = sound.kept s.gln }

module _ (suppliers : List SupplierRow) (free : PrefixFree (company_prefixes suppliers)) (s : SupplierRow)
    (known : supplier_row suppliers s.gln ≡ Some s) (t : Tables) (sound : Sound suppliers t) where
  pub after_changes : (changes : List Change) → KeepsSupplier s (view s.gln t) changes → KeepsApart suppliers s t changes
  after_changes changes keeps =
      let all = follows suppliers free s known changes t sound.rooted keeps.belong in
      record {
        seen = all.seen;
        unseen = all.unseen;
        parties = all.parties;
        sound = record {
          rooted = all.rooted;
          kept = λ gln. elim (decide (same gln s.gln)) [
            | inl e ↦ subst (λ who. Kept (view who (apply_all changes t))) (sym (same_is gln s.gln e))
                (subst Kept (sym all.seen) keeps.kept)
            | inr e ↦ subst Kept (sym (all.unseen gln (λ h. let yes = same_if gln s.gln h in (cc)))) (sound.kept gln)
          ];
        };
      }

  pub apart_from : (changes : List Change) → Leaves s (KeptOwn s) (view s.gln t) changes → KeepsApart suppliers s t changes
  apart_from changes left = after_changes changes (keeps_from s (view s.gln t) changes left)
