-- Proves that the changes of a verdict fit the tables, whichever supplier the message names.
use Rattle.std.proofs.Common.{◌≡◌, ℕ, Bool, true, false, List, Option, Some, None, refl, subst, ap, ◌∙◌}
use Rattle.hub_parties.specs.Rows.{supplier_row}
use Rattle.hub_parties.specs.declared.row.SupplierRow.{SupplierRow}
use Rattle.hub_tables.specs.Sets.{Fit}
use Rattle.hub_tables.specs.Tables.{Tables, view}
use Rattle.hub_tables.specs.declared.change.Change.{Change}
use Rattle.hub_rules.specs.Judging.{Judge, refuse_if}
use Rattle.hub_rules.specs.Laws.{SoundUnder, Registered}
use Rattle.hub_rules.specs.declared.code.Code.{Code}
use Rattle.hub_rules.specs.declared.verdict.Verdict.{Verdict}
use Rattle.hub_rules.specs.declared.verdict.Verdict.TheVariants.{Accept, Refuse}
use Rattle.hub_rules.proofs.Prefixes.{gln_found}
use Rattle.hub_acts.specs.Verdicts.{VerdictFits}

pub refused_fits : (test : Bool) (first second : Code) (t : Tables) → VerdictFits (refuse_if test first (Refuse second)) t
refused_fits true first second t = tt
refused_fits false first second t = tt

pub verdict_fits : (verdict : Verdict) (t : Tables)
    → ((changes : List Change) → verdict ≡ Accept changes → Fit changes t)
    → VerdictFits verdict t
verdict_fits (Accept changes) t f = f changes refl
verdict_fits (Refuse code) t f = tt

-- for a registered supplier by its rules, and for an unknown one trivially
pub named_fits : (suppliers : List SupplierRow) (gln : List ℕ) (t : Tables) (judge : Option SupplierRow → Judge)
    → SoundUnder suppliers t
    → VerdictFits (judge None (view gln t)) t
    → ((s : SupplierRow) → Registered suppliers s t → (changes : List Change)
    → judge (Some s) (view s.gln t) ≡ Accept changes → Fit changes t)
    → VerdictFits (judge (supplier_row suppliers gln) (view gln t)) t
named_fits suppliers gln t judge here nobodys ones = by_whom (supplier_row suppliers gln) refl
  where
    by_whom : (o : Option SupplierRow) → supplier_row suppliers gln ≡ o → VerdictFits (judge o (view gln t)) t
    by_whom None h = nobodys
    by_whom (Some s) h =
        let whose = gln_found suppliers gln s h in
        subst (λ n. VerdictFits (judge (Some s) (view n t)) t) whose
        (verdict_fits (judge (Some s) (view s.gln t)) t
        (ones s (record { free = here.free; known = ap (supplier_row suppliers) whose ∙ h; sound = here.sound })))
