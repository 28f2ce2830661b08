-- Shows that verdicts whose changes keep a supplier's rows sound do the same in the tables of all and in its own rows
-- alone.
use Rattle.std.proofs.Common.{◌≡◌, Bool, true, false, cond, List, Some, Result, Ok, Err, refl, sym, subst}
use Rattle.gs1_ids.specs.Overlap.{PrefixFree}
use Rattle.edi_messages.specs.Fault as message_faults
use Rattle.edi_messages.specs.declared.fault.MessageFault.{MessageFault}
use Rattle.hub_parties.specs.Rows.{company_prefixes, supplier_row}
use Rattle.hub_parties.specs.declared.row.SupplierRow.{SupplierRow}
use Rattle.hub_tables.specs.Tables.{Tables, view}
use Rattle.hub_tables.specs.declared.change.Change.{Change}
use Rattle.hub_rules.specs.Sound.{Sound}
use Rattle.hub_rules.specs.declared.verdict.Verdict.{Verdict}
use Rattle.hub_rules.specs.declared.verdict.Verdict.TheVariants.{Accept, Refuse}
use Rattle.hub_rules.specs.Laws.{Apart}
use Rattle.hub_rules.proofs.Belonging.{KeepsSupplier}
use Rattle.hub_rules.proofs.OwnChanges.{after_changes}
use Rattle.hub_law.specs.Told.{Told, Refused, told, act, read_act}
use Rattle.hub_law.proofs.Acting.{Alike, parties_same}

module _ (suppliers : List SupplierRow) (s : SupplierRow) (t : Tables) (sound : Sound suppliers t) where
  pub unchanged : Apart suppliers s t t (view s.gln t)
  unchanged = record { seen = refl; unseen = λ other ne. refl; parties = parties_same t; sound = sound }

  pub nothing_done : (told : Told) → Alike suppliers s t (told, t) (told, view s.gln t)
  nothing_done told = record { told = refl; apart = unchanged }

  -- one of two acts, chosen by the same test
  pub either : (test : Bool) (one other own_one own_other : Told × Tables)
      → Alike suppliers s t one own_one
      → Alike suppliers s t other own_other
      → Alike suppliers s t (cond test one other) (cond test own_one own_other)
  either true one other own_one own_other first second = first
  either false one other own_one own_other first second = second

module _ (suppliers : List SupplierRow) (free : PrefixFree (company_prefixes suppliers)) (s : SupplierRow)
    (known : supplier_row suppliers s.gln ≡ Some s) (t : Tables) (sound : Sound suppliers t) where
  -- one verdict, for the tables and for the supplier's rows
  pub same_verdict : (shared own : Verdict)
      → shared ≡ own
      → ((changes : List Change) → own ≡ Accept changes → KeepsSupplier s (view s.gln t) changes)
      → Alike suppliers s t (act shared t) (act own (view s.gln t))
  same_verdict (Refuse code) own e keeps =
      subst (λ v. Alike suppliers s t (act (Refuse code) t) (act v (view s.gln t))) e
      (nothing_done suppliers s t sound (told (Refuse code)))
  same_verdict (Accept changes) own e keeps =
      subst (λ v. Alike suppliers s t (act (Accept changes) t) (act v (view s.gln t))) e
      (record { told = refl; apart = after_changes suppliers free s known t sound changes (keeps changes (sym e)) })

  -- what is read, then one verdict on it
  pub same_reading : {X : Type 0} (read : Result X MessageFault) (shared own : X → Verdict)
      → ((x : X) → shared x ≡ own x)
      → ((x : X) → read ≡ Ok x → (changes : List Change) → own x ≡ Accept changes → KeepsSupplier s (view s.gln t) changes)
      → Alike suppliers s t (read_act read shared t) (read_act read own (view s.gln t))
  same_reading (Err fault) shared own agree keeps = nothing_done suppliers s t sound (Refused (message_faults.code_text fault))
  same_reading (Ok x) shared own agree keeps = same_verdict (shared x) (own x) (agree x) (keeps x refl)
