-- Proves that calls that look up, decide and commit never fail with `Unclean` over rows that have their form, and leave
-- such rows.
use Rattle.std.proofs.Common.{◌≡◌, ◌≢◌, ℕ, true, false, cond, List, [], ◌∷◌}
use Rattle.std.proofs.Common.{Some, None, Result, Err}
use Rattle.std.proofs.Common.{refl, sym, subst, ap, ◌∙◌}
use Rattle.std.specs.List.{AllByRecursion}
use Rattle.hub_tables.specs.Cases.{truth_number}
use Rattle.hub_tables.specs.Change.{apply_all}
use Rattle.hub_tables.specs.Sets.{Fit, Rising, clears}
use Rattle.hub_tables.specs.State.{entry_at, is_taken}
use Rattle.hub_tables.specs.Tables.{Tables, view}
use Rattle.hub_tables.specs.declared.change.Change.{Change}
use Rattle.hub_tables.specs.declared.change.Change.TheVariants.{SetMail}
use Rattle.hub_tables.specs.declared.rows.MailRow.{MailRow}
use Rattle.hub_tables.proofs.Back.{fit_uncleared}
use Rattle.hub_store.specs.Calls.{have_places}
use Rattle.hub_store.specs.Clean.{are_clean}
use Rattle.hub_store.specs.declared.fault.StoreFault.{StoreFault}
use Rattle.hub_store.specs.declared.fault.StoreFault.TheVariants.{Unclean}
use Rattle.hub_store.specs.declared.store.Store.{Ghosts}
use Rattle.hub_clean.specs.HubLaw.Requests.{taking}
use Rattle.hub_acts.specs.Acts.{Stays}
use Rattle.hub_acts.specs.StaysClean.{StaysClean}
use Rattle.hub_clean.proofs.CleanVerdicts.{cleaned_taken}
use Rattle.hub_clean.proofs.Placing.{taking_there}

-- Faults.

fault_again : {X Y : Type 0} (a b : StoreFault)
    → ◌≡◌ {A = Result X StoreFault} (Err a) (Err b)
    → ◌≡◌ {A = Result Y StoreFault} (Err a) (Err b)
fault_again a b h = let e : a ≡ b = cc in ap (λ fault. Err fault) e

-- a look-up can fail with `Unclean` only for a cause, and there is none
module _ {S X : Type 0} (g : Ghosts S) (old new : S)
    (cause : Type 0) (none_such : cause → ⊥) (fault : StoreFault)
    (unclean : g.honest new → g.broken old ≡ None → are_clean (g.content old) ≡ true
    → ◌≡◌ {A = Result X StoreFault} (Err fault) (Err Unclean) → cause) where
  pub never_so : {Y : Type 0} (result : Result Y StoreFault)
      → result ≡ Err fault
      → g.honest new
      → g.broken old ≡ None
      → are_clean (g.content old) ≡ true
      → result ≢ Err Unclean
  never_so result is h none clean e = none_such (unclean h none clean (fault_again fault Unclean (sym is ∙ e)))

  pub failed_stays : {Y : Type 0} (result : Result Y StoreFault)
      → result ≡ Err fault
      → (g.honest new → g.content new ≡ g.content old)
      → StaysClean g old new result
  failed_stays result is stays = record { never = never_so result is; rows = λ h clean. ap are_clean (stays h) ∙ clean }

-- the decision is carried out
module _ {S X : Type 0} (g : Ghosts S) (old middle new : S) (stays : Stays g old middle)
    (was : g.honest new → g.honest middle) (whole : g.broken middle ≡ g.broken old) (fits cleans : Tables → Type 0)
    (fit : g.honest middle → fits (g.content old))
    (fine : g.honest middle → are_clean (g.content old) ≡ true → cleans (g.content old)) where
  pub clean_after_looking : (result : Result X StoreFault)
      → (fits (g.content middle) → cleans (g.content middle) → StaysClean g middle new result)
      → StaysClean g old new result
  clean_after_looking result then = record {
    never = λ h none clean. (both h clean).never h (whole ∙ none) (ap are_clean (same h) ∙ clean);
    rows = λ h clean. (both h clean).rows h (ap are_clean (same h) ∙ clean);
  }
    where
      same : g.honest new → g.content middle ≡ g.content old
      same h = stays.content_stays (was h)

      both : g.honest new → are_clean (g.content old) ≡ true → StaysClean g middle new result
      both h clean = then (subst fits (sym (same h)) (fit (was h))) (subst cleans (sym (same h)) (fine (was h) clean))

-- Marking an entry as taken.

uncleared : (entry : MailRow) → AllByRecursion (λ change. clears change ≡ false) (taking entry)
uncleared entry =
    elim (is_taken entry) as (λ v. AllByRecursion (λ change. clears change ≡ false)
    (cond v [] (SetMail (record entry { taken = truth_number true }) ∷ []))) [ true ↦ tt | false ↦ (refl, tt) ]

pub mark_clean : {S X : Type 0} (g : Ghosts S) (old middle new : S)
    → Stays g old middle
    → (g.honest new → g.honest middle)
    → g.broken middle ≡ g.broken old
    → (gln : List ℕ) (number : ℕ) (entry : MailRow)
    → (g.honest middle → entry_at (view gln (g.content old)) number ≡ Some entry)
    → (g.honest middle → Rising (apply_all (taking entry) (g.content old)))
    → (changes : List Change)
    → changes ≡ taking entry
    → (result : Result X StoreFault)
    → (Fit changes (g.content middle) → have_places changes (g.content middle) ≡ true
    → are_clean (apply_all changes (g.content middle)) ≡ true → StaysClean g middle new result)
    → StaysClean g old new result
mark_clean g old middle new stays was whole gln number entry found rises changes is result then =
    let t = g.content old in
    let m = g.content middle in
    clean_after_looking g old middle new stays was whole
    (Fit (taking entry)) (λ t. (have_places (taking entry) t ≡ true) × (are_clean (apply_all (taking entry) t) ≡ true))
    (λ h. fit_uncleared (taking entry) t (uncleared entry) (rises h))
    (λ h clean. (taking_there gln number t entry (found h), cleaned_taken gln number t entry clean (found h)))
    result
    (λ fit fine. subst (λ changes. Fit changes m → have_places changes m ≡ true
    → are_clean (apply_all changes m) ≡ true → StaysClean g middle new result) is then fit fine.0 fine.1)

-- the same fault, of another call
pub stays_at : {S X Y : Type 0} (g : Ghosts S) (old new : S)
    (fault : StoreFault)
    → StaysClean {X = X} g old new (Err fault)
    → (result : Result Y StoreFault)
    → result ≡ Err fault
    → StaysClean g old new result
stays_at g old new fault stays result is = record {
  never = λ h none clean e. stays.never h none clean (fault_again fault Unclean (sym is ∙ e));
  rows = stays.rows;
}
