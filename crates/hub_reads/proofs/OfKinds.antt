-- Checks the kinds of rows of schema 1 one after another: the first that does not fit decides.
use Rattle.std.proofs.Common.{◌≡◌, Bool, true, false, ◌&&◌, Result, Ok, Err, sym, ap, ◌∙◌}
use Rattle.sqlite.specs.State.{State}
use Rattle.hub_store.specs.declared.fault.StoreFault.{StoreFault}
use Rattle.hub_tables.specs.Tables.{Tables}
use Rattle.hub_schema.proofs.Same.{same_old_hub}
use Rattle.hub_reads.specs.Fitting.{TellsOld}
use Rattle.hub_rows.proofs.Causes.{cause_before}
use Rattle.hub_rows.proofs.Joining.{failed_for, found_on, then_among}

module _ (one rest : Tables → Bool) (old mid : State) (fit : Bool) (first : TellsOld one old mid (Ok fit)) where
  abbrev all : Tables → Bool
  all t = one t && rest t

  -- the first fits, and the rest decides
  pub then_tells : (new : State) → fit ≡ true → (result : Result Bool StoreFault) → TellsOld rest mid new result
      → TellsOld all old new result
  then_tells new first_fits result second = record {
    looks =
        then_among same_old_hub (λ t is. is ≡ one t) (λ t is. is ≡ rest t) (λ t is. is ≡ all t) (λ _. ⊥) (λ _. ⊥) (λ _. ⊥) old mid new
        fit (λ t is y told. told ∙ ap (λ b. b && rest t) (sym first_fits ∙ is)) (λ t is never. never) first.looks result second.looks;
    disk =
        cause_before (λ t is. is ≡ one t) (λ _. ⊥) old mid new fit first.looks result second.looks.crash second.disk;
  }

  -- the first does not fit
  pub tells_not : fit ≡ false → TellsOld all old mid (Ok false)
  tells_not first_lacks = record {
    looks =
        found_on (λ t is. is ≡ one t) (λ t is. is ≡ all t) (λ _. ⊥) (λ _. ⊥) old mid fit false
        (λ t is. ap (λ b. b && rest t) (sym first_lacks ∙ is)) first.looks;
    disk = λ clean holds told. absurd cc;
  }

-- the first could not be looked at
pub tells_none : (one rest : Tables → Bool) (old mid : State) (fault : StoreFault) → TellsOld one old mid (Err fault)
    → TellsOld (λ t. one t && rest t) old mid (Err fault)
tells_none one rest old mid fault first = record {
  looks =
      failed_for (λ t is. is ≡ one t) (λ t is. is ≡ one t && rest t) (λ _. ⊥) (λ _. ⊥) old mid (λ t never. never) fault first.looks;
  disk = first.disk;
}
