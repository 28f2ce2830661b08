-- Proves what printing a report does.
use Rattle.std.proofs.Common.{◌≡◌, ℕ, Bool, List, Option, Result, codes, inl, inr, sym, subst, ◌∙◌}
use Rattle.std.specs.Prelude.{◌≢◌, ◌⊎◌}
use Rattle.std.specs.Io.KnownBytes.{Appends, Keeps}
use Rattle.edi_base.specs.Buffer.{AppendsFront}
use Rattle.hub_parties.specs.Rows.{RegisterRows}
use Rattle.hub_register.specs.declared.fault.RegisterFault.{RegisterFault}
use Rattle.hub_commands.specs.Check.{PrintsReport, check_line, check_status}
use Rattle.hub_commands.specs.Output.{ReportsFile}
use Rattle.edi_relay.specs.ErrorLines.{WritesLine}
use Rattle.hub_commands.proofs.RegisterTexts.{never_failed}

module _ (text : Result RegisterRows RegisterFault) (status result : ℕ) (line : List ℕ) (old new : Option (List ℕ))
    (was failed : Bool)
    (err_old err_new : Option (List ℕ))
    (err_failed : Bool)
    (is_status : status ≡ check_status text)
    (is_line : line ≡ check_line text)
    (told : PrintsReport old new was failed err_old err_new err_failed line status result) where
  -- the line was printed, unless the status is that of a failure
  pub checked : result ≢ 3 → (result ≡ check_status text) × Appends old new (check_line text) × Keeps err_old err_new
  checked ended =
      elim told [
        | inl h ↦ (h.0 ∙ is_status, subst (λ (l : List ℕ). Appends old new l) is_line h.2, h.3)
        | inr h ↦ absurd (ended h.0)
      ]

  pub written : (failed ≡ was) ⊎ ((result ≡ 3) × WritesLine err_old err_new err_failed (codes "file\n"))
  written = elim told [ inl h ↦ inl h.1 | inr h ↦ inr (h.0, h.1.0) ]

  -- a report has no status of a failure, so the writer failed
  pub unwritten : {Memory : Type 0} → result ≡ 3
      → ReportsFile old new failed err_old err_new err_failed (check_line text) ⊎ Memory
  unwritten is =
      elim told [
        | inl h ↦ absurd (never_failed text (sym (h.0 ∙ is_status) ∙ is))
        | inr h ↦ inl (h.1.0, h.1.1, subst (λ (l : List ℕ). AppendsFront old new l) is_line h.1.2)
      ]
