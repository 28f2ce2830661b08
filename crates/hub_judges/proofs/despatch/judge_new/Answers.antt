use Rattle.std.proofs.Common.{ℕ, [], ◌∷◌, ◌++◌, List, sym, ap, ap₂, ◌∙◌}
use Rattle.hub_tables.specs.declared.cases.Side.TheVariants as sides
use Rattle.hub_tables.specs.declared.change.Change.{Change}
use Rattle.hub_tables.specs.declared.change.Change.TheVariants.{AddAdvice}
use Rattle.hub_rules.specs.Judging.{joined, refuse_if}
use Rattle.hub_rules.specs.declared.code.Code.TheVariants.{AdviceKnown}
use Rattle.hub_rules.specs.declared.verdict.Verdict.{Verdict}
use Rattle.hub_judges.specs.FromFacts.{no_sscc, units_from}
use Rattle.hub_judges.proofs.Despatched.{joined_grouped}
use Rattle.hub_judges.proofs.Messages.{first_of}
use Rattle.hub_judges.proofs.despatch.judge_new.Goals as goal

pub returns : goal.returns
returns c =
    let incoming = c.args.incoming in
    let despatch = c.args.despatch.now in
    let known = c.args.known.now in
    let s = c.args.row.now in
    let first : List Change = first_of s sides.Supplier incoming in
    let advice : List ℕ → Change = λ number. AddAdvice (record { supplier = s.gln; number = number }) in
    let units : Verdict = units_from s despatch.number no_sscc despatch.units known.used known.orders in
    let of_code = ap₂ (λ flags lines. units_from s despatch.number no_sscc despatch.units flags lines) c.as_slice-used.ensures
    c.new-book.ensures in
    let changes = c.in_ok-changes.ensures ∙ ap (λ number. first ++ advice number ∷ []) c.as_slice.ensures in
    c.in_ok-verdict.ensures
    ∙ ap₂ joined changes of_code
    ∙ joined_grouped first (advice despatch.number ∷ []) units
    ∙ ap (λ v. joined first (refuse_if v AdviceKnown (joined (advice despatch.number ∷ []) units))) (sym c.requires)
