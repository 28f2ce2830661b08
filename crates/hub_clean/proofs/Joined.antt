-- Shows what follows from a join that is accepted.
use Rattle.std.proofs.Common.{◌≡◌, false, List}
use Rattle.std.proofs.Common.{sym}
use Rattle.hub_parties.specs.Rows.{RegisterRows}
use Rattle.hub_parties.specs.declared.row.SupplierRow.{SupplierRow}
use Rattle.hub_tables.specs.Register.{row_changes}
use Rattle.hub_tables.specs.declared.change.Change.{Change}
use Rattle.hub_rules.specs.JoinRules.{is_known, overlap_others, is_full, judge_join}
use Rattle.hub_rules.specs.declared.code.Code.TheVariants.{GlnKnown, PrefixOverlaps, RegisterFull}
use Rattle.hub_rules.specs.declared.verdict.Verdict.{Verdict}
use Rattle.hub_rules.specs.declared.verdict.Verdict.TheVariants.{Accept}
use Rattle.hub_rules.proofs.Verdicts.{not_refused}

-- A supplier that the register accepts.
module _ (register : RegisterRows) (row : SupplierRow) (changes : List Change)
    (accepted : judge_join register row ≡ Accept changes) where
  pub rules : (is_known register row.gln ≡ false) × (row_changes row ≡ changes)
  rules =
      let one = not_refused (is_known register row.gln) GlnKnown _ changes accepted in
      let two = not_refused (overlap_others register row.prefixes) PrefixOverlaps _ changes one.1 in
      let three = not_refused (is_full register) RegisterFull (Accept (row_changes row)) changes two.1 in
      (one.0, same_changes three.1)
    where
      same_changes : ◌≡◌ {A = Verdict} (Accept (row_changes row)) (Accept changes) → row_changes row ≡ changes
      same_changes e = cc

  pub changes_are : changes ≡ row_changes row
  changes_are = sym rules.1
