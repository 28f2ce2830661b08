use Rattle.std.proofs.Common.{◌<◌, ◌≤◌, ◌∙◌, length, arith}
use Rattle.std.proofs.lemmas.Bool.Decides.{nat_tests}
use Rattle.gs1_ids.specs.Gtin.{IsGtin, in_fourteen}
use Rattle.gs1_ids.proofs.Decided.{Decides-is_gtin, found, refused}
use Rattle.gs1_ids.proofs.FilledFields.{IsKey-filled}
use Rattle.gs1_ids.proofs.gtin.Gtin.parse.Goals as goal

pub invariant_of-result : goal.invariant_of-result
invariant_of-result c =
    let text = c.args.text.now in
    let gtin : IsGtin text = c.in_ok-digits.ensures.0 in
    let tests = gtin.len in
    let some : 0 < length text = grind (arith, nat_tests) in
    let fits : length text ≤ 14 = grind (arith, nat_tests) in
    rw c.in_ok-digits.ensures.1 (IsKey-filled text some fits gtin.key)

pub returns-clause-value : goal.returns-clause-value
returns-clause-value c =
    let text = c.args.text.now in
    found _ _ (in_fourteen text) _ (Decides-is_gtin text) c.in_ok-digits.ensures.0 c.in_ok-digits.ensures.1

pub returns-in_err-digits-clause-value : goal.returns-in_err-digits-clause-value
returns-in_err-digits-clause-value c =
    let text = c.args.text.now in
    c.from_residual.ensures ∙ refused _ _ (in_fourteen text) (Decides-is_gtin text) c.in_err-digits.ensures
