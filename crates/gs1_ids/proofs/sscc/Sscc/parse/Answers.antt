use Rattle.std.proofs.Common.{◌∙◌, rules}
use Rattle.gs1_ids.proofs.Decided.{Decides-is_key, found, refused}
use Rattle.gs1_ids.proofs.sscc.Sscc.parse.Goals as goal

pub returns-clause-value : goal.returns-clause-value
returns-clause-value c =
    let key = c.in_ok-digits.ensures in
    found _ _ c.args.text.now _ (Decides-is_key 18 c.args.text.now) key.0 key.1

pub returns-in_err-digits-clause-value : goal.returns-in_err-digits-clause-value
returns-in_err-digits-clause-value c =
    c.from_residual.ensures ∙ refused _ _ c.args.text.now (Decides-is_key 18 c.args.text.now) c.in_err-digits.ensures

pub returns-clause-exact : goal.returns-clause-exact
returns-clause-exact c = search rules
