use Rattle.std.proofs.Common.{◌≡◌, length, take, refl, ap, ◌∙◌}
use Rattle.std.proofs.lemmas.List.{take_at}
use Rattle.gs1_ids.proofs.Decided.{Decides-is_prefix, found}
use Rattle.gs1_ids.proofs.FilledFields.{HoldsPrefix-filled}
use Rattle.gs1_ids.proofs.prefix.Prefix.parse.Goals as goal

pub invariant_of-result : goal.invariant_of-result
invariant_of-result c = rw c.in_field.ensures (HoldsPrefix-filled c.args.text.now (c.if-not-is_prefix.ensures.0 refl))

pub returns-clause-value : goal.returns-clause-value
returns-clause-value c =
    let text = c.args.text.now in
    let digits : take (length text) c.in_field.result ≡ text =
    ap (take (length text)) c.in_field.ensures ∙ take_at text _ (length text) refl in
    found _ _ text _ (Decides-is_prefix text) (c.if-not-is_prefix.ensures.0 refl) digits
