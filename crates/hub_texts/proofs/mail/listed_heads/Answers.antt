use Rattle.std.proofs.Common.{sym, arith}
use Rattle.std.proofs.lemmas.List.{length-take-le, take_all}
use Rattle.hub_law.specs.MailText.{list_limit}
use Rattle.hub_texts.proofs.mail.listed_heads.Goals as goal

pub slice_bounds-result-end : goal.slice_bounds-result-end
slice_bounds-result-end c = sym (length-take-le list_limit c.args.heads.now (omega (arith, c.if-heads-gt-LIST_LIMIT.true)))

pub returns-else-heads-gt-LIST_LIMIT : goal.returns-else-heads-gt-LIST_LIMIT
returns-else-heads-gt-LIST_LIMIT c = sym (take_all list_limit c.args.heads.now (omega (arith, c.if-heads-gt-LIST_LIMIT.false)))
