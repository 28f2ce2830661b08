use Rattle.std.proofs.Common.{rules, ℕ}
use Rattle.std.proofs.lemmas.List.{take-replicate}
use Rattle.hub_texts.proofs.fields.put_blanks.Goals as goal

pub returns : goal.returns
returns c = search (rules, take-replicate {X = ℕ} c.args.count 48 0x20 c.if-count-gt48.false)
