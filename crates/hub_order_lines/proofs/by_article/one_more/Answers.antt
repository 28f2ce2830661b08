use Rattle.std.proofs.Common.{rules}
use Rattle.hub_order_lines.proofs.by_article.one_more.Goals as goal

pub returns-in-Some : goal.returns-in-Some
returns-in-Some c = search rules
