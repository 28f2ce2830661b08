use Rattle.std.proofs.Common.{refl}
use Rattle.hub_naming.proofs.Numbers.{still_named}
use Rattle.hub_naming.proofs.lines.LinesNamed.add.Goals as goal

pub returns-in_ok-insert-in-Some-clause-others : goal.returns-in_ok-insert-in-Some-clause-others
returns-in_ok-insert-in-Some-clause-others c =
    still_named c.args.self.now (record { by_article = c.args.self.now.by_article; numbers = c.insert.new.self }) c.in-Some.number
    refl c.in_ok-insert-in-Some.ensures.keys
