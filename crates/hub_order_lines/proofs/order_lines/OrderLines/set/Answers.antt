use Rattle.hub_order_lines.proofs.SetLine.{still_indexed}
use Rattle.hub_order_lines.proofs.order_lines.OrderLines.set.Goals as goal

pub invariant_of-self : goal.invariant_of-self
invariant_of-self c = still_indexed c.self.inside.lines c.set.new.self c.self.inside.articles c.set.ensures.keys c.self.invariant
