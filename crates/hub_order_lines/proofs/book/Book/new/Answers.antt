use Rattle.hub_order_lines.specs.Changed.{now_of}
use Rattle.hub_order_lines.proofs.Setting.{all_made, none_set, none_now}
use Rattle.hub_order_lines.proofs.book.Book.new.Goals as goal

pub invariant_of-result : goal.invariant_of-result
invariant_of-result c = none_set c.new.result c.new.ensures.empty c.args.orders.now

pub returns : goal.returns
returns c = all_made (now_of c.new.result) (none_now c.new.result c.new.ensures.empty) c.args.orders.now
