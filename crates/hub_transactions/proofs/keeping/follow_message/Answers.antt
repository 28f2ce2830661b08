use Rattle.std.proofs.Common.{[], sym, subst}
use Rattle.hub_tables.specs.Change.{apply_all}
use Rattle.hub_tables.specs.Tables.{Tables, view}
use Rattle.hub_transactions.specs.Orders.{KeepsOrders}
use Rattle.hub_transactions.proofs.KeptOrders.{kept_after}
use Rattle.hub_transactions.proofs.keeping.follow_message.Goals as goal

pub returns : goal.returns
returns c = λ supplier t keeps.
    let changes = c.changes_of.result.now in
    let orders = c.follow.new.self in
    let left = c.forget_past.new.self in
    subst (λ (u : Tables). KeepsOrders left (view supplier u)) (sym (c.changes_of.ensures t))
    (kept_after supplier [] (apply_all changes t) orders left c.forget_past.ensures
    (kept_after supplier changes t c.args.orders.now orders c.follow.ensures keeps))
