use Rattle.hub_tables.specs.Tables.{view}
use Rattle.hub_transactions.proofs.LookUps.{despatched_known}
use Rattle.hub_transactions.proofs.knowing.known_of_order.Goals as goal

pub returns-clause-told : goal.returns-clause-told
returns-clause-told g c = λ honest kept.
    let state = view c.args.supplier.now (g.S.Store.content c.args.store.now) in
    let order = c.args.order.now in
    let keeps = c.in_ok-keep_order.ensures.kept honest kept in
    let also = c.in_ok-keep_order.ensures.also in record {
      there = keeps.there order also;
      lines = keeps.lines order also;
      despatched = λ sound.
          despatched_known state order c.keep_order.new.orders sound (keeps.lines order also) (keeps.adds_up order also);
    }
