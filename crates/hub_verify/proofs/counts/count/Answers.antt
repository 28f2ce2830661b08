use Rattle.hub_verify.proofs.Counting.{all_counted}
use Rattle.hub_verify.proofs.counts.count.Goals as goal

pub returns : goal.returns
returns g c =
    all_counted g.S.AllRows.content g.S.AllRows.honest c.args.store.now c.suppliers.new.store c.orders.new.store c.lines.new.store
    c.pallets.new.store c.entries.new.store
    c.remembered_messages.new.store c.in_ok-keys.keys c.in_ok-numbers.numbers c.in_ok-ordered.ordered c.in_ok-despatched.despatched
    c.in_ok-mail.mail
    c.in_ok-messages.messages c.in_ok-keys.ensures c.in_ok-numbers.ensures c.in_ok-ordered.ensures c.in_ok-despatched.ensures
    c.in_ok-mail.ensures c.in_ok-messages.ensures
