use Rattle.hub_tables.specs.Tables.{view}
use Rattle.hub_transactions.proofs.LookUps.{mails_known}
use Rattle.hub_transactions.proofs.knowing.known_for_order.Goals as goal

pub returns-clause-told : goal.returns-clause-told
returns-clause-told g c = λ honest kept.
    let second = c.last_mail.ensures.looks.was_honest honest in
    let first = c.order_known.ensures.looks.was_honest second in
    let one = c.is_repetition.ensures.looks.content_stays first in
    let two = c.order_known.ensures.looks.content_stays second in
    let remembered = c.in_ok-remembered.ensures.looks.answers first in
    let known = c.in_ok-number_known.ensures.looks.answers second in
    let mails = c.in_ok-mails.ensures.looks.answers honest in
    let count = mails_known (view c.args.supplier.now (g.S.Store.content c.args.store.now)) kept in
    record { remembered = cc; number = λ none. cc; mails = λ none. cc }
