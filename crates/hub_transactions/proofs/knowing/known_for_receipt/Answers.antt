use Rattle.std.proofs.Common.{map, sym, ap₂, ◌∙◌}
use Rattle.hub_tables.specs.State.{pallet_of}
use Rattle.hub_tables.specs.Tables.{view}
use Rattle.hub_transactions.proofs.LookUps.{mails_known}
use Rattle.hub_transactions.proofs.knowing.known_for_receipt.Goals as goal

pub returns-clause-told : goal.returns-clause-told
returns-clause-told g c = λ honest kept.
    let supplier = c.args.supplier.now in
    let second = c.pallets_of.ensures.stays.was_honest honest in
    let first = c.last_mail.ensures.looks.was_honest second in
    let one = c.is_repetition.ensures.looks.content_stays first in
    let two = c.last_mail.ensures.looks.content_stays second in
    let remembered = c.in_ok-remembered.ensures.looks.answers first in
    let mails = c.in_ok-mails.ensures.looks.answers second in
    let count = mails_known (view supplier (g.S.Store.content c.args.store.now)) kept in
    record {
      remembered = cc;
      mails = λ none. cc;
      pallets = λ none.
          ap₂ (λ t units. map (λ unit. pallet_of (view supplier t) unit.sscc) units) (sym (two ∙ one))
          (sym c.as_slice-units.ensures)
          ∙ c.in_ok-pallets.ensures.found honest;
    }
