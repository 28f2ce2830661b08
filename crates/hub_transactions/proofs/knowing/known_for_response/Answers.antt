use Rattle.std.proofs.Common.{rules, is_some, refl, sym, ap, subst, ◌∙◌}
use Rattle.std.proofs.lemmas.Bool.{true≢false}
use Rattle.std.specs.Option.{IfSome}
use Rattle.hub_tables.specs.Tables.{view}
use Rattle.hub_order_lines.specs.Book.{Orders}
use Rattle.hub_tables.specs.declared.cases.Side.TheVariants.{Supplier}
use Rattle.hub_judges.specs.Known.{TellsRemembered}
use Rattle.hub_transactions.specs.Named.{NamedLines}
use Rattle.hub_transactions.proofs.ByNumber.{named_told}
use Rattle.hub_transactions.proofs.knowing.known_for_response.Goals as goal

pub returns-then-is_some-clause-told : goal.returns-then-is_some-clause-told
returns-then-is_some-clause-told g c = λ honest sound kept.
    let answers = c.in_ok-remembered.ensures.looks.answers honest in
    let as_it_was = c.known_for_message.ensures.remembered in record {
      seen = view c.args.supplier.now (g.S.Store.content c.args.store.now);
      alike = λ retailer row. refl;
      told = record {
        remembered = cc;
        answered = λ none.
            absurd (true≢false (sym (sym c.is_some.ensures ∙ c.if-is_some.true) ∙ ap is_some (sym as_it_was ∙ none)));
      };
    }

pub returns-in-Some-clause-told : goal.returns-in-Some-clause-told
returns-in-Some-clause-told g c = λ honest sound kept.
    let supplier = c.args.supplier.now in
    let response = c.args.response.now in
    let state = view supplier (g.S.Store.content c.args.store.now) in
    let first = c.named_lines.ensures.stays.was_honest honest in
    let stays = c.is_repetition.ensures.looks.content_stays first in
    let answers = c.in_ok-remembered.ensures.looks.answers first in
    let as_it_was = c.known_for_message-in-Some.ensures.remembered in
    let incoming = c.args.incoming.now in
    let remembered : TellsRemembered c.known_for_message-in-Some.result Supplier incoming.control incoming.message incoming.content state =
    cc in
    let named = subst (λ o. IfSome o (NamedLines response (view supplier (g.S.Store.content c.is_repetition.new.store)))) c.in-Some.is
    (c.in_ok-named.ensures.named honest) in
    named_told c.args.incoming.now response state c.known_for_message-in-Some.result sound remembered
    (subst (λ (orders : Orders). NamedLines response state orders) (sym c.known_for_message-in-Some.ensures.orders)
    (subst (λ t. NamedLines response (view supplier t) c.in-Some.named) stays named))

pub returns-clause-told : goal.returns-clause-told
returns-clause-told g c = λ honest sound kept. record {
  seen = view c.args.supplier.now (g.S.Store.content c.args.store.now);
  alike = λ retailer row. refl;
  told = search rules;
}
