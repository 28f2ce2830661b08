use Rattle.std.proofs.Common.{◌≡◌, ℕ, true, List, [], Bor, is_some, map, option_map, refl, sym, subst, ap, ap₂, ◌∙◌}
use Rattle.std.proofs.lemmas.Bool.{true≢false}
use Rattle.edi_goods.specs.declared.despatch.Unit.{Unit}
use Rattle.hub_tables.specs.Rows.{same}
use Rattle.hub_tables.specs.State.{knows_advice, remembered_content}
use Rattle.hub_tables.specs.Tables.{view, has_pallet}
use Rattle.hub_tables.specs.declared.cases.Side.TheVariants.{Supplier}
use Rattle.hub_order_lines.specs.Book.{Orders}
use Rattle.hub_order_lines.specs.KnownOrders.{is_kept}
use Rattle.hub_judges.specs.Known.{names_order}
use Rattle.hub_naming.specs.Lines.{names_line}
use Rattle.hub_transactions.specs.Knowing.{KnowsNamed}
use Rattle.hub_transactions.specs.Orders.{ForgetsOrders, KeepsOrders}
use Rattle.hub_transactions.proofs.Apart.{asked_told, kept_whole, none_apart}
use Rattle.hub_transactions.proofs.Named.{seen_is_there}
use Rattle.hub_transactions.proofs.despatches.known_for_despatch.Goals as goal
use Rattle.hub_transactions.proofs.despatches.known_for_despatch.Goals.{then-is_some-via-then-is_some}
use Rattle.hub_transactions.proofs.despatches.known_for_despatch.Goals.{then-is_some-via-else-is_some+then-number_known}

pub returns-clause-kept : goal.returns-clause-kept
returns-clause-kept g c = λ honest old kept forgets.
    let supplier = c.args.supplier.now in
    let despatch = c.args.despatch.now in
    let t = g.S.Store.content c.args.store.now in
    let third = c.in_ok-apart.ensures.stays.was_honest honest in
    let second = c.in_ok-used.ensures.stays.was_honest third in
    let first = c.advice_known.ensures.looks.was_honest second in
    let stays = c.in_ok-used.ensures.stays.content_stays third ∙ c.advice_known.ensures.looks.content_stays second
    ∙ c.is_repetition.ensures.looks.content_stays first in
    let orders = c.know_named.new.orders in
    let apart = c.in_ok-apart.apart in
    let knows : KnowsNamed despatch.units orders apart supplier t =
    subst (λ (units : List Unit). KnowsNamed units orders apart supplier t) c.as_slice-units.ensures
    (subst (λ t. KnowsNamed c.as_slice-units.result.now orders apart supplier t) stays (c.in_ok-apart.ensures.known honest
    (subst (λ t. KeepsOrders c.args.orders (view supplier t)) (sym stays) old))) in
    kept_whole (names_line knows.named) (view supplier t) (map (λ number. number.now) apart) orders kept knows.keeps forgets

pub returns-clause-told : goal.returns-clause-told
returns-clause-told g c = λ honest old.
    let supplier = c.args.supplier.now in
    let despatch = c.args.despatch.now in
    let t = g.S.Store.content c.args.store.now in
    let third = c.in_ok-apart.ensures.stays.was_honest honest in
    let second = c.in_ok-used.ensures.stays.was_honest third in
    let first = c.advice_known.ensures.looks.was_honest second in
    let stays = c.in_ok-used.ensures.stays.content_stays third ∙ c.advice_known.ensures.looks.content_stays second
    ∙ c.is_repetition.ensures.looks.content_stays first in
    let orders = c.know_named.new.orders in
    let apart = c.in_ok-apart.apart in
    let knows : KnowsNamed despatch.units orders apart supplier t =
    subst (λ (units : List Unit). KnowsNamed units orders apart supplier t) c.as_slice-units.ensures
    (subst (λ t. KnowsNamed c.as_slice-units.result.now orders apart supplier t) stays (c.in_ok-apart.ensures.known honest
    (subst (λ t. KeepsOrders c.args.orders (view supplier t)) (sym stays) old))) in
    let one = c.is_repetition.ensures.looks.content_stays first in
    let two = c.advice_known.ensures.looks.content_stays second in
    let remembered = c.in_ok-remembered.ensures.looks.answers first in
    let known = c.in_ok-number_known.ensures.looks.answers second in
    let remembered_is : option_map (λ there. same there c.args.incoming.now.content)
    (remembered_content (view supplier t) Supplier c.args.incoming.now.control c.args.incoming.now.message)
    ≡ c.in_ok-remembered.remembered = cc in
    let number_is : knows_advice (view supplier t) despatch.number ≡ c.in_ok-number_known.number_known = cc in
    let are_kept : (order : List ℕ) → names_order despatch.units order ≡ true → is_kept orders order ≡ true =
    λ order names.
    c.in_ok-apart.ensures.all order (ap (λ units. names_order units order) c.as_slice-units.ensures ∙ names) in
    asked_told knows.named (has_pallet t) c.args.incoming.now despatch (view supplier t) (map (λ number. number.now) apart) _
    knows.keeps knows.lines
    remembered_is number_is (λ sscc h. seen_is_there supplier t sscc h)
    (ap₂ (λ tables units. map (λ (unit : Unit). has_pallet tables unit.sscc) units) (sym (two ∙ one)) (sym c.as_slice-units.ensures)
    ∙ c.in_ok-used.ensures.used third)
    are_kept

pub returns-then-is_some-clause-told : goal.returns-then-is_some-clause-told
returns-then-is_some-clause-told g c = λ honest old.
    let t = g.S.Store.content c.args.store.now in
    let first = c.advice_known.ensures.looks.was_honest honest in
    let one = c.is_repetition.ensures.looks.content_stays first in
    let remembered = c.in_ok-remembered.ensures.looks.answers first in
    let known = c.in_ok-number_known.ensures.looks.answers honest in
    let as_it_was = c.known_for_message-known.ensures.remembered in
    let as_known = c.known_for_message-known.ensures.number in
    record {
      seen = view c.args.supplier.now t;
      alike = λ retailer row. refl;
      told = record {
        remembered = cc;
        number = cc;
        used_there = λ sscc h. seen_is_there c.args.supplier.now t sscc h;
        units = λ none unknown. elim c.then-is_some.branch [
          | then-is_some-via-then-is_some w ↦
              absurd (true≢false (sym (sym c.is_some.ensures ∙ w.if-is_some.true) ∙ ap is_some (sym as_it_was ∙ none)))
          | then-is_some-via-else-is_some+then-number_known w ↦
              absurd (true≢false (sym w.if-number_known.true ∙ sym as_known ∙ unknown))
        ];
      };
    }

pub returns-then-is_some-clause-kept : goal.returns-then-is_some-clause-kept
returns-then-is_some-clause-kept g c = λ honest old kept forgets.
    let state = view c.args.supplier.now (g.S.Store.content c.args.store.now) in
    kept_whole (λ order number. true) state [] c.args.orders kept (none_apart (λ order number. true) state c.args.orders old)
    (subst (λ (xs : List (Bor (List ℕ))). ForgetsOrders (map (λ number. number.now) xs) c.args.orders kept) c.new.ensures
    (subst (λ (orders : Orders). ForgetsOrders (map
    (λ number. number.now) c.new.result) orders kept) c.known_for_message-known.ensures.orders forgets))
