use Rattle.std.proofs.Common.{ℕ, List, Bor, map, sym, subst, ap, ◌∙◌}
use Rattle.hub_tables.specs.Tables.{view}
use Rattle.hub_order_lines.specs.Book.{Orders}
use Rattle.hub_order_lines.specs.KnownOrders.{is_kept}
use Rattle.hub_naming.specs.Lines.{names_line}
use Rattle.hub_transactions.specs.Orders.{KeepsAsked}
use Rattle.hub_transactions.proofs.Apart.{none_apart}
use Rattle.hub_transactions.proofs.despatches.know_named.Goals as goal

pub returns-clause-known : goal.returns-clause-known
returns-clause-known g c = λ honest old.
    let state = view c.args.supplier.now (g.S.Store.content c.args.store.now) in
    let asks = names_line c.in_ok-named.named.entries in
    record {
      named = c.in_ok-named.named.entries;
      lines = c.in_ok-named.ensures;
      keeps = subst (λ (orders : Orders). KeepsAsked asks orders (map (λ number. number.now) c.know_orders.new.apart) state)
          (sym c.index_units.ensures)
          (c.in_ok-know_orders.ensures.known honest
          (subst (λ (xs : List (Bor (List ℕ))). KeepsAsked asks c.args.orders.now (map (λ number. number.now) xs) state)
          (sym c.new-apart.ensures) (none_apart asks state c.args.orders.now old)));
    }

pub returns-clause-all : goal.returns-clause-all
returns-clause-all g c = λ order names.
    ap (λ (orders : Orders). is_kept orders order) c.index_units.ensures
    ∙ c.in_ok-know_orders.ensures.all order (c.in_ok-numbers.ensures.orders order ∙ names)
