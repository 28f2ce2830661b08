use Rattle.std.proofs.Common.{◌≡◌, ◌⊎◌, ℕ, true, List, map}
use Rattle.edi_base.specs.Seen.{is_among}
use Rattle.hub_tables.specs.Tables.{view}
use Rattle.hub_order_lines.specs.KnownOrders.{is_kept}
use Rattle.hub_acts.specs.Acts.{Stays}
use Rattle.hub_naming.specs.Lines.{names_line}
use Rattle.hub_transactions.specs.Orders.{KeepsAsked}
use Rattle.hub_transactions.proofs.despatches.know_orders.Given as goal

-- each named order is known, or still to be looked up
abbrev pub invariant-loop-number : goal.invariant-loop-number
invariant-loop-number g l = record {
  stays : Stays g.S.Store l.fn.store l.store;
  broken : g.S.Store.broken l.store ≡ g.S.Store.broken l.fn.store;
  known : g.S.Store.honest l.store
      → KeepsAsked (names_line l.named.entries) l.fn.orders (map (λ number. number.now) l.fn.apart)
      (view l.supplier (g.S.Store.content l.fn.store))
      → KeepsAsked (names_line l.named.entries) l.orders (map (λ number. number.now) l.apart)
      (view l.supplier (g.S.Store.content l.fn.store));
  all : (order : List ℕ) → is_among order (map (λ number. number.now) l.numbers.keys) ≡ true
      → (is_kept l.orders order ≡ true) ⊎ (is_among order (map (λ number. number.now) l.number-iterator) ≡ true);
  named : (order : List ℕ) → is_among order (map (λ number. number.now) l.number-iterator) ≡ true
      → is_among order (map (λ number. number.now) l.numbers.keys) ≡ true;
}
