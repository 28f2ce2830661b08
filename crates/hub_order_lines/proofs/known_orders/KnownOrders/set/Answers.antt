use Rattle.std.proofs.Common.{◌≡◌, ℕ, List, ◌∷◌, [], Some, None, map, refl, sym, ap, subst, ◌∙◌}
use Rattle.std.specs.Map.{lookup, set_value}
use Rattle.std.specs.Option.{option_copied_mut}
use Rattle.hub_tables.specs.declared.change.Change.TheVariants.{SetLine}
use Rattle.hub_order_lines.specs.Book.{Orders}
use Rattle.hub_order_lines.specs.KnownOrders.{Follows}
use Rattle.hub_order_lines.specs.declared.known_orders.KnownOrder.{KnownOrder}
use Rattle.hub_order_lines.proofs.Entries.{shown, at}
use Rattle.hub_order_lines.proofs.Follow.{not_kept, kept_set}
use Rattle.hub_order_lines.proofs.known_orders.KnownOrders.set.Goals as goal
use Rattle.hub_order_lines.proofs.known_orders.KnownOrders.set.Goals.{in-Some, in-None}

pub returns : goal.returns
returns c is_true =
    let es = c.self.inside.orders.entries in
    let row = c.args.row.now in
    let number_is = c.as_slice.ensures in
    elim c.match-get_mut.branch [
      | in-Some w ↦
          let known : KnownOrder = w.in-Some.known.now in
          let set : KnownOrder = record { is_there = known.is_there; lines = w.set.new.self } in
          let new = (c.get_mut.follows.lender set).entries in
          let found : lookup (at row.number) es ≡ Some known =
          subst (λ (number : List ℕ). lookup (at number) es ≡ Some known) number_is
          (sym c.get_mut.ensures.value ∙ ap option_copied_mut w.in-Some.is) in
          let becomes : new ≡ set_value (at row.number) es set =
          subst (λ (number : List ℕ). new ≡ set_value (at number) es set) number_is (c.get_mut.follows.holds set).0 in
          subst (λ (orders : Orders). Follows (SetLine row ∷ []) orders (map shown c.match-get_mut.self-inside.orders.entries))
          c.self.view_is
          (subst (λ inside. Follows (SetLine row ∷ []) (map shown es) (map shown inside.orders.entries)) (sym w.self-inside-is)
          (kept_set row es known set new found becomes refl (w.set.ensures.set (sym w.result-is ∙ is_true)) w.set.ensures.adds_up))
      | in-None w ↦
          let none : lookup (at row.number) es ≡ None =
          subst (λ (number : List ℕ). lookup (at number) es ≡ None) number_is
          (sym c.get_mut.ensures.value ∙ ap option_copied_mut w.in-None.is) in
          subst (λ (orders : Orders). Follows (SetLine row ∷ []) orders (map shown c.match-get_mut.self-inside.orders.entries))
          c.self.view_is
          (subst (λ inside. Follows (SetLine row ∷ []) (map shown es) (map shown inside.orders.entries)) (sym w.self-inside-is)
          (subst (λ orders. Follows (SetLine row ∷ []) (map shown es) (map shown orders.entries))
          (sym c.get_mut.follows.holds-at-none) (not_kept row es none)))
    ]
