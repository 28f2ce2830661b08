-- Shows that a map knows each order once, and that the lines of an order rise.
use Rattle.std.proofs.Common.{◌≡◌, ℕ, suc, slice_get, true, List, [], ◌∷◌, ◌++◌, map, Option, Some, None, refl, sym, ap, subst, ◌∙◌, Vec}
use Rattle.std.specs.BTreeMap.{BTreeMap, IsOrdered}
use Rattle.std.specs.List.{AllByRecursion}
use Rattle.std.specs.Map.{lookup}
use Rattle.std.specs.Cmp.{IsTotalOrder}
use Rattle.std.proofs.lemmas.List.{append_assoc}
use Rattle.std.proofs.lemmas.Cmp.{on_total, nat_list_cmp_total}
use Rattle.std.proofs.lemmas.List.Elements.{recursion_from_All, filter_passes}
use Rattle.std.proofs.lemmas.Map.Entries.{btree_map_get_place}
use Rattle.hub_parties.specs.KeyOrder.{Rises}
use Rattle.hub_tables.proofs.KeyOrder.{rises_filter}
use Rattle.hub_tables.proofs.Lists.{all_weaker, same_is}
use Rattle.hub_tables.specs.Rows.{same}
use Rattle.hub_order_lines.specs.Book.{facts_cmp, facts_of, facts_among, lines_in}
use Rattle.hub_order_lines.specs.KnownOrders.{IsKnownOnce, AreKnownOnce}
use Rattle.hub_order_lines.specs.declared.facts.LineFacts.{LineFacts}
use Rattle.hub_order_lines.specs.declared.known_orders.KnownOrder.{KnownOrder}
use Rattle.hub_order_lines.proofs.Entries.{OrderEntry, shown, at, key_cmp, lines_are}

own_lines : (order : List ℕ) (lines : List LineFacts) → AllByRecursion (λ line. line.row.number ≡ order) (facts_of lines order)
own_lines order lines =
    all_weaker (λ line. same line.row.number order ≡ true) (λ line. line.row.number ≡ order)
    (λ line is. same_is line.row.number order is) (facts_of lines order)
    (recursion_from_All (λ line. same line.row.number order ≡ true) (facts_of lines order)
    (filter_passes (λ line. same line.row.number order) lines))

in_between : {X : Type 0} (before : List X) (x : X) (after : List X) → (i : ℕ) × (slice_get (before ++ x ∷ after) i ≡ Some x)
in_between [] x after = (0, refl)
in_between (y ∷ before) x after = let rest = in_between before x after in (suc rest.0, rest.1)

module _ {Z : Type 0} where
  keys_total : IsTotalOrder (key_cmp {Z = Z})
  keys_total = on_total (λ key. key.items) nat_list_cmp_total

  module _ (orders : BTreeMap (Vec ℕ Z) KnownOrder) (ordered : IsOrdered key_cmp orders) where
    -- each of the remaining entries is found by its key
    each_once : (before after : List (OrderEntry Z)) → orders.entries ≡ before ++ after
        → AllByRecursion (IsKnownOnce (map shown orders.entries)) (map shown after)
    each_once before [] parts = tt
    each_once before (e ∷ after) parts =
        let place = in_between before e after in
        let found : lookup (at e.0.items) orders.entries ≡ Some e.1 =
        btree_map_get_place keys_total orders place.0 e.0 e.1 ordered (ap (λ es. slice_get es place.0) parts ∙ place.1) in (
          record {
            once = lines_are e.0.items orders.entries (Some e.1) found;
            own = own_lines e.0.items e.1.lines;
          },
          each_once (before ++ e ∷ []) after (parts ∙ sym (append_assoc before (e ∷ []) after)),
        )

  pub once : (orders : BTreeMap (Vec ℕ Z) KnownOrder) → IsOrdered key_cmp orders → AreKnownOnce (map shown orders.entries)
  once orders ordered = each_once orders ordered [] orders.entries refl

pub lines_rise : (lines : List LineFacts) (order : List ℕ) → Rises facts_cmp lines → Rises facts_cmp (facts_of lines order)
lines_rise lines order rise = rises_filter facts_cmp (λ line. same line.row.number order) lines rise

-- the lines known of an order rise
pub known_rise : {Z : Type 0} (order : List ℕ) (es : List (OrderEntry Z)) (known : KnownOrder)
    → lookup (at order) es ≡ Some known
    → Rises facts_cmp known.lines
    → Rises facts_cmp (lines_in (map shown es) order)
known_rise order es known found rise =
    subst (Rises facts_cmp) (sym (lines_are order es (Some known) found)) (lines_rise known.lines order rise)

pub none_among : (number : Option ℕ) (gtin : List ℕ) → facts_among [] number gtin ≡ None
none_among None gtin = refl
none_among (Some number) gtin = refl
