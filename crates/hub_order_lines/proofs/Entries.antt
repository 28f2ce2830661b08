-- Shows the orders of a map as a list.
use Rattle.std.proofs.Common.{◌≡◌, ℕ, Bool, true, false, cond, List, [], ◌∷◌, map, find, Option, Some, None, option_map, is_some}
use Rattle.std.proofs.Common.{refl, sym, ap, ◌∙◌, inl, inr, Vec}
use Rattle.std.specs.BTreeMap.{insert_entry, is_at}
use Rattle.std.specs.Map.{lookup, remove_entry, set_value}
use Rattle.std.specs.Option.{unwrap_or}
use Rattle.std.specs.declared.cmp.Ordering.{Ordering}
use Rattle.std.specs.declared.cmp.Ordering.TheVariants.{Less, Equal, Greater}
use Rattle.std.specs.Ordering.{is_eq, match_ordering}
use Rattle.std.proofs.lemmas.Map.Text.{is_eq-slice_cmp}
use Rattle.std.proofs.lemmas.Option.{same_Some}
use Rattle.hub_parties.specs.KeyOrder.{bytes_cmp}
use Rattle.hub_tables.specs.Rows.{same}
use Rattle.hub_tables.proofs.Lists.{same_is, same_if, decide}
use Rattle.hub_order_lines.specs.Book.{order_in, has_order, lines_in, facts_of}
use Rattle.hub_order_lines.specs.declared.facts.LineFacts.{LineFacts}
use Rattle.hub_order_lines.specs.declared.known_orders.KnownOrder.{KnownOrder}

-- what is known of an order, as contracts see it
abbrev pub seen : List ℕ → KnownOrder → Bool × List LineFacts
seen order known = (known.is_there, facts_of known.lines order)

abbrev pub OrderEntry : Type 0 → Type 0
OrderEntry Z = Vec ℕ Z × KnownOrder

module _ {Z : Type 0} where
  -- an entry, as contracts see it
  abbrev pub shown : OrderEntry Z → List ℕ × (Bool × List LineFacts)
  shown e = (e.0.items, seen e.0.items e.1)

  -- the test that searches for an order
  abbrev pub at : List ℕ → Vec ℕ Z → Bool
  at order = is_at (λ key. bytes_cmp order key.items)

  pub at_is : (order : List ℕ) (key : Vec ℕ Z) → at order key ≡ same order key.items
  at_is order key = is_eq-slice_cmp order key.items

  pub look : (order : List ℕ) (es : List (OrderEntry Z)) → order_in (map shown es) order ≡ option_map (seen order) (lookup (at order) es)
  look order [] = refl
  look order (e ∷ es) =
      let rest = look order es in
      elim (decide (same order e.0.items)) [
        | inl its ↦
            let number : order ≡ e.0.items = same_is order e.0.items its in
            ap (λ (v : Bool). option_map (λ (known : List ℕ × (Bool × List LineFacts)). known.1)
            (cond v (Some (shown e)) (find (λ known. same order known.0) (map shown es)))) its
            ∙ ap (λ n. Some (e.1.is_there, facts_of e.1.lines n)) (sym number)
            ∙ sym (ap (λ (v : Bool). option_map (seen order) (cond v (Some e.1) (lookup (at order) es))) (at_is order e.0 ∙ its))
        | inr other ↦
            ap (λ (v : Bool). option_map (λ (known : List ℕ × (Bool × List LineFacts)). known.1)
            (cond v (Some (shown e)) (find (λ known. same order known.0) (map shown es)))) other
            ∙ rest
            ∙ sym (ap (λ (v : Bool). option_map (seen order) (cond v (Some e.1) (lookup (at order) es))) (at_is order e.0 ∙ other))
      ]

  -- what the search finds
  pub found_is : (order : List ℕ) (es : List (OrderEntry Z)) (found : Option KnownOrder)
      → lookup (at order) es ≡ found
      → order_in (map shown es) order ≡ option_map (seen order) found
  found_is order es found is = look order es ∙ ap (option_map (seen order)) is

  pub kept_is : (order : List ℕ) (es : List (OrderEntry Z)) → is_some (order_in (map shown es) order) ≡ is_some (lookup (at order) es)
  kept_is order es = ap is_some (look order es) ∙ by (lookup (at order) es)
    where
      by : (found : Option KnownOrder) → is_some (option_map (seen order) found) ≡ is_some found
      by None = refl
      by (Some known) = refl

  pub has_is : (order : List ℕ) (es : List (OrderEntry Z)) (found : Option KnownOrder)
      → lookup (at order) es ≡ found
      → has_order (map shown es) order ≡ unwrap_or (option_map (λ known. known.is_there) found) false
  has_is order es found is =
      ap (λ o. unwrap_or (option_map (λ (known : Bool × List LineFacts). known.0) o) false) (found_is order es found is) ∙ by found
    where
      by : (found : Option KnownOrder)
          → unwrap_or (option_map (λ (known : Bool × List LineFacts). known.0) (option_map (seen order) found)) false
          ≡ unwrap_or (option_map (λ (known : KnownOrder). known.is_there) found) false
      by None = refl
      by (Some known) = refl

  pub lines_are : (order : List ℕ) (es : List (OrderEntry Z)) (found : Option KnownOrder)
      → lookup (at order) es ≡ found
      → lines_in (map shown es) order ≡ unwrap_or (option_map (λ known. facts_of known.lines order) found) []
  lines_are order es found is =
      ap (λ o. unwrap_or (option_map (λ (known : Bool × List LineFacts). known.1) o) []) (found_is order es found is) ∙ by found
    where
      by : (found : Option KnownOrder)
          → unwrap_or (option_map (λ (known : Bool × List LineFacts). known.1) (option_map (seen order) found)) []
          ≡ unwrap_or (option_map (λ (known : KnownOrder). facts_of known.lines order) found) []
      by None = refl
      by (Some known) = refl

  abbrev pub key_cmp : Vec ℕ Z → Vec ℕ Z → Ordering
  key_cmp a b = bytes_cmp a.items b.items

  -- an order that is added is found, and the others stay the same
  module _ (key : Vec ℕ Z) (known : KnownOrder) (order : List ℕ) where
    abbrev with_it : List (OrderEntry Z) → Option KnownOrder
    with_it es = cond (same order key.items) (Some known) (lookup (at order) es)

    equal_items : (other : Vec ℕ Z) → key_cmp key other ≡ Equal → key.items ≡ other.items
    equal_items other tied = same_is key.items other.items (sym (is_eq-slice_cmp key.items other.items) ∙ ap is_eq tied)

    not_both : (other : Vec ℕ Z) → key_cmp key other ≡ Greater → same order other.items ≡ true → same order key.items ≡ false
    not_both other above its =
        elim (decide (same order key.items)) [
          | inl also ↦
              let same_items : key.items ≡ other.items =
              sym (same_is order key.items also) ∙ same_is order other.items its in
              let tied : is_eq (key_cmp key other) ≡ true =
              is_eq-slice_cmp key.items other.items ∙ same_if key.items other.items same_items in
              absurd (cc)
          | inr apart ↦ apart
        ]

    put_found : (es : List (OrderEntry Z)) → lookup (at order) (insert_entry key_cmp es key known) ≡ with_it es
    put_found [] = ap (λ (v : Bool). cond v (Some known) None) (at_is order key)
    put_found (e ∷ es) =
        elim (key_cmp key e.0) as (λ o. key_cmp key e.0 ≡ o
        → lookup (at order) (match_ordering o ((key, known) ∷ e ∷ es) ((e.0, known) ∷ es) (e ∷ insert_entry key_cmp es key known))
        ≡ with_it (e ∷ es)) [
          | Less ↦ λ below. ap (λ (v : Bool). cond v (Some known) (lookup (at order) (e ∷ es))) (at_is order key)
          | Equal ↦ λ tied.
              let one : at order e.0 ≡ same order key.items =
              at_is order e.0 ∙ ap (same order) (sym (equal_items e.0 tied)) in
              ap (λ (v : Bool). cond v (Some known) (lookup (at order) es)) one
              ∙ twice (same order key.items) (Some e.1) (lookup (at order) es)
              ∙ ap (λ (v : Bool). cond (same order key.items) (Some known) (cond v (Some e.1) (lookup (at order) es))) (sym one)
          | Greater ↦ λ above.
              elim (decide (same order e.0.items)) [
                | inl its ↦
                    ap (λ (v : Bool). cond v (Some e.1) (lookup (at order) (insert_entry key_cmp es key known))) (at_is order e.0 ∙ its)
                    ∙ sym (ap (λ (v : Bool). cond v (Some known) (lookup (at order) (e ∷ es))) (not_both e.0 above its)
                    ∙ ap (λ (v : Bool). cond v (Some e.1) (lookup (at order) es)) (at_is order e.0 ∙ its))
                | inr other ↦
                    ap (λ (v : Bool). cond v (Some e.1) (lookup (at order) (insert_entry key_cmp es key known))) (at_is order e.0 ∙ other)
                    ∙ put_found es
                    ∙ ap (cond (same order key.items) (Some known))
                    (sym (ap (λ (v : Bool). cond v (Some e.1) (lookup (at order) es)) (at_is order e.0 ∙ other)))
              ]
        ] refl
      where
        twice : (v : Bool) (a b : Option KnownOrder) → cond v (Some known) b ≡ cond v (Some known) (cond v a b)
        twice true a b = refl
        twice false a b = refl

  pub put_known : (key : Vec ℕ Z) (known : KnownOrder) (order : List ℕ) (es : List (OrderEntry Z))
      → same order key.items ≡ true
      → order_in (map shown (insert_entry key_cmp es key known)) order ≡ Some (seen order known)
  put_known key known order es its =
      found_is order (insert_entry key_cmp es key known) (Some known)
      (put_found key known order es ∙ ap (λ (v : Bool). cond v (Some known) (lookup (at order) es)) its)

  pub put_others : (key : Vec ℕ Z) (known : KnownOrder) (order : List ℕ) (es : List (OrderEntry Z))
      → same order key.items ≡ false
      → order_in (map shown (insert_entry key_cmp es key known)) order ≡ order_in (map shown es) order
  put_others key known order es other =
      found_is order (insert_entry key_cmp es key known) (lookup (at order) es)
      (put_found key known order es ∙ ap (λ (v : Bool). cond v (Some known) (lookup (at order) es)) other)
      ∙ sym (look order es)

-- an order that is removed
module _ {Z : Type 0} (order other : List ℕ) (apart : same other order ≡ false) where
  remove_other : (es : List (OrderEntry Z)) → lookup (at other) (remove_entry (at order) es) ≡ lookup (at other) es
  remove_other [] = refl
  remove_other (e ∷ es) =
      let rest = remove_other es in
      elim (decide (same order e.0.items)) [
        | inl its ↦
            let here : at order e.0 ≡ true = at_is order e.0 ∙ its in
            let not_it : at other e.0 ≡ false = at_is other e.0 ∙ ap (same other) (sym (same_is order e.0.items its)) ∙ apart in
            ap (λ (v : Bool). lookup (at other) (cond v es (e ∷ remove_entry (at order) es))) here
            ∙ sym (ap (λ (v : Bool). cond v (Some e.1) (lookup (at other) es)) not_it)
        | inr another ↦
            let here : at order e.0 ≡ false = at_is order e.0 ∙ another in
            ap (λ (v : Bool). lookup (at other) (cond v es (e ∷ remove_entry (at order) es))) here
            ∙ ap (cond (at other e.0) (Some e.1)) rest
      ]

  pub removed_others : (es : List (OrderEntry Z)) → order_in (map shown (remove_entry (at order) es)) other ≡ order_in (map shown es) other
  removed_others es = found_is other (remove_entry (at order) es) (lookup (at other) es) (remove_other es) ∙ sym (look other es)

-- an order that is replaced
module _ {Z : Type 0} where
  pub set_itself : (order : List ℕ) (known : KnownOrder) (es : List (OrderEntry Z))
      → lookup (at order) es ≡ Some known
      → set_value (at order) es known ≡ es
  set_itself order known [] found = refl
  set_itself order known (e ∷ es) found =
      elim (at order e.0) as (λ v. cond v (Some e.1) (lookup (at order) es) ≡ Some known
      → cond v ((e.0, known) ∷ es) (e ∷ set_value (at order) es known) ≡ e ∷ es) [
        | true ↦ λ is. ap (λ one. (e.0, one) ∷ es) (sym (same_Some e.1 known is))
        | false ↦ λ is. ap (λ rest. e ∷ rest) (set_itself order known es is)
      ] found

  pub set_found : (order other : List ℕ) (known w : KnownOrder) (es : List (OrderEntry Z))
      → lookup (at order) es ≡ Some known
      → lookup (at other) (set_value (at order) es w) ≡ cond (same other order) (Some w) (lookup (at other) es)
  set_found order other known w [] found = absurd (cc)
  set_found order other known w (e ∷ es) found =
      elim (decide (same order e.0.items)) [
        | inl its ↦
            let here : at order e.0 ≡ true = at_is order e.0 ∙ its in
            let alike : at other e.0 ≡ same other order = at_is other e.0 ∙ ap (same other) (sym (same_is order e.0.items its)) in
            ap (λ (v : Bool). lookup (at other) (cond v ((e.0, w) ∷ es) (e ∷ set_value (at order) es w))) here
            ∙ ap (λ (v : Bool). cond v (Some w) (lookup (at other) es)) alike
            ∙ twice (same other order) (Some e.1) (lookup (at other) es)
            ∙ ap (λ (v : Bool). cond (same other order) (Some w) (cond v (Some e.1) (lookup (at other) es))) (sym alike)
        | inr apart ↦
            let here : at order e.0 ≡ false = at_is order e.0 ∙ apart in
            let later : lookup (at order) es ≡ Some known =
            sym (ap (λ (v : Bool). cond v (Some e.1) (lookup (at order) es)) here) ∙ found in
            ap (λ (v : Bool). lookup (at other) (cond v ((e.0, w) ∷ es) (e ∷ set_value (at order) es w))) here
            ∙ elim (decide (same other e.0.items)) [
              | inl theirs ↦
                  let at_theirs : at other e.0 ≡ true = at_is other e.0 ∙ theirs in
                  let not_it : same other order ≡ false = elsewhere e.0 theirs apart in
                  ap (λ (v : Bool). cond v (Some e.1) (lookup (at other) (set_value (at order) es w))) at_theirs
                  ∙ sym (ap (λ (v : Bool). cond v (Some w) (lookup (at other) (e ∷ es))) not_it
                  ∙ ap (λ (v : Bool). cond v (Some e.1) (lookup (at other) es)) at_theirs)
              | inr none ↦
                  let at_none : at other e.0 ≡ false = at_is other e.0 ∙ none in
                  ap (λ (v : Bool). cond v (Some e.1) (lookup (at other) (set_value (at order) es w))) at_none
                  ∙ set_found order other known w es later
                  ∙ ap (cond (same other order) (Some w))
                  (sym (ap (λ (v : Bool). cond v (Some e.1) (lookup (at other) es)) at_none))
            ]
      ]
    where
      twice : (v : Bool) (a b : Option KnownOrder) → cond v (Some w) b ≡ cond v (Some w) (cond v a b)
      twice true a b = refl
      twice false a b = refl

      elsewhere : (key : Vec ℕ Z) → same other key.items ≡ true → same order key.items ≡ false → same other order ≡ false
      elsewhere key theirs apart =
          elim (decide (same other order)) [
            | inl both ↦
                let also : same order key.items ≡ true =
                same_if order key.items (sym (same_is other order both) ∙ same_is other key.items theirs) in
                absurd (cc)
            | inr other ↦ other
          ]
