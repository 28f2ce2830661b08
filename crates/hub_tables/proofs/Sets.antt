-- Shows that a set of rows has exactly one list with rising keys.
use Rattle.std.proofs.Common.{◌≡◌, inl, inr, List, [], ◌∷◌, refl, sym, ◌∙◌, ap, subst}
use Rattle.std.specs.declared.cmp.Ordering.{Ordering}
use Rattle.std.specs.declared.cmp.Ordering.TheVariants.{Less, Equal, Greater}
use Rattle.std.specs.Ordering.{ordering_reverse}
use Rattle.std.specs.Cmp.{IsTotalOrder}
use Rattle.std.proofs.lemmas.Cmp.{tied_itself}
use Rattle.hub_tables.specs.Tables.{Tables, Ordered}
use Rattle.hub_parties.specs.KeyOrder.{Rises}
use Rattle.hub_tables.specs.Sets.{Has, SameSet, Rising, SameRows}
use Rattle.hub_tables.proofs.KeyOrder.{in_order_rising}
use Rattle.hub_tables.proofs.Members.{all_of}
use Rattle.hub_tables.proofs.KindOrders.{hub_total, key_total, prefix_total}
use Rattle.hub_tables.proofs.KindOrders.{order_total, line_total, advice_total, pallet_total, content_total, receipt_total}
use Rattle.hub_tables.proofs.KindOrders.{remembered_total, mail_total}

module _ {X : Type 0} {cmp : X → X → Ordering} (total : IsTotalOrder cmp) where
  not_below_itself : (x : X) → cmp x x ≡ Less → ⊥
  not_below_itself x h = let e = tied_itself total x in let both : Less ≡ Equal = sym h ∙ e in cc

  not_both_below : (x y : X) → cmp x y ≡ Less → cmp y x ≡ Less → ⊥
  not_both_below x y h g = let both : Less ≡ Greater = sym h ∙ total.antisymm x y ∙ ap ordering_reverse g in cc

  -- rising lists with the same rows are equal
  pub one_list : (xs ys : List X)
      → Rises cmp xs
      → Rises cmp ys
      → ((x : X) → Has xs x → Has ys x)
      → ((x : X) → Has ys x → Has xs x)
      → xs ≡ ys
  one_list [] [] a b f g = refl
  one_list [] (y ∷ ys) a b f g = absurd (g y (inl refl))
  one_list (x ∷ xs) [] a b f g = absurd (f x (inl refl))
  one_list (x ∷ xs) (y ∷ ys) a b f g =
      let heads : x ≡ y = elim (f x (inl refl)) [
        | inl e ↦ e
        | inr h ↦ elim (g y (inl refl)) [
          | inl e ↦ sym e
          | inr k ↦ absurd (not_both_below x y (all_of (λ z. cmp x z ≡ Less) xs a.0 y k) (all_of (λ z. cmp y z ≡ Less) ys b.0 x h))
        ]
      ] in
      let tails : xs ≡ ys = one_list xs ys a.1 b.1
      (λ z h. elim (f z (inr h)) [
        | inl e ↦ absurd (not_below_itself x
            (subst (λ v. cmp x v ≡ Less) (e ∙ sym heads) (all_of (λ z. cmp x z ≡ Less) xs a.0 z h)))
        | inr k ↦ k
      ])
      (λ z h. elim (g z (inr h)) [
        | inl e ↦ absurd
            (not_below_itself y (subst (λ v. cmp y v ≡ Less) (e ∙ heads) (all_of (λ z. cmp y z ≡ Less) ys b.0 z h)))
        | inr k ↦ k
      ]) in
      λ i. heads i ∷ tails i

  one_set : (xs ys : List X) → Rises cmp xs → Rises cmp ys → SameSet xs ys → xs ≡ ys
  one_set xs ys a b s = one_list xs ys a b s.there s.back

pub rows_are_one : (t u : Tables) → Rising t → Rising u → SameRows t u → t ≡ u
rows_are_one t u a b s =
    let hubs = one_set hub_total t.hubs u.hubs a.hubs b.hubs s.hubs in
    let keys = one_set key_total t.keys u.keys a.keys b.keys s.keys in
    let prefixes = one_set prefix_total t.prefixes u.prefixes a.prefixes b.prefixes s.prefixes in
    let orders = one_set order_total t.orders u.orders a.orders b.orders s.orders in
    let lines = one_set line_total t.lines u.lines a.lines b.lines s.lines in
    let advices = one_set advice_total t.advices u.advices a.advices b.advices s.advices in
    let pallets = one_set pallet_total t.pallets u.pallets a.pallets b.pallets s.pallets in
    let contents = one_set content_total t.contents u.contents a.contents b.contents s.contents in
    let receipts = one_set receipt_total t.receipts u.receipts a.receipts b.receipts s.receipts in
    let remembered = one_set remembered_total t.remembered u.remembered a.remembered b.remembered s.remembered in
    let mail = one_set mail_total t.mail u.mail a.mail b.mail s.mail in
    λ i. record {
      hubs = hubs i;
      keys = keys i;
      prefixes = prefixes i;
      orders = orders i;
      lines = lines i;
      advices = advices i;
      pallets = pallets i;
      contents = contents i;
      receipts = receipts i;
      remembered = remembered i;
      mail = mail i;
    }

-- rising rows are in order
pub rising_ordered : (t : Tables) → Rising t → Ordered t
rising_ordered t rising = record {
  hubs = in_order_rising _ t.hubs rising.hubs;
  keys = in_order_rising _ t.keys rising.keys;
  prefixes = in_order_rising _ t.prefixes rising.prefixes;
  orders = in_order_rising _ t.orders rising.orders;
  lines = in_order_rising _ t.lines rising.lines;
  advices = in_order_rising _ t.advices rising.advices;
  pallets = in_order_rising _ t.pallets rising.pallets;
  contents = in_order_rising _ t.contents rising.contents;
  receipts = in_order_rising _ t.receipts rising.receipts;
  remembered = in_order_rising _ t.remembered rising.remembered;
  mail = in_order_rising _ t.mail rising.mail;
}
