-- Shows that an index follows the rows that it lists.
use Rattle.std.proofs.Common.{◌≡◌, ℕ, suc, ◌+◌, Bool, true, false, cond, not, ◌||◌, inl, inr, List, [], ◌∷◌, filter}
use Rattle.std.proofs.Common.{find, map, slice_get, Some, refl, sym, ap, subst, ◌∙◌, if◌then◌else◌, arith}
use Rattle.std.specs.List.{AllByRecursion, list_any, remove, filter_map, cons_option}
use Rattle.std.specs.declared.cmp.Ordering.{Ordering}
use Rattle.std.specs.declared.cmp.Ordering.TheVariants.{Less, Equal, Greater}
use Rattle.std.specs.Ordering.{is_eq, is_gt, is_lt}
use Rattle.std.specs.Cmp.{IsTotalOrder, Equal-is}
use Rattle.std.proofs.lemmas.Cmp.{tied_itself}
use Rattle.std.proofs.lemmas.Bool.{not-true}
use Rattle.hub_parties.specs.KeyOrder.{InOrder, put, replace, Rises}
use Rattle.hub_tables.specs.Rows.{same}
use Rattle.hub_tables.proofs.KeyOrder.{filter_put_in, filter_put_out, in_order_filter, put_first, rises_filter}
use Rattle.hub_tables.proofs.Lists.{decide, same_is, same_if, all_filter, all_weaker, all_passes, filter_alike}
use Rattle.hub_tables.proofs.Lists.{filter_none}
use Rattle.trial_lists.specs.Index.{IsIndex}
use Rattle.trial_lists.proofs.Filters.{filter_of_map, any_none, none_any, any_among, any_of_map}
use Rattle.hub_tables.proofs.Filters.{filter_swap}
use Rattle.hub_tables.proofs.Setting.{has, below, rises_put, all_above, after_equal, none_above}

-- Rising rows.

module _ {X : Type 0} (cmp : X → X → Ordering) where
  pub rises_in_order : (xs : List X) → Rises cmp xs → InOrder cmp xs
  rises_in_order [] rises = tt
  rises_in_order (x ∷ xs) rises = (
    all_weaker (λ y. cmp x y ≡ Less) (λ y. is_gt (cmp x y) ≡ false)
        (λ y less. ap is_gt less) xs rises.0,
    rises_in_order xs rises.1,
  )

module _ {X : Type 0} {cmp : X → X → Ordering} (total : IsTotalOrder cmp) (r : X) where
  abbrev pub at : X → Bool
  at x = is_eq (cmp x r)

  abbrev pub but : List X → List X
  but xs = filter (λ x. not (is_eq (cmp x r))) xs

  keeps_others : (x : X) (xs : List X) → at x ≡ false → but (x ∷ xs) ≡ x ∷ but xs
  keeps_others x xs e = ap (λ v. cond (not v) (x ∷ but xs) (but xs)) e

  leaves_out : (x : X) (xs : List X) → at x ≡ true → but (x ∷ xs) ≡ but xs
  leaves_out x xs e = ap (λ v. cond (not v) (x ∷ but xs) (but xs)) e

  pub all_kept : (xs : List X) → has total r xs ≡ false → but xs ≡ xs
  all_kept [] none = refl
  all_kept (x ∷ xs) none = let all = none_any at (x ∷ xs) none in keeps_others x xs all.0
      ∙ ap (λ ys. x ∷ ys) (all_kept xs (any_none at xs all.1))

  greater_kept : (xs : List X) → AllByRecursion (λ y. cmp y r ≡ Greater) xs → but xs ≡ xs
  greater_kept [] all = refl
  greater_kept (x ∷ xs) all = keeps_others x xs (ap is_eq all.0) ∙ ap (λ ys. x ∷ ys) (greater_kept xs all.1)

  pub none_left : (xs : List X) → has total r (but xs) ≡ false
  none_left xs = any_none at (but xs)
      (all_weaker (λ x. not (at x) ≡ true) (λ x. at x ≡ false) (λ x h. not-true (at x) h) (but xs)
      (all_passes (λ x. not (at x)) xs))

  not_replaced : (xs : List X) → AllByRecursion (λ y. cmp y r ≡ Greater) xs → replace at r xs ≡ xs
  not_replaced [] all = refl
  not_replaced (x ∷ xs) all =
      ap (λ v. cond v r x ∷ replace at r xs) (ap is_eq all.0) ∙ ap (λ ys. x ∷ ys) (not_replaced xs all.1)

  -- replacing a row is removing it and inserting the new one
  pub replace_is_put : (xs : List X) → Rises cmp xs → has total r xs ≡ true → replace at r xs ≡ put cmp r (but xs)
  replace_is_put [] rises there = cc
  replace_is_put (x ∷ xs) rises there =
      elim (cmp x r) as (λ o. cmp x r ≡ o → (is_eq o || has total r xs) ≡ true →
      cond (is_eq o) r x ∷ replace at r xs ≡ put cmp r (cond (not (is_eq o)) (x ∷ but xs) (but xs))) [
        | Less ↦ λ e there. ap (λ ys. x ∷ ys) (replace_is_put xs rises.1 there)
            ∙ ap (λ o. cond (is_gt o) (r ∷ x ∷ but xs) (x ∷ put cmp r (but xs))) (sym e)
        | Equal ↦ λ e there.
            let all = after_equal total r x xs e rises.0 in
            let first = put_first cmp xs r
            (all_weaker (λ y. cmp y r ≡ Greater) (λ y. is_gt (cmp y r) ≡ true) (λ y g. ap is_gt g) xs all) in
            ap (λ ys. r ∷ ys) (not_replaced xs all) ∙ sym (ap (put cmp r) (greater_kept xs all) ∙ first)
        | Greater ↦ λ e there. let none =
            none_above total r xs (all_above total r x xs e rises.0) in absurd (cc (none, there))
      ] refl there

  -- the row that has the key is the only one
  pub only_one : (old : X) (xs : List X) → Rises cmp xs → slice_get (filter at xs) 0 ≡ Some old →
      (at old ≡ true) × AllByRecursion (λ x. at x ≡ true → x ≡ old) xs
  only_one old [] rises first = cc
  only_one old (x ∷ xs) rises first =
      elim (cmp x r) as (λ o. cmp x r ≡ o → slice_get (cond (is_eq o) (x ∷ filter at xs) (filter at xs)) 0 ≡ Some old →
      (at old ≡ true) × ((at x ≡ true → x ≡ old) × AllByRecursion (λ x. at x ≡ true → x ≡ old) xs)) [
        | Less ↦ λ e f. let rest = only_one old xs rises.1 f in (
          rest.0,
          (
            λ h. let no : true ≡ false = sym h
                ∙ ap is_eq e in absurd (cc (no)),
            rest.1,
          ),
        )
        | Equal ↦ λ e f.
            let is : x ≡ old = cc in
            let all = after_equal total r x xs e rises.0 in (
              subst (λ z. at z ≡ true) is (ap is_eq e),
              (
                λ h. is,
                all_weaker (λ y. cmp y r ≡ Greater) (λ y. at y ≡ true →
                    y ≡ old) (λ y g h. let no : true ≡ false = sym h ∙ ap is_eq g in absurd (cc (no))) xs all,
              ),
            )
        | Greater ↦ λ e f.
            let all = all_above total r x xs e rises.0 in
            let none = filter_none at xs
            (all_weaker (λ y. cmp y r ≡ Greater) (λ y. at y ≡ false) (λ y g. ap is_eq g) xs all) in
            let no = sym (ap (λ ys. slice_get ys 0) none) ∙ f in absurd (cc (no))
      ] refl first

  pub removed : (xs : List X) → Rises cmp xs → has total r xs ≡ true → remove xs (below total r xs) ≡ but xs
  removed [] rises there = cc
  removed (x ∷ xs) rises there =
      let more : 1 + below total r xs ≡ suc (below total r xs) = omega arith in
      elim (cmp x r) as (λ o. cmp x r ≡ o → (is_eq o || has total r xs) ≡ true →
      remove (x ∷ xs) (cond (is_lt o) (1 + below total r xs) 0) ≡ cond (not (is_eq o)) (x ∷ but xs) (but xs)) [
        | Less ↦ λ e there. ap (remove (x ∷ xs)) more ∙ ap (λ ys. x ∷ ys) (removed xs rises.1 there)
        | Equal ↦ λ e there. sym (greater_kept xs (after_equal total r x xs e rises.0))
        | Greater ↦ λ e there. let none =
            none_above total r xs (all_above total r x xs e rises.0) in absurd (cc (none, there))
      ] refl there

module _ {X K : Type 0} {cmp : X → X → Ordering} {kcmp : K → K → Ordering} (total : IsTotalOrder cmp)
    (ktotal : IsTotalOrder kcmp)
    (supplier : K → List ℕ) (key : X → K) (listed : X → Bool)
    (tied : (a b : K) → is_eq (kcmp a b) ≡ true → supplier a ≡ supplier b)
    (alike : (x y : X) → supplier (key x) ≡ supplier (key y) → kcmp (key x) (key y) ≡ cmp x y) where
  abbrev of : List ℕ → K → Bool
  of gln k = same (supplier k) gln

  abbrev from : List ℕ → X → Bool
  from gln x = same (supplier (key x)) gln

  abbrev Is : List K → List X → Type 0
  Is index rows = IsIndex kcmp supplier key listed index rows

  one_key : (x y : X) → is_eq (kcmp (key x) (key y)) ≡ true → is_eq (cmp x y) ≡ true
  one_key x y h = ap is_eq (sym (alike x y (tied (key x) (key y) h))) ∙ h

  pub not_listed : (r : X) (index : List K) (rows : List X) → Is index rows → has total r rows ≡ false → has ktotal
      (key r) index ≡ false
  not_listed r index rows is new =
      let gln = supplier (key r) in
      let ours : List X = filter listed (filter (from gln) rows) in
      let each = all_weaker (λ x. is_eq (cmp x r) ≡ false) (λ x. is_eq (kcmp (key x) (key r)) ≡ false) other rows
      (none_any (λ x. is_eq
      (cmp x r)) rows new) in
      sym (any_among (of gln) (λ k. is_eq (kcmp k (key r))) (λ k h. same_if (supplier k) gln (tied k (key r) h)) index)
      ∙ ap (list_any (λ k. is_eq (kcmp k (key r)))) (is.each gln)
      ∙ any_of_map (λ k. is_eq (kcmp k (key r))) key ours
      ∙ any_none (λ x. is_eq (kcmp (key x) (key r))) ours
      (all_filter (λ x. is_eq (kcmp (key x) (key r)) ≡ false) listed (filter
      (from gln) rows) (all_filter (λ x. is_eq (kcmp (key x) (key r)) ≡ false) (from gln) rows each))
    where
      other : (x : X) → is_eq (cmp x r) ≡ false → is_eq (kcmp (key x) (key r)) ≡ false
      other x e = elim (decide (is_eq (kcmp (key x) (key r)))) [
        | inl h ↦ let no : true ≡ false = sym (one_key x r h)
            ∙ e in absurd (cc (no))
        | inr h ↦ h
      ]

  map_put : (r : X) (xs : List X) → AllByRecursion (λ x. kcmp (key x) (key r) ≡ cmp x r) xs →
      map key (put cmp r xs) ≡ put kcmp (key r) (map key xs)
  map_put r [] all = refl
  map_put r (x ∷ xs) all =
      elim (is_gt (cmp x r)) as
      (λ v. map key (cond v (r ∷ x ∷ xs) (x ∷ put cmp r xs)) ≡ cond v (key r ∷ key x ∷ map key xs)
      (key x ∷ put kcmp (key r) (map key xs))) [
        | true ↦ refl
        | false ↦ ap (λ ks. key x ∷ ks) (map_put r xs all.1)
      ]
      ∙ ap (λ o. cond (is_gt o) (key r ∷ key x ∷ map key xs) (key x ∷ put kcmp (key r) (map key xs))) (sym all.0)

  -- A new row.

  listed_put : (r : X) (index : List K) (rows : List X) → Is index rows → Rises cmp rows → has total r rows ≡ false
      → listed r ≡ true →
      Is (put kcmp (key r) index) (put cmp r rows)
  listed_put r index rows is rises new is_listed = record {
    rises = rises_put ktotal (key r) index is.rises (not_listed r index rows is new);
    each = λ gln.
        let ours : List X = filter listed (filter (from gln) rows) in
        elim (decide (of gln (key r))) [
          | inl e ↦
              let all = all_weaker (λ x. from gln x ≡ true) (λ x. kcmp (key x) (key r) ≡ cmp x r)
              (λ x h. alike x r (same_is (supplier (key x)) gln h ∙ sym (same_is (supplier (key r)) gln e))) ours
              (all_filter (λ x. from gln x ≡ true) listed (filter (from gln) rows) (all_passes (from gln) rows)) in
              filter_put_in ktotal (of gln) index (key r) (rises_in_order kcmp index is.rises) e
              ∙ ap (put kcmp (key r)) (is.each gln)
              ∙ sym (map_put r ours all)
              ∙ ap (map key) (sym (filter_put_in total listed (filter (from gln) rows) r (in_order_filter cmp
              (from gln) rows order) is_listed))
              ∙ ap (λ xs. map key (filter listed xs)) (sym (filter_put_in total (from gln) rows r order e))
          | inr e ↦ filter_put_out kcmp (of gln) index (key r) e ∙ is.each gln
              ∙ ap (λ xs. map key (filter listed xs)) (sym (filter_put_out cmp (from gln) rows r e))
        ];
  }
    where
      order : InOrder cmp rows
      order = rises_in_order cmp rows rises

  unlisted_put : (r : X) (index : List K) (rows : List X) → Is index rows → Rises cmp rows → listed r ≡ false
      → Is index (put cmp r rows)
  unlisted_put r index rows is rises not_so = record {
    rises = is.rises;
    each = λ gln. is.each gln ∙ ap (map key) (sym (elim (decide (from gln r)) [
      | inl e ↦ ap (filter listed) (filter_put_in total (from gln) rows r (rises_in_order cmp rows rises) e)
          ∙ filter_put_out cmp listed (filter (from gln) rows) r not_so
      | inr e ↦ ap (filter listed) (filter_put_out cmp (from gln) rows r e)
    ]));
  }

  abbrev with_key : X → List K → List K
  with_key r index = if listed r then put kcmp (key r) index else index

  pub put_kept : (r : X) (index : List K) (rows : List X) → Is index rows → Rises cmp rows → has total r rows ≡ false →
      Is (with_key r index) (put cmp r rows)
  put_kept r index rows is rises new = elim (listed r) as (λ v. listed r ≡ v →
      Is (cond v (put kcmp (key r) index) index) (put cmp r rows)) [
        | true ↦ λ e. listed_put r index rows is rises new e
        | false ↦ λ e. unlisted_put r index rows is rises e
      ] refl

  -- A row that is replaced.

  taken_out : (k : K) (test : X → Bool) (index : List K) (rows : List X) → Is index rows →
      AllByRecursion (λ x. is_eq (kcmp (key x) k) ≡ test x) rows →
      Is (filter (λ j. not (is_eq (kcmp j k))) index) (filter (λ x. not (test x)) rows)
  taken_out k test index rows is all = record {
    rises = rises_filter kcmp (λ j. not (is_eq (kcmp j k))) index is.rises;
    each = λ gln.
        let out : K → Bool = λ j. not (is_eq (kcmp j k)) in
        let ours : List X = filter listed (filter (from gln) rows) in
        let each = all_weaker (λ x. is_eq (kcmp (key x) k) ≡ test x) (λ x. out (key x) ≡ not (test x))
        (λ x e. ap not e) ours
        (all_filter (λ x. is_eq (kcmp (key x) k) ≡ test x) listed (filter (from gln) rows) (all_filter (λ x. is_eq (kcmp
        (key x) k) ≡ test x) (from gln) rows all)) in
        filter_swap (of gln) out index
        ∙ ap (filter out) (is.each gln)
        ∙ filter_of_map out key ours
        ∙ ap (map key) (filter_alike (λ x. out (key x)) (λ x. not (test x)) ours each
        ∙ filter_swap (λ x. not (test x)) listed (filter (from gln) rows)
        ∙ ap (filter listed) (filter_swap (λ x. not (test x)) (from gln) rows));
  }

  module _ (r old : X) (index : List K) (rows : List X) (is : Is index rows) (rises : Rises cmp rows)
      (first : slice_get (filter (λ x. is_eq (cmp x r)) rows) 0 ≡ Some old) where
    out_of_both : Is (but ktotal (key old) index) (but total r rows)
    out_of_both = taken_out (key old) (λ x. is_eq (cmp x r)) index rows is (all_weaker (λ x. is_eq (cmp x r) ≡ true →
        x ≡ old) (λ x. is_eq (kcmp (key x) (key old)) ≡ is_eq (cmp x r)) one rows only.1)
      where
        only : (is_eq (cmp old r) ≡ true) × AllByRecursion (λ x. is_eq (cmp x r) ≡ true → x ≡ old) rows
        only = only_one total r old rows rises first

        one : (x : X) → (is_eq (cmp x r) ≡ true → x ≡ old) → is_eq (kcmp (key x) (key old)) ≡ is_eq (cmp x r)
        one x f = elim (decide (is_eq (cmp x r))) [
          | inl e ↦ ap (λ z. is_eq (kcmp (key z) (key old))) (f e) ∙ ap is_eq (tied_itself ktotal (key old)) ∙ sym e
          | inr e ↦ elim (decide (is_eq (kcmp (key x) (key old)))) [
            | inl h ↦
                let equal = (Equal-is (cmp x old)).0 (one_key x old h) in
                let no : false ≡ true = sym e ∙ ap is_eq (total.congr x old r equal) ∙ only.0 in absurd (cc (no))
            | inr h ↦ h ∙ sym e
          ]
        ]

    there : has total r rows ≡ true
    there = elim (decide (has total r rows)) [
      | inl e ↦ e
      | inr e ↦ let none = filter_none (λ x. is_eq (cmp x r)) rows (none_any (λ x. is_eq (cmp x r)) rows e) in
          let no = sym (ap
          (λ xs. slice_get xs 0) none) ∙ first in absurd (cc (no))
    ]

    anew : put cmp r (but total r rows) ≡ replace (λ x. is_eq (cmp x r)) r rows
    anew = sym (replace_is_put total r rows rises there)

    rest_rises : Rises cmp (but total r rows)
    rest_rises = rises_filter cmp (λ x. not (is_eq (cmp x r))) rows rises

    pub key_is_new : has ktotal (key r) (but ktotal (key old) index) ≡ false
    key_is_new = not_listed r (but ktotal (key old) index) (but total r rows) out_of_both (none_left total r rows)

    pub set_kept : Is (with_key r (but ktotal (key old) index)) (replace (λ x. is_eq (cmp x r)) r rows)
    set_kept = subst (Is (with_key r (but ktotal (key old) index))) anew (put_kept r (but ktotal (key old) index)
        (but total r rows) out_of_both rest_rises (none_left total r rows))

-- Rows that are found by their keys.

module _ {X K : Type 0} {cmp : X → X → Ordering} (total : IsTotalOrder cmp) (key : X → K) (wanted : K → X → Bool)
    (exact : (x y : X) →
    is_eq (cmp y x) ≡ wanted (key x) y) where
  abbrev pub Again : List X → X → Type 0
  Again rows x = find (wanted (key x)) rows ≡ Some x

  later : (y : X) (ys xs : List X) → AllByRecursion (λ x. cmp y x ≡ Less) xs → AllByRecursion (Again ys) xs →
      AllByRecursion (Again (y ∷ ys)) xs
  later y ys [] below again = tt
  later y ys (x ∷ xs) below again = (
    ap (λ v. cond v (Some y) (find (wanted (key x)) ys)) (sym (exact x y) ∙ ap is_eq below.0)
        ∙ again.0,
    later y ys xs below.1 again.1,
  )

  pub all_again : (rows : List X) → Rises cmp rows → AllByRecursion (Again rows) rows
  all_again [] rises = tt
  all_again (x ∷ xs) rises = (
    ap (λ v. cond v (Some x) (find (wanted (key x)) xs)) (sym (exact x x)
        ∙ ap is_eq (tied_itself total x)),
    later x xs xs rises.0 (all_again xs rises.1),
  )

  pub found_again : (rows xs : List X) → AllByRecursion (Again rows) xs → filter_map (λ k. find (wanted k) rows)
      (map key xs) ≡ xs
  found_again rows [] again = refl
  found_again rows (x ∷ xs) again =
      ap (λ one. cons_option one (filter_map (λ k. find (wanted k) rows) (map key xs))) again.0
      ∙ ap (λ ys. x ∷ ys) (found_again rows xs again.1)
