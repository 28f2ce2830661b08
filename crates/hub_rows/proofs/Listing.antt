-- Shows that the rows of one kind that a query finds are those that pass.
use Rattle.std.proofs.Common.{◌≡◌, Bool, true, false, cond, ◌&&◌, inl, inr, List, [], ◌∷◌, map, filter, refl, sym, ap}
use Rattle.std.proofs.Common.{ap₂, subst, ◌∙◌, true≢false}
use Rattle.std.specs.Bool.{⊤}
use Rattle.std.specs.List.{AllByRecursion, list_all}
use Rattle.std.specs.List.Sorted.{IsPermutation, IsSorted}
use Rattle.std.specs.declared.cmp.Ordering.{Ordering}
use Rattle.std.specs.Ordering.{on}
use Rattle.std.specs.Cmp.{IsTotalOrder}
use Rattle.std.proofs.lemmas.Bool.{and_parts, and_from, cases_Bool}
use Rattle.std.proofs.lemmas.List.Sorted.{IsPermutation-map, IsPermutation-sym, IsPermutation-trans}
use Rattle.sqlite_value.specs.declared.keys.Key.{Key}
use Rattle.sqlite_value.specs.Order.{Row}
use Rattle.sqlite_sql.specs.Term.{Term, eval_all}
use Rattle.sqlite_sql.specs.Query.{sort_cmp}
use Rattle.sql_rows.proofs.Answers.{every_shuffled, map_twice}
use Rattle.hub_parties.specs.KeyOrder.{Rises}
use Rattle.hub_tables.proofs.Lists.{all_filter}
use Rattle.hub_schema.specs.Rows.{in_key_order}
use Rattle.hub_schema.proofs.InKeyOrder.{listed_filter}
use Rattle.hub_rows.proofs.Finding.{passes, no_limit, FindsRows}
use Rattle.hub_rows.proofs.Counting.{all_such}
use Rattle.hub_rows.proofs.Sorting.{listed_moved, rises_filter, sorted_rising, sorted_map, sorted_alike}

pub map_same : {X Y : Type 0} (f g : X → Y) → ((x : X) → f x ≡ g x) → (xs : List X) → map f xs ≡ map g xs
map_same f g h [] = refl
map_same f g h (x ∷ xs) = ap₂ (λ y ys. y ∷ ys) (h x) (map_same f g h xs)

pub filter_shown : {X Y : Type 0} (f : X → Y) (p : Y → Bool) (q : X → Bool) (xs : List X) → AllByRecursion (λ x. q x ≡ p (f x)) xs
    → map f (filter q xs) ≡ filter p (map f xs)
filter_shown f p q [] all = refl
filter_shown f p q (x ∷ xs) all = elim (p (f x)) as (λ v. q x ≡ v
    → map f (cond (q x) (x ∷ filter q xs) (filter q xs)) ≡ cond v (f x ∷ filter p (map f xs)) (filter p (map f xs))) [
      | true ↦ λ e. rw (e, filter_shown f p q xs all.1)
      | false ↦ λ e. rw (e, filter_shown f p q xs all.1)
    ] all.0

pub all_clean : {X : Type 0} (p : X → Bool) (xs : List X) → list_all p xs ≡ true → AllByRecursion (λ x. p x ≡ true) xs
all_clean p [] h = tt
all_clean p (x ∷ xs) h = let parts = and_parts (p x) (list_all p xs) h in (parts.0, all_clean p xs parts.1)

pub clean_all : {X : Type 0} (p : X → Bool) (xs : List X) → AllByRecursion (λ x. p x ≡ true) xs → list_all p xs ≡ true
clean_all p [] h = refl
clean_all p (x ∷ xs) h = and_from (p x) (list_all p xs) h.0 (clean_all p xs h.1)

-- a property of each element that passes
pub all_then : {X : Type 0} (p : X → Bool) (P : X → Type 0) → ((x : X) → p x ≡ true → P x) → (xs : List X) → list_all p xs ≡ true
    → AllByRecursion P xs
all_then p P each xs h = all_such (λ x. p x ≡ true) P each xs (all_clean p xs h)

pub all_of_map : {X Y : Type 0} (P : Y → Type 0) (f : X → Y) (xs : List X) → AllByRecursion P (map f xs) → AllByRecursion (λ x. P (f x)) xs
all_of_map P f [] h = tt
all_of_map P f (x ∷ xs) h = (h.0, all_of_map P f xs h.1)

pub all_to_map : {X Y : Type 0} (P : Y → Type 0) (f : X → Y) (xs : List X) → AllByRecursion (λ x. P (f x)) xs → AllByRecursion P (map f xs)
all_to_map P f [] h = tt
all_to_map P f (x ∷ xs) h = (h.0, all_to_map P f xs h.1)

pub all_any : {X : Type 0} (xs : List X) → AllByRecursion (λ x. ⊤) xs
all_any [] = tt
all_any (x ∷ xs) = (tt, all_any xs)

pub all_both : {X : Type 0} (P Q : X → Type 0) (xs : List X) → AllByRecursion P xs → AllByRecursion Q xs
    → AllByRecursion (λ x. P x × Q x) xs
all_both P Q [] a b = tt
all_both P Q (x ∷ xs) a b = ((a.0, b.0), all_both P Q xs a.1 b.1)

-- A kind of rows: its order, and how a stored row is read.
module _ {X : Type 0} {cmp : X → X → Ordering} (total : IsTotalOrder cmp) (f : Row → X) (stored : List Row) (tests : List Term)
    (params : Row) (sources : List Row)
    (same : IsPermutation (filter (passes tests params) stored) sources) where
  pub sources_have : (P : Row → Type 0) → AllByRecursion P stored → AllByRecursion P sources
  sources_have P all = every_shuffled P (filter (passes tests params) stored) sources same (all_filter P (passes tests params) stored all)

  pub sources_pass : (P : Row → Type 0) → AllByRecursion P (filter (passes tests params) stored) → AllByRecursion P sources
  sources_pass P all = every_shuffled P (filter (passes tests params) stored) sources same all

  module _ (p : X → Bool) (passed : AllByRecursion (λ row. passes tests params row ≡ p (f row)) stored) where
    pub sources_moved : IsPermutation (filter p (in_key_order cmp (map f stored))) (map f sources)
    sources_moved =
        let found = filter p (map f stored) in
        let shown : IsPermutation found (map f sources) =
        subst (λ xs. IsPermutation xs (map f sources)) (filter_shown f p (passes tests params) stored passed)
        (IsPermutation-map f (filter (passes tests params) stored) sources same) in
        let moved : IsPermutation found (filter p (in_key_order cmp (map f stored))) =
        subst (IsPermutation found) (sym (listed_filter total p (map f stored))) (listed_moved cmp found) in
        IsPermutation-trans _ found _ (IsPermutation-sym found (filter p (in_key_order cmp (map f stored))) moved) shown

    pub sources_are : IsSorted cmp (map f sources) → Rises cmp (in_key_order cmp (map f stored))
        → map f sources ≡ filter p (in_key_order cmp (map f stored))
    sources_are sorted rises =
        sorted_rising total (filter p (in_key_order cmp (map f stored))) (map f sources) sources_moved
        (rises_filter cmp p (in_key_order cmp (map f stored)) rises) sorted

  pub sources_sorted : (order : List (Term × Key)) (P : Row → Type 0)
      → ((x y : Row) → P x → P y → sort_cmp order (params ∷ x ∷ []) (params ∷ y ∷ []) ≡ cmp (f x) (f y))
      → AllByRecursion P sources → IsSorted (λ x y. sort_cmp order (params ∷ x ∷ []) (params ∷ y ∷ [])) sources
      → IsSorted cmp (map f sources)
  sources_sorted order P alike all sorted = sorted_map f cmp sources
      (sorted_alike (λ x y. sort_cmp order (params ∷ x ∷ []) (params ∷ y ∷ [])) (on f cmp) P alike sources all sorted)

  pub sources_spoil : (clean : X → Bool) → list_all clean (map f sources) ≡ false → list_all clean (in_key_order cmp (map f stored)) ≡ false
  sources_spoil clean spoilt = elim (cases_Bool (list_all clean (in_key_order cmp (map f stored)))) [
    | inl e ↦
        let all = every_shuffled (λ x. clean x ≡ true) (in_key_order cmp (map f stored)) (map f stored)
        (IsPermutation-sym (map f stored) (in_key_order cmp (map f stored)) (listed_moved cmp (map f stored)))
        (all_clean clean (in_key_order cmp (map f stored)) e) in
        let rows = sources_have (λ row. clean (f row) ≡ true) (all_of_map (λ x. clean x ≡ true) f stored all) in
        absurd (true≢false (sym (clean_all clean (map f sources) (all_to_map (λ x. clean x ≡ true) f sources rows)) ∙ spoilt))
    | inr e ↦ e
  ]

-- The same for the columns that a query shows.
pub shown_say : {X : Type 0} (f shown : Row → X) (columns : List Term) (params : Row) (sources : List Row)
    → ((row : Row) → shown (eval_all columns (params ∷ row ∷ [])) ≡ f row)
    → map shown (map (λ row. eval_all columns (params ∷ row ∷ [])) sources) ≡ map f sources
shown_say f shown columns params sources says = map_twice shown (λ row. eval_all columns (params ∷ row ∷ [])) sources
    ∙ map_same _ f says sources

pub filter_both : {X : Type 0} (p q : X → Bool) (xs : List X) → filter q (filter p xs) ≡ filter (λ x. p x && q x) xs
filter_both p q [] = refl
filter_both p q (x ∷ xs) = elim (p x) as (λ v. filter q (cond v (x ∷ filter p xs) (filter p xs)) ≡ cond (v && q x)
    (x ∷ filter (λ x. p x && q x) xs) (filter (λ x. p x && q x) xs))
    [ true ↦ ap (λ ys. cond (q x) (x ∷ ys) ys) (filter_both p q xs) | false ↦ filter_both p q xs ]

-- What a query of one kind without a limit returns.
module _ {X : Type 0} {cmp : X → X → Ordering} (total : IsTotalOrder cmp) (f shown : Row → X) (columns : List Term)
    (order : List (Term × Key)) (stored : List Row) (tests : List Term) (params : Row) (rows : List Row)
    (says : (row : Row) → shown (eval_all columns (params ∷ row ∷ [])) ≡ f row)
    (found : FindsRows stored tests columns order no_limit params rows) where
  told : map shown rows ≡ map f found.sources
  told = ap (map shown) found.is ∙ shown_say f shown columns params found.sources says

  pub rows_moved : (p : X → Bool) → AllByRecursion (λ row. passes tests params row ≡ p (f row)) stored
      → IsPermutation (filter p (in_key_order cmp (map f stored))) (map shown rows)
  rows_moved p passed = subst (IsPermutation (filter p (in_key_order cmp (map f stored)))) (sym told)
      (sources_moved total f stored tests params found.sources found.same p passed)

  pub rows_are : (P : Row → Type 0) (N : X → Type 0) → ((x y : Row) → P x × N (f x) → P y × N (f y)
      → sort_cmp order (params ∷ x ∷ []) (params ∷ y ∷ []) ≡ cmp (f x) (f y))
      → AllByRecursion P stored → (p : X → Bool) → ((row : Row) → P row → passes tests params row ≡ p (f row))
      → Rises cmp (in_key_order cmp (map f stored)) → AllByRecursion N (map shown rows)
      → map shown rows ≡ filter p (in_key_order cmp (map f stored))
  rows_are P N ranked all p passed rises numbered =
      let known = all_both P (λ row. N (f row)) found.sources (sources_have total f stored tests params found.sources found.same P all)
      (all_of_map N f found.sources (subst (AllByRecursion N) told numbered)) in
      told ∙ sources_are total f stored tests params found.sources found.same p (all_such P _ passed stored all)
      (sources_sorted total f stored tests params found.sources found.same order (λ row. P row × N (f row)) ranked known found.sorted) rises

  pub rows_spoil : (clean : X → Bool) → list_all clean (map shown rows) ≡ false → list_all clean (in_key_order cmp (map f stored)) ≡ false
  rows_spoil clean spoilt = sources_spoil total f stored tests params found.sources found.same clean
      (sym (ap (list_all clean) told) ∙ spoilt)
