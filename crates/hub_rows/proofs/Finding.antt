-- Proves what a query of one table finds there.
use Rattle.std.proofs.Common.{◌≡◌, ℕ, zero, suc, ◌+◌, ◌<◌, Bool, false, List, [], ◌∷◌, map, filter, get_or, slice_set}
use Rattle.std.proofs.Common.{Ordering, None, refl, sym, ap, ap₂, subst, ◌∙◌, pos, negsuc, if◌then◌else◌}
use Rattle.std.specs.List.{list_all, swap, flat_map}
use Rattle.std.specs.List.Sorted.{IsPermutation, IsSorted, SwapsInRange, apply_swaps}
use Rattle.std.specs.Ordering.{on}
use Rattle.sqlite_value.specs.declared.keys.Key.{Key}
use Rattle.sqlite_value.specs.declared.value.Value.TheVariants.{Int}
use Rattle.sqlite_value.specs.Order.{Row}
use Rattle.sqlite_trees.specs.Tree.{Trees}
use Rattle.sqlite_sql.specs.Term.{Term, Env, lit, holds, eval, eval_all}
use Rattle.sqlite_sql.specs.Query.{Query, inner, end, IsAnswer, Output, output, output_cmp, sort_cmp, limited, as_count}
use Rattle.sqlite_sql.specs.Program.{overlay}
use Rattle.sql_rows.proofs.Answers.{matched, at_map, map_twice, length_map}

set_map : {X Y : Type 0} (f : X → Y) (xs : List X) (i : ℕ) (x : X) → slice_set (map f xs) i (f x) ≡ map f (slice_set xs i x)
set_map f [] i x = refl
set_map f (y ∷ ys) zero x = refl
set_map f (y ∷ ys) (suc i) x = ap (λ zs. f y ∷ zs) (set_map f ys i x)

swap_map : {X Y : Type 0} (f : X → Y) (xs : List X) (i j : ℕ) → swap (map f xs) i j ≡ map f (swap xs i j)
swap_map f [] i j = refl
swap_map f (d ∷ ys) i j =
    ap₂ (λ u v. slice_set (slice_set (map f (d ∷ ys)) i u) j v) (at_map f (d ∷ ys) j d) (at_map f (d ∷ ys) i d)
    ∙ ap (λ zs. slice_set zs j (f (get_or (d ∷ ys) i d))) (set_map f (d ∷ ys) i (get_or (d ∷ ys) j d))
    ∙ set_map f (slice_set (d ∷ ys) i (get_or (d ∷ ys) j d)) j (get_or (d ∷ ys) i d)

swaps_map : {X Y : Type 0} (f : X → Y) (xs : List X) (moves : List (ℕ × ℕ)) → apply_swaps (map f xs) moves ≡ map f (apply_swaps xs moves)
swaps_map f xs [] = refl
swaps_map f xs (m ∷ moves) = ap (λ zs. swap zs m.0 m.1) (swaps_map f xs moves) ∙ swap_map f (apply_swaps xs moves) m.0 m.1

-- if rows are put in another order, what is shown of them is in that order too
pub shuffled_sources : {X Y : Type 0} (f : X → Y) (xs : List X) (ys : List Y) → IsPermutation (map f xs) ys → (zs : List X)
    × IsPermutation xs zs × (ys ≡ map f zs)
shuffled_sources f xs ys p = (
  apply_swaps xs p.moves,
  record { moves = p.moves; below = subst (λ n. SwapsInRange n p.moves) (length_map f xs) p.below; is = refl },
  p.is ∙ swaps_map f xs p.moves,
)

-- rows are sorted by what they show
sorted_back : {X Y : Type 0} (f : X → Y) (cmp : Y → Y → Ordering) (xs : List X) → IsSorted cmp (map f xs) → IsSorted (on f cmp) xs
sorted_back f cmp xs sorted k d low high =
    rw (sym (at_map f xs k d), sym (at_map f xs (k + 1) d), sorted k (f d) low (subst (λ n. k + 1 < n) (sym (length_map f xs)) high))

-- a query of one table that stops after a number of rows
abbrev pub some_of : ℕ → List Term → List Term → List (Term × Key) → Term → Query
some_of tree tests shown order limit = record {
  from = inner tree end;
  filter = tests;
  group = None;
  project = shown;
  distinct = false;
  collations = [];
  order = order;
  limit = limit;
  offset = lit (Int (pos 0));
}

abbrev pub no_limit : Term
no_limit = lit (Int (negsuc 0))

-- a query of one table that returns all rows that pass
abbrev pub all_of : ℕ → List Term → List Term → List (Term × Key) → Query
all_of tree tests shown order = some_of tree tests shown order no_limit

-- the row passes each test
abbrev pub passes : List Term → Row → Row → Bool
passes tests params row = list_all (holds (params ∷ row ∷ [])) tests

-- the stored rows that pass, in an order that the query allows, and the columns that it shows
pub record FindsRows (stored : List Row) (tests shown : List Term) (order : List (Term × Key)) (limit : Term) (params : Row)
    (rows : List Row) : Type 0 where
  pub sources : List Row
  pub same : IsPermutation (filter (passes tests params) stored) sources
  pub sorted : IsSorted (λ x y. sort_cmp order (params ∷ x ∷ []) (params ∷ y ∷ [])) sources
  pub is : rows ≡ limited (as_count (eval limit (params ∷ []))) (map (λ row. eval_all shown (params ∷ row ∷ [])) sources)

pub finds : (db : Trees) (tree : ℕ) (tests shown : List Term) (order : List (Term × Key)) (limit : Term) (params : Row) (rows : List Row)
    → overlay db [] tree ≡ db tree → IsAnswer (some_of tree tests shown order limit) (overlay db []) params rows
    → FindsRows (db tree) tests shown order limit params rows
finds db tree tests shown order limit params rows plain a =
    let env : Row → Env = λ r. params ∷ r ∷ [] in
    let found = filter (passes tests params) (db tree) in
    let q = some_of tree tests shown order limit in
    let staged : a.staged ≡ map env found = a.grouped ∙ ap (flat_map (λ r. if passes tests params r then env r ∷ [] else [])) plain
    ∙ matched env (passes tests params) (db tree) in
    let kept : a.kept ≡ map (λ r. output q (env r)) found = a.distinct ∙ ap (map (output q)) staged ∙ map_twice (output q) env found in
    let lifted = shuffled_sources (λ r. output q (env r)) found a.ordered (subst (λ k. IsPermutation k a.ordered) kept a.same) in
    record {
      sources = lifted.0;
      same = lifted.1;
      sorted = sorted_back (λ r. output q (env r)) (output_cmp q) lifted.0 (subst (IsSorted (output_cmp q)) lifted.2 a.sorted);
      is = a.shown ∙ ap (limited (as_count (eval limit (params ∷ []))))
          (ap (map (λ (o : Output). o.1)) lifted.2 ∙ map_twice (λ (o : Output). o.1) (λ r. output q (env r)) lifted.0);
    }
