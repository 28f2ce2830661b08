-- Proves what SELECT returns.
use Rattle.std.proofs.Common.{Vec, Result, Ok, Err, IfOk, OnOk, ◌≡◌, ℕ, ◌==◌, ◌≤◌, ◌^◌, nat_lt, ◌⊎◌, inl, inr, ℤ, pos}
use Rattle.std.proofs.Common.{negsuc, zero, suc, ◌+◌, ◌<◌, length, get_or, Ordering, Bool, true, false, ◌&&◌}
use Rattle.std.proofs.Common.{if◌then◌else◌, Some, List, [], ◌∷◌, ◌++◌, map, filter, bytes_eq, refl, sym, ap, ◌∙◌}
use Rattle.std.proofs.Common.{subst, arith}
use Rattle.std.specs.List.{AllByRecursion, flat_map}
use Rattle.std.specs.List.Sorted.{IsPermutation, IsSorted, IsSortedByKey}
use Rattle.std.specs.Ordering.{is_eq, int_cmp, on}
use Rattle.std.proofs.lemmas.List.Sorted.{All-permutation}
use Rattle.std.proofs.lemmas.List.Elements.{All-from_recursion, recursion_from_All}
use Rattle.std.proofs.lemmas.Map.Text.{is_eq-slice_cmp}
use Rattle.std.proofs.lemmas.Bool.Decides.{nat_tests}
use Rattle.std.proofs.lemmas.Int.{ints}
use Rattle.sqlite_value.specs.declared.value.Value.{Value}
use Rattle.sqlite_value.specs.declared.value.Value.TheVariants.{Int, Blob}
use Rattle.sqlite_value.specs.declared.keys.Collation.TheVariants.{Binary}
use Rattle.sqlite_value.specs.Order.{Row}
use Rattle.sqlite_value.proofs.OrderLemmas.{value_cmp-Blob, value_cmp-Int}
use Rattle.sqlite_sql.specs.declared.ops.BinaryOp.TheVariants.{Compare}
use Rattle.sqlite_sql.specs.declared.ops.CompareOp.TheVariants.{Eq}
use Rattle.sqlite_sql.specs.Ops.{is_true, binary, from_truth}
use Rattle.sqlite_sql.specs.Query.{Output}
use Rattle.std.specs.declared.alloc.Global.{Global}
use Rattle.sqlite_schema.specs.declared.schema.Schema.{Schema}
use Rattle.sqlite.specs.State.{State, Shown, ShowsRows, IsUnchanged, Survives, CommitsShowing}
use Rattle.sqlite.specs.Clock.{timed}
use Rattle.sqlite.specs.Listing.{understood}
use Rattle.sqlite.proofs.StateLemmas.{survives_weaker}
use Rattle.sqlite.specs.declared.error.Error.{Error}
use Rattle.sqlite.proofs.Callers.{IsPlain, never_commits}

-- the ways to fill a single slot are the rows that pass
pub matched : {E : Type 0} (f : Row → E) (p : Row → Bool) (rows : List Row) → flat_map
    (λ r. if p r then f r ∷ [] else []) rows ≡ map f (filter p rows)
matched f p [] = refl
matched f p (r ∷ rows) =
    elim (p r) as (λ b. (if b then f r ∷ [] else []) ++ flat_map (λ r. if p r then f r ∷ [] else []) rows ≡ map f
    (if b then r ∷ filter p rows else filter p rows))
    [ true ↦ ap (λ xs. f r ∷ xs) (matched f p rows) | false ↦ matched f p rows ]

pub and_true : (b : Bool) → (b && true) ≡ b
and_true true = refl
and_true false = refl

pub is_truth : (b : Bool) → is_true (from_truth (Some b)) ≡ b
is_truth true = refl
is_truth false = refl

-- a cell with bytes equals exactly those bytes
pub same_bytes : (v : Value) (b bytes : List ℕ) → v ≡ Blob b → is_true
    (binary (Compare Eq Binary) v (Blob bytes)) ≡ bytes_eq b bytes
unfolding binary
same_bytes v b bytes is =
    ap (λ x. is_true (binary (Compare Eq Binary) x (Blob bytes))) is ∙
    (is_truth _ ∙ (ap is_eq (value_cmp-Blob b bytes) ∙ is_eq-slice_cmp b bytes))

-- Numbers are read as naturals: those from 0 to 2^64 - 1 as they are, and all others as something from 2^64 on.
module _ (shown : ℤ → ℕ) (plain : (n : ℕ) → n < 2 ^ 64 → shown (pos n) ≡ n)
    (great : (n : ℕ) → 2 ^ 64 ≤ n → 2 ^ 64 ≤ shown (pos n)) (past : (n : ℕ) → 2 ^ 64 ≤ shown (negsuc n)) where
  differ : (a b : ℕ) → 2 ^ 64 ≤ a → b < 2 ^ 64 → false ≡ (a == b)
  differ a b high low = grind (arith, nat_tests)

  by_size : (n number : ℕ) → number < 2 ^ 64 → (n < 2 ^ 64) ⊎ (2 ^ 64 ≤ n) → is_eq (int_cmp (pos n) (pos number)) ≡
      (shown (pos n) == number)
  by_size n number low (inl small) = rw (plain n small, both n number)
    where
      both : (n number : ℕ) → is_eq (int_cmp (pos n) (pos number)) ≡ (n == number)
      both n number = grind (arith, ints, nat_tests)
  by_size n number low (inr large) = other n number low large ∙ differ (shown (pos n)) number (great n large) low
    where
      other : (n number : ℕ) → number < 2 ^ 64 → 2 ^ 64 ≤ n → is_eq (int_cmp (pos n) (pos number)) ≡ false
      other n number low large = grind (arith, ints, nat_tests)

  sized : (n : ℕ) (b : Bool) → nat_lt n (2 ^ 64) ≡ b → (n < 2 ^ 64) ⊎ (2 ^ 64 ≤ n)
  sized n true e = inl (grind (arith, nat_tests, e))
  sized n false e = inr (grind (arith, nat_tests, e))

  pub same_shown : (n : ℤ) (number : ℕ) → number < 2 ^ 64 → is_eq (int_cmp n (pos number)) ≡ (shown n == number)
  same_shown (pos n) number low = by_size n number low (sized n (nat_lt n (2 ^ 64)) refl)
  same_shown (negsuc n) number low = differ (shown (negsuc n)) number (past n) low

  -- a cell with a number equals exactly that number
  pub same_int : (v : Value) (n : ℤ) (number : ℕ) → number < 2 ^ 64 → v ≡ Int n → is_true
      (binary (Compare Eq Binary) v (Int (pos number))) ≡ (shown n == number)
  unfolding binary
  same_int v n number low is = rw is (is_truth _ ∙ (ap is_eq (value_cmp-Int n (pos number)) ∙ same_shown n number low))

pub at_all : {X : Type 0} (P : X → Type 0) (xs : List X) (k : ℕ) (d : X) → P d → AllByRecursion P xs → P (get_or xs k d)
at_all P [] k d h all = h
at_all P (x ∷ xs) zero d h all = all.0
at_all P (x ∷ xs) (suc k) d h all = at_all P xs k d h all.1

pub at_map : {X Y : Type 0} (f : X → Y) (xs : List X) (k : ℕ) (d : X) → get_or (map f xs) k (f d) ≡ f (get_or xs k d)
at_map f [] k d = refl
at_map f (x ∷ xs) zero d = refl
at_map f (x ∷ xs) (suc k) d = at_map f xs k d

pub map_twice : {X Y Z : Type 0} (g : Y → Z) (f : X → Y) (xs : List X) → map g (map f xs) ≡ map (λ x. g (f x)) xs
map_twice g f [] = refl
map_twice g f (x ∷ xs) = ap (λ ys. g (f x) ∷ ys) (map_twice g f xs)

pub length_map : {X Y : Type 0} (f : X → Y) (xs : List X) → length (map f xs) ≡ length xs
length_map f [] = refl
length_map f (x ∷ xs) = ap suc (length_map f xs)

pub all_map : {X Y : Type 0} (P : Y → Type 0) (f : X → Y) (xs : List X) → ((x : X) → P (f x)) → AllByRecursion P
    (map f xs)
all_map P f [] h = tt
all_map P f (x ∷ xs) h = (h x, all_map P f xs h)

pub every_shuffled : {X : Type 0} (P : X → Type 0) (xs ys : List X) → IsPermutation xs ys → AllByRecursion P xs
    → AllByRecursion P ys
every_shuffled P xs ys s h = recursion_from_All P ys (All-permutation P xs ys s (All-from_recursion P xs h))

-- rows sorted by a key are still sorted after they are shown
pub sorted_shown : (key : Row → Row) (cmp : Row → Row → Ordering) (os : List Output) → AllByRecursion
    (λ o. o.0 ≡ key o.1) os → IsSorted (on (λ (o : Output). o.0) cmp) os → IsSortedByKey key cmp
    (map (λ (o : Output). o.1) os)
sorted_shown key cmp os keyed sorted k d low high =
    let none : Output = (key d, d) in
    let snd = λ (o : Output). o.1 in
    let at_k = at_map snd os k none in
    let at_next = at_map snd os (k + 1) none in
    let key_k = at_all (λ o. o.0 ≡ key o.1) os k none refl keyed in
    let key_next = at_all (λ o. o.0 ≡ key o.1) os (k + 1) none refl keyed in
    rw (at_k, at_next, sym key_k, sym key_next, sorted k none low (subst (λ n. k + 1 < n) (length_map snd os) high))

-- a query without RETURNING changes nothing
pub shown_same : (sql : List ℕ) (params : Row) (old new : State) (r : Result (Vec Row Global) Error) → IsPlain
    (understood old.now.schema sql) → IfOk r (λ rows. Shown sql params old new rows.items) → OnOk r
    (IsUnchanged old new)
unfolding Shown
shown_same sql params old new (Err e) plain h = tt
shown_same sql params old new (Ok rows) plain h =
    let none = (subst IsPlain h.1.is plain).0 in
    (subst (ShowsRows old new sql h.0 (timed params h.0.formats h.1.now) rows.items) none h.2).3

-- no commit is seen in a plain query
pub shows_no_commit : (schema : Schema) (sql : List ℕ) (params : Row) (old new : State) → IsPlain
    (understood schema sql) → Survives old new (CommitsShowing sql params old) → Survives old new
    (λ _. ¬ (old.now.schema ≡ schema))
shows_no_commit schema sql params old new plain =
    survives_weaker old new _ _
    (λ _ db commits has. never_commits sql params old db
    (subst (λ s. IsPlain (understood s sql)) (sym has) plain) commits)
