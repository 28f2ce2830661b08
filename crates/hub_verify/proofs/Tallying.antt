-- Rows that are counted in pieces.
use Rattle.std.proofs.Common.{◌≡◌, ℕ, ◌+◌, Bool, true, false, ◌&&◌, ◌||◌, cond, List, [], ◌∷◌, map, filter, length, sum_by, count_by}
use Rattle.std.proofs.Common.{Option, Some, None, Ok, refl, sym, ap, ap₂, subst, ◌∙◌, arith}
use Rattle.std.specs.List.{AllByRecursion, list_all}
use Rattle.std.specs.declared.cmp.Ordering.{Ordering}
use Rattle.std.specs.declared.cmp.Ordering.TheVariants.{Less, Equal, Greater}
use Rattle.std.specs.Ordering.{is_eq, is_lt}
use Rattle.std.proofs.lemmas.Cmp.{nat_list_cmp_total}
use Rattle.std.proofs.lemmas.List.Sums.{sum_by-cons}
use Rattle.std.proofs.lemmas.Map.Text.{is_eq-slice_cmp}
use Rattle.hub_parties.specs.KeyOrder.{bytes_cmp}
use Rattle.hub_tables.specs.Rows.{same}
use Rattle.hub_tables.specs.Sets.{Has}
use Rattle.hub_tables.specs.Tables.{Tables}
use Rattle.hub_tables.proofs.Members.{all_if, has_map}
use Rattle.hub_pieces.specs.AllRows.{Tells}
use Rattle.hub_pieces.specs.Pieces.{IsNext, piece, values_in}
use Rattle.hub_pieces.specs.declared.piece_kind.PieceKind.{PieceKind}
use Rattle.hub_pieces.proofs.Telling.{at_once, follows, then}
use Rattle.hub_pieces.proofs.Walking.{reversed, tied, none_below}

-- Sums over the rows that pass one of two tests, and never both.

module _ {X : Type 0} (weight : X → ℕ) where
  left : (w l h u : ℕ) → u ≡ l + h → w + u ≡ w + l + h
  left w l h u e = omega arith

  right : (w l h u : ℕ) → u ≡ l + h → w + u ≡ l + (w + h)
  right w l h u e = omega arith

  step : (l h : Bool) → (l && h) ≡ false → (x : X) (us ls hs : List X) → sum_by weight us ≡ sum_by weight ls + sum_by weight hs
      → sum_by weight (cond (l || h) (x ∷ us) us) ≡ sum_by weight (cond l (x ∷ ls) ls) + sum_by weight (cond h (x ∷ hs) hs)
  step true true never x us ls hs e = cc
  step true false never x us ls hs e =
      sum_by-cons weight x us ∙ left (weight x) (sum_by weight ls) (sum_by weight hs) (sum_by weight us) e
      ∙ sym (ap (λ n. n + sum_by weight hs) (sum_by-cons weight x ls))
  step false true never x us ls hs e =
      sum_by-cons weight x us ∙ right (weight x) (sum_by weight ls) (sum_by weight hs) (sum_by weight us) e
      ∙ sym (ap (λ n. sum_by weight ls + n) (sum_by-cons weight x hs))
  step false false never x us ls hs e = e

  sums_split : (lower here upto : X → Bool) (xs : List X)
      → AllByRecursion (λ x. (upto x ≡ (lower x || here x)) × ((lower x && here x) ≡ false)) xs
      → sum_by weight (filter upto xs) ≡ sum_by weight (filter lower xs) + sum_by weight (filter here xs)
  sums_split lower here upto [] all = refl
  sums_split lower here upto (x ∷ xs) all =
      ap (λ b. sum_by weight (cond b (x ∷ filter upto xs) (filter upto xs))) all.0.0
      ∙ step (lower x) (here x) all.0.1 x (filter upto xs) (filter lower xs) (filter here xs) (sums_split lower here upto xs all.1)

all_kept : {X : Type 0} (xs : List X) → filter (λ x. true) xs ≡ xs
all_kept [] = refl
all_kept (x ∷ xs) = ap (λ ys. x ∷ ys) (all_kept xs)

none_kept : {X : Type 0} (p : X → Bool) (xs : List X) → AllByRecursion (λ x. p x ≡ false) xs → filter p xs ≡ []
none_kept p [] all = refl
none_kept p (x ∷ xs) all = ap (λ b. cond b (x ∷ filter p xs) (filter p xs)) all.0 ∙ none_kept p xs all.1

abbrev one : {X : Type 0} → X → ℕ
one x = 1

ones : {X : Type 0} (xs : List X) → length xs ≡ sum_by one xs
ones [] = refl
ones (x ∷ xs) = let rest = ones xs in let all = sum_by-cons one x xs in omega (arith, rest, all)

-- Values below, at and up to one.

abbrev lower : List ℕ → List ℕ → Bool
lower at value = is_lt (bytes_cmp value at)

same_by : (value at : List ℕ) (o : Ordering) → bytes_cmp value at ≡ o → same value at ≡ is_eq o
same_by value at o e = sym (is_eq-slice_cmp value at) ∙ ap is_eq e

not_less : (o : Ordering) → ¬ (o ≡ Less) → is_lt o ≡ false
not_less Less never = absurd (never refl)
not_less Equal never = refl
not_less Greater never = refl

abbrev Splits : Bool → Bool → Bool → Type 0
Splits upto l h = (upto ≡ (l || h)) × ((l && h) ≡ false)

module _ (at value : List ℕ) (upto : Bool) where
  split : (o : Ordering) → bytes_cmp value at ≡ o → upto ≡ (is_lt o || is_eq o) → Splits upto (lower at value) (same value at)
  split o e is = (
    is ∙ sym (ap₂ (λ v w. v || w) (ap is_lt e) (same_by value at o e)),
    ap₂ (λ v w. v && w) (ap is_lt e) (same_by value at o e) ∙ never o,
  )
    where
      never : (o : Ordering) → (is_lt o && is_eq o) ≡ false
      never Less = refl
      never Equal = refl
      never Greater = refl

module _ {X : Type 0} (column : X → List ℕ) (rows : List X) (at : List ℕ) where
  upto_next : (next : List ℕ) → IsNext at (map column rows) (Some next)
      → AllByRecursion (λ x. Splits (lower next (column x)) (lower at (column x)) (same (column x) at)) rows
  upto_next next is = all_if _ rows (λ x there. by x there (bytes_cmp (column x) at) refl)
    where
      by : (x : X) → Has rows x → (o : Ordering) → bytes_cmp (column x) at ≡ o
          → Splits (lower next (column x)) (lower at (column x)) (same (column x) at)
      by x there Less e = split at (column x) (lower next (column x)) Less e
          (ap is_lt (nat_list_cmp_total.trans (column x) at next e is.1))
      by x there Equal e = split at (column x) (lower next (column x)) Equal e
          (ap is_lt (ap (λ v. bytes_cmp v next) (tied (column x) at e) ∙ is.1))
      by x there Greater e = split at (column x) (lower next (column x)) Greater e
          (not_less (bytes_cmp (column x) next) (is.2 (column x) (has_map column rows x there) (reversed (column x) at Greater e)))

  upto_all : IsNext at (map column rows) None
      → AllByRecursion (λ x. Splits true (lower at (column x)) (same (column x) at)) rows
  upto_all is = all_if _ rows (λ x there. by x there (bytes_cmp (column x) at) refl)
    where
      by : (x : X) → Has rows x → (o : Ordering) → bytes_cmp (column x) at ≡ o
          → Splits true (lower at (column x)) (same (column x) at)
      by x there Less e = split at (column x) true Less e refl
      by x there Equal e = split at (column x) true Equal e refl
      by x there Greater e = absurd (is (column x) (has_map column rows x there) (reversed (column x) at Greater e))

-- The count.

module _ {S : Type 0} (content : S → Tables) (honest : S → Type 0) (kind : PieceKind) {X : Type 0} (rows : Tables → List X)
    (column : X → List ℕ) (clean apart : X → Bool) where
  abbrev weight : X → ℕ
  weight x = cond (apart x) 1 0

  abbrev Below : List ℕ → Tables → List X
  Below at t = filter (λ x. lower at (column x)) (rows t)

  -- these are the numbers of rows with lower values
  abbrev pub Tallied : ℕ → ℕ → List ℕ → Tables → Unit {0} → Type 0
  Tallied all some at t u = (all ≡ sum_by one (Below at t)) × (some ≡ sum_by weight (Below at t))

  abbrev pub Counted : Tables → ℕ × ℕ → Type 0
  Counted t n = (n.0 ≡ length (rows t)) × (n.1 ≡ count_by apart (rows t))

  abbrev pub ArePiece : List ℕ → Tables → List X → Type 0
  ArePiece at t xs = (xs ≡ piece column at (rows t)) × (list_all clean xs ≡ true)

  pub tally_begins : (s : S) (at : List ℕ) → at ≡ [] → Tells content honest (Tallied 0 0 at) s s (Ok tt)
  tally_begins s at none = at_once content honest (Tallied 0 0 at) s tt
      (ap (sum_by one) (sym nothing), ap (sum_by weight) (sym nothing))
    where
      nothing : Below at (content s) ≡ []
      nothing = none_kept (λ x. lower at (column x)) (rows (content s)) (all_if _ (rows (content s)) (λ x there.
          not_less (bytes_cmp (column x) at) (subst (λ v. ¬ (bytes_cmp (column x) v ≡ Less)) (sym none) (none_below (column x)))))

  module _ (valued : (t : Tables) → values_in kind t ≡ map column (rows t)) (at slice : List ℕ) (here : slice ≡ at)
      (old mid new last : S) (all some : ℕ)
      (so_far : Tells content honest (Tallied all some at) old mid (Ok tt))
      (xs ys : List X) (same_rows : ys ≡ xs) (read : Tells content honest (ArePiece slice) mid new (Ok xs))
      (more : ℕ) (grown : more ≡ all + length xs) (few : ℕ) (counted : few ≡ count_by apart ys)
      (more_some : ℕ) (grown_some : more_some ≡ some + few) (next : Option (List ℕ))
      (found_next : Tells content honest (λ t. IsNext slice (values_in kind t)) new last (Ok next)) where
    abbrev Known : Tables → List X → Type 0
    Known t found = Tallied all some at t tt × ArePiece at t found

    abbrev All : Tables → Option (List ℕ) → Type 0
    All t next = Known t xs × IsNext at (values_in kind t) next

    every : Tells content honest All old last (Ok next)
    every = then content honest Known (λ t. IsNext slice (values_in kind t)) All old new last xs
        (λ t h n it. (h, subst (λ v. IsNext v (values_in kind t) n) here it))
        (then content honest (Tallied all some at) (ArePiece slice) Known old mid new tt
        (λ t h f it. (h, subst (λ v. ArePiece v t f) here it)) so_far (Ok xs) read) (Ok next) found_next

    all_with : (t : Tables) → Known t xs → more ≡ sum_by one (Below at t) + sum_by one (piece column at (rows t))
    all_with t h = grown ∙ ap₂ (λ n m. n + m) h.0.0 (ones xs ∙ ap (sum_by one) h.1.0)

    some_with : (t : Tables) → Known t xs → more_some ≡ sum_by weight (Below at t) + sum_by weight (piece column at (rows t))
    some_with t h = grown_some ∙ ap₂ (λ n m. n + m) h.0.1 (counted ∙ ap (count_by apart) (same_rows ∙ h.1.0))

    pub tally_goes_on : (above : List ℕ) → next ≡ Some above → Tells content honest (Tallied more more_some above) old last (Ok tt)
    tally_goes_on above is = follows content honest All (Tallied more more_some above) old last next tt
        (λ t h.
        let parts = upto_next column (rows t) at above
        (subst (λ vs. IsNext at vs (Some above)) (valued t) (subst (IsNext at (values_in kind t)) is h.1)) in (
          all_with t h.0 ∙ sym (sums_split one _ _ _ (rows t) parts),
          some_with t h.0 ∙ sym (sums_split weight _ _ _ (rows t) parts),
        )) every

    pub tally_ends : next ≡ None → Tells content honest Counted old last (Ok (more, more_some))
    tally_ends is = follows content honest All Counted old last next (more, more_some)
        (λ t h.
        let parts = upto_all column (rows t) at
        (subst (λ vs. IsNext at vs None) (valued t) (subst (IsNext at (values_in kind t)) is h.1)) in (
          all_with t h.0 ∙ sym (sums_split one _ _ (λ x. true) (rows t) parts) ∙ ap (sum_by one) (all_kept (rows t))
              ∙ sym (ones (rows t)),
          some_with t h.0 ∙ sym (sums_split weight _ _ (λ x. true) (rows t) parts) ∙ ap (sum_by weight) (all_kept (rows t)),
        )) every
