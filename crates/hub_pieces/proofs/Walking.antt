-- A walk over the values of a kind, from the lowest upwards, and what is known of its pieces.
use Rattle.std.proofs.Common.{◌≡◌, ◌⊎◌, ℕ, Bool, true, false, inl, inr, List, [], ◌∷◌, map}
use Rattle.std.proofs.Common.{Option, Some, None, is_some, Ok, refl, sym, ap, subst, ◌∙◌}
use Rattle.std.specs.List.{list_all}
use Rattle.std.specs.declared.cmp.Ordering.{Ordering}
use Rattle.std.specs.declared.cmp.Ordering.TheVariants.{Less, Equal, Greater}
use Rattle.std.specs.Ordering.{is_eq, ordering_reverse}
use Rattle.std.proofs.lemmas.Cmp.{nat_list_cmp_total}
use Rattle.std.proofs.lemmas.Map.Text.{is_eq-slice_cmp}
use Rattle.hub_parties.specs.KeyOrder.{bytes_cmp}
use Rattle.hub_sound.specs.Finding.{RowKey}
use Rattle.hub_sound.specs.Showing.{FailsTest}
use Rattle.hub_sound.specs.declared.finding.Finding.{Finding}
use Rattle.hub_sound.proofs.Deciding.{all_true, true_all, from_filter}
use Rattle.hub_tables.specs.Rows.{same}
use Rattle.hub_tables.specs.Sets.{Has}
use Rattle.hub_tables.specs.Tables.{Tables}
use Rattle.hub_tables.proofs.Lists.{same_is, same_if}
use Rattle.hub_tables.proofs.Members.{all_of, all_if, has_map, has_filter}
use Rattle.hub_pieces.specs.AllRows.{Tells}
use Rattle.hub_pieces.specs.Pieces.{IsNext, piece, values_in}
use Rattle.hub_pieces.specs.Walk.{Told}
use Rattle.hub_pieces.specs.declared.piece_kind.PieceKind.{PieceKind}
use Rattle.hub_pieces.proofs.Telling.{at_once, follows, then}

-- Values.

pub none_below : (value : List ℕ) → ¬ (bytes_cmp value [] ≡ Less)
none_below [] h = cc
none_below (x ∷ xs) h = cc

pub reversed : (a b : List ℕ) (o : Ordering) → bytes_cmp a b ≡ o → bytes_cmp b a ≡ ordering_reverse o
reversed a b o e = nat_list_cmp_total.antisymm b a ∙ ap ordering_reverse e

pub tied : (a b : List ℕ) → bytes_cmp a b ≡ Equal → a ≡ b
tied a b e = same_is a b (sym (is_eq-slice_cmp a b) ∙ ap is_eq e)

-- a value that is not above another is below it, or is it
not_above : (at value : List ℕ) → ¬ (bytes_cmp at value ≡ Less) → (bytes_cmp value at ≡ Less) ⊎ (value ≡ at)
not_above at value never = by (bytes_cmp value at) refl
  where
    by : (o : Ordering) → bytes_cmp value at ≡ o → (bytes_cmp value at ≡ Less) ⊎ (value ≡ at)
    by Less e = inl e
    by Equal e = inr (tied value at e)
    by Greater e = absurd (never (reversed value at Greater e))

module _ (values : List (List ℕ)) (at next : List ℕ) (is : IsNext at values (Some next)) where
  -- those below the next value
  below_next : (value : List ℕ) → Has values value → bytes_cmp value next ≡ Less → (bytes_cmp value at ≡ Less) ⊎ (value ≡ at)
  below_next value there below = not_above at value (λ above. is.2 value there above below)

-- a property of each value
module _ (holds : List ℕ → Type 0) (values : List (List ℕ)) where
  abbrev pub Before : List ℕ → Type 0
  Before at = (value : List ℕ) → Has values value → bytes_cmp value at ≡ Less → holds value

  pub before_first : Before []
  before_first value there below = absurd (none_below value below)

  pub before_next : (at next : List ℕ) → IsNext at values (Some next) → Before at → holds at → Before next
  before_next at next is before here value there below = elim (below_next values at next is value there below) [
    | inl lower ↦ before value there lower
    | inr e ↦ subst holds (sym e) here
  ]

  pub before_all : (at : List ℕ) → IsNext at values None → Before at → holds at → (value : List ℕ) → Has values value → holds value
  before_all at is before here value there = elim (not_above at value (is value there)) [
    | inl lower ↦ before value there lower
    | inr e ↦ subst holds (sym e) here
  ]

-- Pieces.

pub pieces_pass : {X : Type 0} (column : X → List ℕ) (p : X → Bool) (rows : List X)
    → ((value : List ℕ) → Has (map column rows) value → list_all p (piece column value rows) ≡ true)
    → list_all p rows ≡ true
pieces_pass column p rows each =
    true_all p rows (all_if (λ x. p x ≡ true) rows (λ x there.
    let value = column x in
    all_of (λ x. p x ≡ true) (piece column value rows)
    (all_true p (piece column value rows) (each value (has_map column rows x there))) x
    (has_filter (λ row. same (column row) value) rows x there (same_if (column x) value refl))))

pub piece_fails : {X : Type 0} (column : X → List ℕ) (value : List ℕ) (key_of : X → RowKey) (p : X → Bool) (rows : List X) (key : RowKey)
    → FailsTest key_of p (piece column value rows) key → FailsTest key_of p rows key
piece_fails column value key_of p rows key it =
    (it.0, from_filter (λ row. same (column row) value) rows it.0 it.1, it.2, it.3)

-- The walk.

module _ {S : Type 0} (content : S → Tables) (honest : S → Type 0) (kind : PieceKind) (holds : Tables → List ℕ → Type 0)
    (shows : Tables → Finding → Type 0) where
  -- each value below this one was checked
  abbrev pub Walked : List ℕ → Tables → Unit {0} → Type 0
  Walked at t u = Before (holds t) (values_in kind t) at

  abbrev pub ToldAll : Tables → Option Finding → Type 0
  ToldAll t = Told ((value : List ℕ) → Has (values_in kind t) value → holds t value) (shows t)

  abbrev pub ToldPiece : List ℕ → Tables → Option Finding → Type 0
  ToldPiece at t = Told (holds t at) (shows t)

  pub walk_begins : (s : S) (at : List ℕ) → at ≡ [] → Tells content honest (Walked at) s s (Ok tt)
  walk_begins s at none = at_once content honest (Walked at) s tt
      (subst (Before (holds (content s)) (values_in kind (content s))) (sym none)
      (before_first (holds (content s)) (values_in kind (content s))))

  module _ (at slice : List ℕ) (here : slice ≡ at) (old mid new : S) (so_far : Tells content honest (Walked at) old mid (Ok tt))
      (found : Option Finding) (checked : Tells content honest (ToldPiece slice) mid new (Ok found)) where
    abbrev Known : Tables → Option Finding → Type 0
    Known t found = Walked at t tt × ToldPiece at t found

    known : Tells content honest Known old new (Ok found)
    known = then content honest (Walked at) (ToldPiece slice) Known old mid new tt
        (λ t h f it. (h, subst (λ v. ToldPiece v t f) here it)) so_far (Ok found) checked

    pub walk_stops : is_some found ≡ true → Tells content honest ToldAll old new (Ok found)
    walk_stops some = follows content honest Known ToldAll old new found found (λ t h. one t found some h.1) known
      where
        one : (t : Tables) (f : Option Finding) → is_some f ≡ true → ToldPiece at t f → ToldAll t f
        one t None e it = cc
        one t (Some f) e it = it

    module _ (none : is_some found ≡ false) (last : S) (next : Option (List ℕ))
        (found_next : Tells content honest (λ t. IsNext slice (values_in kind t)) new last (Ok next)) where
      nothing : (t : Tables) (f : Option Finding) → is_some f ≡ false → ToldPiece at t f → holds t at
      nothing t None e it = it
      nothing t (Some f) e it = cc

      abbrev All : Tables → Option (List ℕ) → Type 0
      All t next = Known t found × IsNext at (values_in kind t) next

      all : Tells content honest All old last (Ok next)
      all = then content honest Known (λ t. IsNext slice (values_in kind t)) All old new last found
          (λ t h n it. (h, subst (λ v. IsNext v (values_in kind t) n) here it)) known (Ok next) found_next

      pub walk_goes_on : (above : List ℕ) → next ≡ Some above → Tells content honest (Walked above) old last (Ok tt)
      walk_goes_on above is = follows content honest All (Walked above) old last next tt
          (λ t h. before_next (holds t) (values_in kind t) at above (subst (IsNext at (values_in kind t)) is h.1) h.0.0
          (nothing t found none h.0.1)) all

      pub walk_ends : next ≡ None → Tells content honest ToldAll old last (Ok None)
      walk_ends is = follows content honest All ToldAll old last next None
          (λ t h. before_all (holds t) (values_in kind t) at (subst (IsNext at (values_in kind t)) is h.1) h.0.0
          (nothing t found none h.0.1)) all

  -- what is known of all pieces, if they are those of rows
  module _ {X : Type 0} (rows : Tables → List X) (column : X → List ℕ) (valued : (t : Tables) → values_in kind t ≡ map column (rows t))
      (p : Tables → X → Bool) where
    pub walked_rows :
        ((t : Tables) (value : List ℕ) → holds t value → list_all (p t) (piece column value (rows t)) ≡ true)
        → (old new : S) (found : Option Finding) → Tells content honest ToldAll old new (Ok found)
        → Tells content honest (λ t. Told (list_all (p t) (rows t) ≡ true) (shows t)) old new (Ok found)
    walked_rows means old new found =
        follows content honest ToldAll (λ t. Told (list_all (p t) (rows t) ≡ true) (shows t)) old new found found
        (λ t. one t found)
      where
        one : (t : Tables) (f : Option Finding) → ToldAll t f → Told (list_all (p t) (rows t) ≡ true) (shows t) f
        one t None h = pieces_pass column (p t) (rows t)
            (λ value there. means t value (h value (subst (λ vs. Has vs value) (sym (valued t)) there)))
        one t (Some f) h = h
