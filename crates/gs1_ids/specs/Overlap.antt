-- When the prefixes of suppliers are free of one another.
use Rattle.std.specs.Prelude.{◌≡◌, ℕ, ◌+◌, ◌<◌, ◌≤◌, Bool, false, IsTrue, List, [], ◌∷◌, length, All, AllPairs}
use Rattle.std.specs.Prelude.{slice_index_or, position, Option, Some, None, option_map}
use Rattle.std.specs.List.{list_any}
use Rattle.gs1_ids.specs.Prefix.{Begins, overlap}
use Rattle.gs1_ids.specs.Sscc.{under_some}

-- what is at two places of a list passes a test together; past its end it is d
pub record PairAt {X : Type 0} (test : X → X → Bool) (d : X) (xs : List X) (i j : ℕ) : Type 0 where
  pub before : i < j
  pub within : j < length xs
  pub passes : IsTrue (test (slice_index_or xs i d) (slice_index_or xs j d))

-- the prefixes at two places overlap
abbrev pub OverlapAt : List (List ℕ) → ℕ → ℕ → Type 0
OverlapAt prefixes i j = PairAt overlap [] prefixes i j

-- the least first place at which prefixes overlap, and with it the least second place
pub record IsFirstOverlap (prefixes : List (List ℕ)) (i j : ℕ) : Type 0 where
  pub here : OverlapAt prefixes i j
  pub least_first : (k l : ℕ) → OverlapAt prefixes k l → i ≤ k
  pub least_second : (l : ℕ) → OverlapAt prefixes i l → j ≤ l

-- the first two places as a list answers them: the place of a later element that passes with the first one, or else the
-- places in the rest
abbrev pub pair_from : Option ℕ → Option (ℕ × ℕ) → Option (ℕ × ℕ)
pair_from (Some second) later = Some (0, second + 1)
pair_from None later = option_map (λ places. (places.0 + 1, places.1 + 1)) later

abbrev pub first_pair : {X : Type 0} → (X → X → Bool) → List X → Option (ℕ × ℕ)
first_pair test [] = None
first_pair test (x ∷ xs) = pair_from (position (test x) xs) (first_pair test xs)

-- the first two prefixes that overlap
abbrev pub first_overlap_of : List (List ℕ) → Option (ℕ × ℕ)
first_overlap_of prefixes = first_pair overlap prefixes

-- no prefix overlaps another one of the list
abbrev pub NoneOverlap : List (List ℕ) → Type 0
NoneOverlap prefixes = AllPairs (λ p q. overlap p q ≡ false) prefixes

-- some prefix of one supplier begins one of another, or is begun by it
abbrev pub overlap_some : List (List ℕ) → List (List ℕ) → Bool
overlap_some ps qs = list_any (λ p. list_any (overlap p) qs) ps

-- the first two suppliers, each the list of its prefixes, of which that holds
abbrev pub first_overlap_between : List (List (List ℕ)) → Option (ℕ × ℕ)
first_overlap_between suppliers = first_pair overlap_some suppliers

-- no prefix of one supplier begins one of another supplier
abbrev pub AreApart : List (List ℕ) → List (List ℕ) → Type 0
AreApart ps qs = All (λ p. All (λ q. overlap p q ≡ false) qs) ps

-- suppliers, each the list of its prefixes, of which no two different ones have prefixes that overlap
abbrev pub PrefixFree : List (List (List ℕ)) → Type 0
PrefixFree suppliers = AllPairs AreApart suppliers

-- two prefixes that begin one list of digits overlap
abbrev pub PrefixesOfOneOverlap : Type 0
PrefixesOfOneOverlap = (p q xs : List ℕ) → Begins p xs → Begins q xs → IsTrue (overlap p q)

-- if the suppliers' prefixes are free of one another, an SSCC is under those of one supplier at most
abbrev pub SsccHasOneSupplier : Type 0
SsccHasOneSupplier = (suppliers : List (List (List ℕ))) (sscc : List ℕ) (i j : ℕ) → PrefixFree suppliers →
    i < length suppliers → IsTrue (under_some sscc (slice_index_or suppliers i [])) →
    j < length suppliers → IsTrue (under_some sscc (slice_index_or suppliers j [])) → i ≡ j
