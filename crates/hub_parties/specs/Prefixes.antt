-- Defines the company prefixes that one supplier may have.
use Rattle.std.specs.Prelude.{ℕ, Bool, true, ◌&&◌, nat_le, if◌then◌else◌, List, [], ◌∷◌, length, Option, Some, None}
use Rattle.std.specs.List.{list_all}
use Rattle.std.specs.Ordering.{is_lt}
use Rattle.gs1_ids.specs.Prefix.{is_prefix}
use Rattle.hub_parties.specs.KeyOrder.{bytes_cmp, put}

-- whether each text is lower than those after it, so that none occurs twice
abbrev pub rising : List (List ℕ) → Bool
rising [] = true
rising (x ∷ xs) = list_all (λ y. is_lt (bytes_cmp x y)) xs && rising xs

-- the most company prefixes that a supplier may have
abbrev pub most_prefixes : ℕ
most_prefixes = 8

-- whether a supplier may have these prefixes: one to eight, sorted by their bytes. One may begin another, but none
-- occurs twice.
abbrev pub are_company_prefixes : List (List ℕ) → Bool
are_company_prefixes prefixes =
    nat_le 1 (length prefixes) && (nat_le (length prefixes) most_prefixes && (list_all is_prefix prefixes && rising prefixes))

-- sorts texts by their bytes, inserting one after another
abbrev pub put_all : List (List ℕ) → List (List ℕ) → List (List ℕ)
put_all [] done = done
put_all (x ∷ xs) done = put_all xs (put bytes_cmp x done)

abbrev pub by_bytes : List (List ℕ) → List (List ℕ)
by_bytes texts = put_all texts []

-- the company prefixes that these texts are, in any order
abbrev pub company_prefixes_of : List (List ℕ) → Option (List (List ℕ))
company_prefixes_of texts = if are_company_prefixes (by_bytes texts) then Some (by_bytes texts) else None
