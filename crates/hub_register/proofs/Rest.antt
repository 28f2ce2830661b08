-- Handles the rows of the entries from a position on.
use Rattle.std.proofs.Common.{◌≡◌, ℕ, ◌+◌, ◌<◌, List, ◌∷◌, length, get_or, drop, map, true, ◌&&◌, ap, ◌∙◌}
use Rattle.std.specs.List.{list_all}
use Rattle.std.proofs.lemmas.List.{drop_more, get_or-map, length-map}
use Rattle.hub_parties.specs.Key.{is_party_key}
use Rattle.hub_parties.specs.Prefixes.{by_bytes}
use Rattle.hub_parties.specs.declared.row.SupplierRow.{SupplierRow}
use Rattle.hub_register.specs.Document.{row_with}
use Rattle.hub_register.specs.Entries.{row_in, texts_of}
use Rattle.hub_register.specs.InOrder.{put, put_all, with_sorted_prefixes}
use Rattle.hub_register.specs.declared.document.SupplierStrings.{SupplierStrings}

pub same_row : (gln : List ℕ) (prefixes : List (List ℕ)) (key : List ℕ) (entry : SupplierStrings)
    → gln ≡ entry.gln.now
    → prefixes ≡ by_bytes (texts_of entry.prefixes.items)
    → key ≡ entry.key.now
    → with_sorted_prefixes (row_in entry) ≡ row_with gln prefixes key
same_row gln prefixes key entry a b c = rw (a, b, c)

module _ (entries : List SupplierStrings) (i : ℕ) (entry : SupplierStrings) (within : i < length entries) where
  pub first_is : map row_in (drop i entries) ≡ row_in (get_or entries i entry) ∷ map row_in (drop (i + 1) entries)
  first_is = ap (map row_in) (drop_more entries i entry within)

  -- the value of a column in the row at this position
  pub at_place : {A : Type 0} (f : SupplierRow → A) (column : List A) (x : A)
      → column ≡ map f (map row_in entries)
      → x ≡ get_or column i x
      → x ≡ f (row_in (get_or entries i entry))
  at_place f column x is at =
      at ∙ ap (λ xs. get_or xs i x) is
      ∙ get_or-map f (map row_in entries) i (row_in entry) x (rw (length-map entries row_in) within)
      ∙ ap f (get_or-map row_in entries i entry (row_in entry) within)

  pub rows_next : (done : List SupplierRow)
      → put_all (map with_sorted_prefixes (map row_in (drop i entries))) done
      ≡ put_all (map with_sorted_prefixes (map row_in (drop (i + 1) entries)))
      (put (with_sorted_prefixes (row_in (get_or entries i entry))) done)
  rows_next done = ap (λ rows. put_all (map with_sorted_prefixes rows) done) first_is

  pub keys_next : is_party_key (get_or entries i entry).key.now ≡ true
      → list_all is_party_key (map (λ row. row.key) (map row_in (drop i entries)))
      ≡ list_all is_party_key (map (λ row. row.key) (map row_in (drop (i + 1) entries)))
  keys_next right =
      ap (λ rows. list_all is_party_key (map (λ row. row.key) rows)) first_is
      ∙ ap (λ b. b && list_all is_party_key (map (λ row. row.key) (map row_in (drop (i + 1) entries)))) right
