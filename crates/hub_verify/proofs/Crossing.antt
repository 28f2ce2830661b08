-- What is found of rows that are looked up one by one.
use Rattle.std.proofs.Common.{◌≡◌, ℕ, Bool, true, false, not, cond, inl, inr, List, [], ◌∷◌, find, Option, Some, None, option_copied}
use Rattle.std.proofs.Common.{Ok, refl, sym, ◌∙◌, ap, subst}
use Rattle.std.specs.Borrow.{Bor}
use Rattle.std.specs.List.{list_all}
use Rattle.std.proofs.lemmas.Bool.{and_from}
use Rattle.hub_sound.specs.Finding.{RowKey}
use Rattle.hub_sound.specs.Showing.{FailsTest, ShowsUnsound}
use Rattle.hub_sound.specs.declared.finding.Finding.{Finding}
use Rattle.hub_sound.specs.declared.finding.RowKind.{RowKind}
use Rattle.hub_tables.specs.Sets.{Has}
use Rattle.hub_tables.specs.Tables.{Tables}
use Rattle.hub_tables.proofs.Lists.{decide, all_found}
use Rattle.hub_tables.proofs.Members.{all_if}
use Rattle.hub_founding.specs.Fits.{fits_pallet}
use Rattle.hub_parties.specs.Rows.{RegisterRows}
use Rattle.hub_sound.specs.Finding.{pallet_key}
use Rattle.hub_sound.specs.declared.finding.RowKind.TheVariants.{Pallet}
use Rattle.hub_store.specs.Clean.{clean_pallet}
use Rattle.hub_tables.specs.declared.rows.PalletRow.{PalletRow}
use Rattle.hub_verify.specs.Cross.{ShowsUnrooted}
use Rattle.hub_pieces.specs.AllRows.{Tells}
use Rattle.hub_pieces.specs.Pieces.{piece}
use Rattle.hub_pieces.specs.Walk.{Told}
use Rattle.hub_verify.specs.Verdict.{ToldUnsound}
use Rattle.hub_pieces.proofs.Telling.{follows, then}
use Rattle.hub_verify.proofs.Findings.{IsFirstFailing}
use Rattle.hub_pieces.proofs.Walking.{piece_fails}

not_true : (b : Bool) → not b ≡ true → b ≡ false
not_true true h = cc
not_true false h = refl

not_false : (b : Bool) → not b ≡ false → b ≡ true
not_false true h = refl
not_false false h = cc

-- where a search for one that fails finds none, all pass
pub none_fails : {X : Type 0} (p : X → Bool) (xs : List X) → None ≡ find (λ x. not (p x)) xs → list_all p xs ≡ true
none_fails p [] h = refl
none_fails p (x ∷ xs) h = elim (decide (not (p x))) [
  | inl e ↦ absurd (let found = h ∙ ap (λ v. cond v (Some x) (find (λ x. not (p x)) xs)) e in cc)
  | inr e ↦ and_from (p x) (list_all p xs) (not_false (p x) e)
      (none_fails p xs (h ∙ ap (λ v. cond v (Some x) (find (λ x. not (p x)) xs)) e))
]

pub found_fails : {X : Type 0} (p : X → Bool) (xs : List X) (x : X) → Some x ≡ find (λ x. not (p x)) xs → Has xs x × (p x ≡ false)
found_fails p xs x found =
    let it = all_found (Has xs) (λ x. not (p x)) xs x (all_if (Has xs) xs (λ x there. there)) (sym found) in
    (it.0, not_true (p x) it.1)

-- rows that were read, each with the form of its kind
module _ {S : Type 0} (content : S → Tables) (honest : S → Type 0) {X : Type 0} (key_of : X → RowKey) (clean : X → Bool)
    (rows : Tables → List X) (p : Tables → X → Bool) (old mid new : S) (xs ys : List X) (slice : ys ≡ xs)
    (was_read : Tells content honest (λ t found. (found ≡ rows t) × (list_all clean found ≡ true)) old mid (Ok xs))
    (first : Option (Bor X)) where
  abbrev First : Tables → Option (Bor X) → Type 0
  First t found = (ys ≡ rows t) × IsFirstFailing content honest p ys t found

  looked_up : Tells content honest (IsFirstFailing content honest p ys) mid new (Ok first) → Tells content honest First old new (Ok first)
  looked_up looked =
      then content honest (λ t found. (found ≡ rows t) × (list_all clean found ≡ true)) (IsFirstFailing content honest p ys) First
      old mid new xs (λ t h found it. (slice ∙ h.0, it)) was_read (Ok first) looked

  pub told_none : first ≡ None → Tells content honest (IsFirstFailing content honest p ys) mid new (Ok first)
      → Tells content honest (ToldUnsound (λ t. list_all (p t) (rows t) ≡ true)) old new (Ok None)
  told_none none looked =
      follows content honest First (ToldUnsound (λ t. list_all (p t) (rows t) ≡ true)) old new first None
      (λ t h. subst (λ zs. list_all (p t) zs ≡ true) h.0 (none_fails (p t) ys (ap option_copied (sym none) ∙ h.1)))
      (looked_up looked)

  pub told_some : (b : Bor X) → first ≡ Some b → Tells content honest (IsFirstFailing content honest p ys) mid new (Ok first)
      → (kind : RowKind)
      → ((t : Tables) (key : RowKey) → FailsTest key_of (p t) (rows t) key → ShowsUnsound t kind key)
      → (found : Finding) → (found.kind ≡ kind) × (found.key ≡ key_of b.now)
      → Tells content honest (ToldUnsound (λ t. list_all (p t) (rows t) ≡ true)) old new (Ok (Some found))
  told_some b some looked kind shows found named =
      follows content honest First (ToldUnsound (λ t. list_all (p t) (rows t) ≡ true)) old new first (Some found)
      (λ t h.
      let it = found_fails (p t) ys b.now (ap option_copied (sym some) ∙ h.1) in
      subst (λ k. ShowsUnsound t k found.key) (sym named.0)
      (shows t found.key (b.now, subst (λ zs. Has zs b.now) h.0 it.0, it.1, sym named.1)))
      (looked_up looked)

-- Pallets under the prefixes of a register.

module _ {S : Type 0} (content : S → Tables) (honest : S → Type 0) (register : RegisterRows) (supplier : List ℕ) (old mid : S)
    (xs ys : List PalletRow) (slice : ys ≡ xs)
    (was_read : Tells content honest (λ t found.
    (found ≡ piece (λ (row : PalletRow). row.supplier) supplier t.pallets) × (list_all clean_pallet found ≡ true)) old mid (Ok xs)) where
  abbrev Own : Tables → List PalletRow
  Own t = piece (λ (row : PalletRow). row.supplier) supplier t.pallets

  abbrev ToldRooted : Tables → Option Finding → Type 0
  ToldRooted t = Told (list_all (fits_pallet register) (Own t) ≡ true) (ShowsUnrooted register t)

  pub rooted_none : None ≡ find (λ pallet. not (fits_pallet register pallet)) ys
      → Tells content honest ToldRooted old mid (Ok None)
  rooted_none none =
      follows content honest (λ t found. (found ≡ Own t) × (list_all clean_pallet found ≡ true)) ToldRooted old mid xs None
      (λ t h. subst (λ zs. list_all (fits_pallet register) zs ≡ true) (slice ∙ h.0) (none_fails (fits_pallet register) ys none))
      was_read

  pub rooted_some : (row : PalletRow) → Some row ≡ find (λ pallet. not (fits_pallet register pallet)) ys → (found : Finding)
      → (found.kind ≡ Pallet) × (found.key ≡ pallet_key row) → Tells content honest ToldRooted old mid (Ok (Some found))
  rooted_some row some found named =
      follows content honest (λ t found. (found ≡ Own t) × (list_all clean_pallet found ≡ true)) ToldRooted old mid xs (Some found)
      (λ t h.
      let it = found_fails (fits_pallet register) ys row some in (
        named.0,
        piece_fails (λ (row : PalletRow). row.supplier) supplier pallet_key (fits_pallet register) t.pallets found.key
            (row, subst (λ zs. Has zs row) (slice ∙ h.0) it.0, it.1, sym named.1),
      ))
      was_read
