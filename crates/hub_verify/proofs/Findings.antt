-- What is found of rows, one call after another.
use Rattle.std.proofs.Common.{◌≡◌, ◌+◌, ◌<◌, ◌≤◌, Bool, true, false, not, List, find, drop, length, get_or, ℕ}
use Rattle.std.proofs.Common.{Option, Some, None, option_copied, Result, Ok, refl, sym, ◌∙◌, ap, subst}
use Rattle.std.specs.Borrow.{Bor}
use Rattle.std.specs.List.{list_all}
use Rattle.hub_sound.specs.Finding.{RowKey}
use Rattle.hub_sound.specs.Showing.{FailsTest, ShowsUnclean}
use Rattle.hub_sound.specs.declared.finding.Finding.{Finding}
use Rattle.hub_sound.specs.declared.finding.RowKind.{RowKind}
use Rattle.hub_sound.proofs.Settling.{find_next, find_here, find_none}
use Rattle.hub_store.specs.declared.fault.StoreFault.{StoreFault}
use Rattle.hub_tables.specs.Tables.{Tables}
use Rattle.hub_pieces.specs.AllRows.{Tells, IsRead}
use Rattle.hub_verify.specs.Clean.{unclean_of}
use Rattle.hub_verify.specs.Verdict.{ToldUnclean, ToldUnsound}
use Rattle.hub_pieces.specs.declared.all_rows.Read.{Read as Found}
use Rattle.hub_pieces.specs.declared.all_rows.Read.TheVariants.{Rows, Unclean}
use Rattle.hub_pieces.proofs.Telling.{at_once, follows, then}

module _ {S : Type 0} (content : S → Tables) (honest : S → Type 0) where
  -- Rows of a kind.

  pub told_read : {X : Type 0} (key_of : X → RowKey) (clean : X → Bool) (rows : Tables → List X) (kind : RowKind)
      → ((t : Tables) (key : RowKey) → FailsTest key_of clean (rows t) key → ShowsUnclean t kind key)
      → (old new : S) (read : Found X) (found : Option Finding) → found ≡ unclean_of kind read
      → Tells content honest (λ t. IsRead key_of clean (rows t)) old new (Ok read)
      → Tells content honest (ToldUnclean (λ t. list_all clean (rows t) ≡ true)) old new (Ok found)
  told_read key_of clean rows kind shows old new read found is it =
      follows content honest (λ t. IsRead key_of clean (rows t)) (ToldUnclean (λ t. list_all clean (rows t) ≡ true)) old new read found
      (λ t. subst (λ o. IsRead key_of clean (rows t) read → ToldUnclean (λ t. list_all clean (rows t) ≡ true) t o) (sym is) (by t read)) it
    where
      by : (t : Tables) (r : Found _) → IsRead key_of clean (rows t) r
          → ToldUnclean (λ t. list_all clean (rows t) ≡ true) t (unclean_of kind r)
      by t (Rows found) h = h.1
      by t (Unclean key) h = shows t key h

  -- Findings.

  pub stop : (P Q : Tables → Type 0) (old mid : S) (o : Option Finding) (f : Finding) → o ≡ Some f
      → Tells content honest (ToldUnclean P) old mid (Ok o) → Tells content honest (ToldUnclean Q) old mid (Ok (Some f))
  stop P Q old mid o f is =
      follows content honest (ToldUnclean P) (ToldUnclean Q) old mid o (Some f) (λ t h. subst (ToldUnclean P t) is h)

  pub go_on : (P Q R : Tables → Type 0) (old mid new : S) (o : Option Finding) → o ≡ None
      → ((t : Tables) → P t → Q t → R t)
      → Tells content honest (ToldUnclean P) old mid (Ok o)
      → (result : Result (Option Finding) StoreFault) → Tells content honest (ToldUnclean Q) mid new result
      → Tells content honest (ToldUnclean R) old new result
  go_on P Q R old mid new o is so =
      then content honest (ToldUnclean P) (ToldUnclean Q) (ToldUnclean R) old mid new o (λ t h. by t (subst (ToldUnclean P t) is h))
    where
      by : (t : Tables) → P t → (found : Option Finding) → ToldUnclean Q t found → ToldUnclean R t found
      by t p None q = so t p q
      by t p (Some f) q = q

  pub stop_unsound : (P Q : Tables → Type 0) (old mid : S) (o : Option Finding) (f : Finding) → o ≡ Some f
      → Tells content honest (ToldUnsound P) old mid (Ok o) → Tells content honest (ToldUnsound Q) old mid (Ok (Some f))
  stop_unsound P Q old mid o f is =
      follows content honest (ToldUnsound P) (ToldUnsound Q) old mid o (Some f) (λ t h. subst (ToldUnsound P t) is h)

  pub go_on_unsound : (P Q R : Tables → Type 0) (old mid new : S) (o : Option Finding) → o ≡ None
      → ((t : Tables) → P t → Q t → R t)
      → Tells content honest (ToldUnsound P) old mid (Ok o)
      → (result : Result (Option Finding) StoreFault) → Tells content honest (ToldUnsound Q) mid new result
      → Tells content honest (ToldUnsound R) old new result
  go_on_unsound P Q R old mid new o is so =
      then content honest (ToldUnsound P) (ToldUnsound Q) (ToldUnsound R) old mid new o (λ t h. by t (subst (ToldUnsound P t) is h))
    where
      by : (t : Tables) → P t → (found : Option Finding) → ToldUnsound Q t found → ToldUnsound R t found
      by t p None q = so t p q
      by t p (Some f) q = q

  -- Loops over rows, each of which is looked up.

  module _ {X : Type 0} (p : Tables → X → Bool) (xs : List X) where
    abbrev pub SoFar : ℕ → Tables → Unit {0} → Type 0
    SoFar i t u = find (λ x. not (p t x)) xs ≡ find (λ x. not (p t x)) (drop i xs)

    abbrev pub IsFirstFailing : Tables → Option (Bor X) → Type 0
    IsFirstFailing t found = option_copied found ≡ find (λ x. not (p t x)) xs

    pub begins : (s : S) → Tells content honest (SoFar 0) s s (Ok tt)
    begins s = at_once content honest (SoFar 0) s tt refl

    module _ (i : ℕ) (x : X) (inside : i < length xs) (at : x ≡ get_or xs i x) (old mid new : S)
        (so_far : Tells content honest (SoFar i) old mid (Ok tt)) (b : Bool)
        (looked : Tells content honest (λ t b. b ≡ p t x) mid new (Ok b)) where
      both : Tells content honest (λ t b. SoFar i t tt × (b ≡ p t x)) old new (Ok b)
      both = then content honest (SoFar i) (λ t b. b ≡ p t x)
          (λ t b. SoFar i t tt × (b ≡ p t x)) old mid new tt (λ t h y is. (h, is)) so_far (Ok b) looked

      pub passes : b ≡ true → Tells content honest (SoFar (i + 1)) old new (Ok tt)
      passes holds = follows content honest (λ t b. SoFar i t tt × (b ≡ p t x)) (SoFar (i + 1)) old new b tt
          (λ t h. find_next xs i x inside at (λ x. not (p t x)) (ap not (sym h.1 ∙ holds)) h.0) both

      pub fails : b ≡ false → (found : Bor X) → found.now ≡ x → Tells content honest IsFirstFailing old new (Ok (Some found))
      fails other found is = follows content honest (λ t b. SoFar i t tt × (b ≡ p t x)) IsFirstFailing old new b (Some found)
          (λ t h. ap Some is ∙ find_here xs i x inside at (λ x. not (p t x)) (ap not (sym h.1 ∙ other)) h.0) both

    pub ends : (i : ℕ) → length xs ≤ i → (old mid : S) → Tells content honest (SoFar i) old mid (Ok tt)
        → Tells content honest IsFirstFailing old mid (Ok None)
    ends i over old mid = follows content honest (SoFar i) IsFirstFailing old mid tt None (λ t h. find_none (λ x. not (p t x)) xs i over h)
