-- What is told of the register, and of all.
use Rattle.std.proofs.Common.{◌≡◌, true, [], Option, None, Some, Ok, sym, subst}
use Rattle.std.specs.List.{list_all}
use Rattle.hub_founding.specs.Fits.{fits_pallet}
use Rattle.hub_founding.specs.Founding.{IsHeldBy}
use Rattle.hub_parties.specs.Rows.{RegisterRows}
use Rattle.hub_sound.specs.Finding.{pallet_key}
use Rattle.hub_sound.specs.Showing.{FailsTest, ShowsUnsound}
use Rattle.hub_sound.specs.declared.finding.Finding.{Finding}
use Rattle.hub_sound.specs.declared.finding.RowKind.TheVariants as kinds
use Rattle.hub_sound.proofs.Showing.{unclean_shows, shows_none, checked_sound}
use Rattle.hub_store.specs.Clean.{are_clean}
use Rattle.hub_tables.specs.Sets.{Rising}
use Rattle.hub_tables.specs.Tables.{Tables}
use Rattle.hub_pieces.specs.AllRows.{Tells}
use Rattle.hub_verify.specs.Cross.{TellsRooted, PartiesFit, RowsFit}
use Rattle.hub_verify.specs.Goods.{TellsOfAll}
use Rattle.hub_verify.specs.Verdict.{ToldUnclean, ToldUnsound, IsVerdict}
use Rattle.hub_verify.specs.declared.verdict.RowsVerdict.{RowsVerdict as Judged}
use Rattle.hub_verify.specs.declared.verdict.RowsVerdict.TheVariants.{Sound, Unclean, Unsound}
use Rattle.hub_pieces.proofs.Telling.{follows, then}

module _ {S : Type 0} (content : S → Tables) (honest : S → Type 0) where
  pub no_register_told : (old mid : S) (held : Option RegisterRows) → held ≡ None → (found : Finding)
      → (found.kind ≡ kinds.Hub) × (found.key ≡ [])
      → Tells content honest IsHeldBy old mid (Ok held) → Tells content honest (ToldUnsound PartiesFit) old mid (Ok (Some found))
  no_register_told old mid held none found hub =
      follows content honest IsHeldBy (ToldUnsound PartiesFit) old mid held (Some found)
      (λ t h. subst (λ kind. ShowsUnsound t kind found.key) (sym hub.0) (subst (IsHeldBy t) none h, hub.1))

  pub parties_told : (old mid new : S) (held : Option RegisterRows) (register : RegisterRows) → held ≡ Some register
      → (found : Option Finding)
      → Tells content honest IsHeldBy old mid (Ok held)
      → Tells content honest (TellsRooted register) mid new (Ok found)
      → Tells content honest (ToldUnsound PartiesFit) old new (Ok found)
  parties_told old mid new held register some found a b =
      then content honest IsHeldBy (TellsRooted register) (ToldUnsound PartiesFit) old mid new held
      (λ t h f it. one t (subst (IsHeldBy t) some h) f it) a (Ok found) b
    where
      one : (t : Tables) → IsHeldBy t (Some register) → (f : Option Finding) → TellsRooted register t f → ToldUnsound PartiesFit t f
      one t h None it = record { register = h.0; pallets = subst (λ r. list_all (fits_pallet r) t.pallets ≡ true) h.1 it }
      one t h (Some f) it =
          subst (λ kind. ShowsUnsound t kind f.key) (sym it.0) (subst (λ r. FailsTest pallet_key (fits_pallet r) t.pallets f.key) h.1 it.1)

  -- The verdict.

  abbrev pub SaysVerdict : Tables → Judged → Type 0
  SaysVerdict t verdict = Rising t → IsVerdict t verdict

  abbrev Clean : Tables → Type 0
  Clean t = are_clean t ≡ true

  pub unclean_told : (old mid : S) (o : Option Finding) (f : Finding) → o ≡ Some f
      → Tells content honest (ToldUnclean Clean) old mid (Ok o) → Tells content honest SaysVerdict old mid (Ok (Unclean f))
  unclean_told old mid o f some =
      follows content honest (ToldUnclean Clean) SaysVerdict old mid o (Unclean f)
      (λ t h rising. let it = subst (ToldUnclean Clean t) some h in (unclean_shows t f.kind f.key it, it))

  -- clean rows, and what was found of them then
  abbrev pub CleanAnd : {X : Type 0} → (Tables → X → Type 0) → Tables → X → Type 0
  CleanAnd says t x = Clean t × says t x

  pub clean_told : {X : Type 0} (says : Tables → X → Type 0) (old mid new : S) (o : Option Finding) → o ≡ None → (x : X)
      → Tells content honest (ToldUnclean Clean) old mid (Ok o) → Tells content honest says mid new (Ok x)
      → Tells content honest (CleanAnd says) old new (Ok x)
  clean_told says old mid new o none x a b =
      then content honest (ToldUnclean Clean) says (CleanAnd says) old mid new o
      (λ t h y it. (subst (ToldUnclean Clean t) none h, it)) a (Ok x) b

  shown : (t : Tables) (f : Finding) → Clean t → ShowsUnsound t f.kind f.key → IsVerdict t (Unsound f)
  shown t f clean it = (clean, λ hub. shows_none t clean hub f.kind f.key it, it)

  pub lacking_told : (old new : S) (o : Option Finding) (f : Finding) → o ≡ Some f
      → Tells content honest (CleanAnd (ToldUnsound RowsFit)) old new (Ok o) → Tells content honest SaysVerdict old new (Ok (Unsound f))
  lacking_told old new o f some =
      follows content honest (CleanAnd (ToldUnsound RowsFit)) SaysVerdict old new o (Unsound f)
      (λ t h rising. shown t f h.0 (subst (ToldUnsound RowsFit t) some h.1))

  abbrev pub OfAll : Tables → Option Finding → Type 0
  OfAll t found = Rising t → are_clean t ≡ true → TellsOfAll t found

  abbrev pub FitAnd : Tables → Option Finding → Type 0
  FitAnd t found = Clean t × (RowsFit t × OfAll t found)

  pub fit_told : (old mid new : S) (o : Option Finding) → o ≡ None → (x : Option Finding)
      → Tells content honest (CleanAnd (ToldUnsound RowsFit)) old mid (Ok o) → Tells content honest OfAll mid new (Ok x)
      → Tells content honest FitAnd old new (Ok x)
  fit_told old mid new o none x a b =
      then content honest (CleanAnd (ToldUnsound RowsFit)) OfAll FitAnd old mid new o
      (λ t h y it. (h.0, (subst (ToldUnsound RowsFit t) none h.1, it))) a (Ok x) b

  pub misfit_told : (old new : S) (o : Option Finding) (f : Finding) → o ≡ Some f
      → Tells content honest FitAnd old new (Ok o) → Tells content honest SaysVerdict old new (Ok (Unsound f))
  misfit_told old new o f some =
      follows content honest FitAnd SaysVerdict old new o (Unsound f)
      (λ t h rising. shown t f h.0 (subst (TellsOfAll t) some (h.1.1 rising h.0)))

  pub sound_told : (old new : S) (o : Option Finding) → o ≡ None
      → Tells content honest FitAnd old new (Ok o) → Tells content honest SaysVerdict old new (Ok Sound)
  sound_told old new o none =
      follows content honest FitAnd SaysVerdict old new o Sound
      (λ t h rising.
      let goods = subst (TellsOfAll t) none (h.1.1 rising h.0) in
      let fit = h.1.0 in (
        h.0,
        checked_sound t rising h.0 goods.0 (record {
          register = fit.parties.register;
          pallets = fit.parties.pallets;
          orders = fit.orders;
          contents = fit.contents;
          receipts = fit.receipts;
          mail = fit.mail;
          settled = goods.2;
          of_lines = goods.1.lines;
          of_pallets = goods.1.pallets;
        }),
      ))
