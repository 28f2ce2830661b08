-- Proves what a call does that changes a key.
use Rattle.std.proofs.Common.{◌≡◌, inl, inr, ℕ, true, false, cond, ◌||◌, List, [], ◌∷◌, map, Option, Some, None, Result, Ok, Err}
use Rattle.std.proofs.Common.{option_map, refl, sym, ap, subst, ◌∙◌}
use Rattle.std.specs.List.{list_any}
use Rattle.hub_parties.specs.Key.{is_party_key}
use Rattle.hub_parties.specs.KeyOrder.{replace}
use Rattle.hub_parties.specs.Rows.{RegisterRows, row_of}
use Rattle.hub_parties.specs.declared.row.SupplierRow.{SupplierRow}
use Rattle.hub_tables.specs.Change.{apply}
use Rattle.hub_tables.specs.Register.{has_key, hub_in, register_of, row_in, suppliers_of}
use Rattle.hub_tables.specs.Rows.{same, same_hub}
use Rattle.hub_tables.specs.Sets.{Fit, Rising, clears}
use Rattle.hub_tables.specs.Tables.{Tables}
use Rattle.hub_tables.specs.declared.change.Change.{Change}
use Rattle.hub_tables.specs.declared.change.Change.TheVariants.{SetHub, SetKey}
use Rattle.hub_tables.specs.declared.rows.HubRow.{HubRow}
use Rattle.hub_tables.specs.declared.rows.KeyRow.{KeyRow}
use Rattle.hub_tables.proofs.Back.{fit_uncleared}
use Rattle.hub_tables.proofs.Enrolling.{key_found}
use Rattle.hub_tables.proofs.Lists.{none_if_not_found, same_if}
use Rattle.hub_store.specs.Calls.{Commits, Looks}
use Rattle.hub_store.specs.declared.fault.StoreFault.{StoreFault}
use Rattle.hub_store.specs.declared.store.Store.{Ghosts}
use Rattle.hub_law.specs.HubRules.Laws.{SoundHub}
use Rattle.hub_law.proofs.Agreeing.{sound_rises}
use Rattle.hub_rekey.specs.KeyChange.{Rekeys, change_of, is_party, rekeyed, with_retailers}
use Rattle.hub_rekey.specs.declared.key_change.KeyOwner.{KeyOwner}
use Rattle.hub_rekey.specs.declared.key_change.KeyOwner.TheVariants.{Retailer, Supplier}
use Rattle.hub_rekey.specs.declared.key_change.Rekeyed.{Rekeyed}
use Rattle.hub_rekey.specs.declared.key_change.Rekeyed.TheVariants.{Done, Unknown}
use Rattle.hub_rekey.proofs.Tables.{key_is_set, rekeyed_sound}

-- a supplier without a row has no key
no_key : (gln : List ℕ) (t : Tables) → row_of (register_of t) gln ≡ None → has_key t.keys gln ≡ false
no_key gln t none = sym (by_keys t.keys) ∙ none_if_not_found (λ supplier. same supplier.gln gln) (suppliers_of t) none
  where
    by_keys : (keys : List KeyRow)
        → list_any (λ supplier. same supplier.gln gln) (map (row_in t.prefixes) keys) ≡ has_key keys gln
    by_keys [] = refl
    by_keys (row ∷ keys) = ap (λ v. same row.supplier gln || v) (by_keys keys)

-- the hub's row with a new key of its retailer
abbrev hub_row : List ℕ → Tables → HubRow
hub_row key t = record { hub = (hub_in t.hubs).hub; retailer = (hub_in t.hubs).retailer; key = key }

hub_is_set : (key : List ℕ) (t : Tables) → SoundHub t → apply (SetHub (hub_row key t)) t ≡ rekeyed Retailer key t
hub_is_set key t here =
    let hub = here.register.hub in
    ap (λ rows. record t { hubs = rows })
    (subst (λ hubs. replace (same_hub (row hubs)) (row hubs) hubs ≡ map (with_retailers key) hubs) (sym here.register.one_hub)
    (ap (λ v. cond v (with_retailers key hub) hub ∷ []) (same_if hub.hub hub.hub refl)))
  where
    row : List HubRow → HubRow
    row hubs = record { hub = (hub_in hubs).hub; retailer = (hub_in hubs).retailer; key = key }

-- What the change made for a register does to tables that hold this register.
pub record Changes (owner : KeyOwner) (key : List ℕ) (t : Tables) (change : Change) : Type 0 where
  pub party : is_party owner t ≡ true
  pub makes : apply change t ≡ rekeyed owner key t
  pub clears_none : clears change ≡ false

module _ (key : List ℕ) (t : Tables) (here : SoundHub t) where
  by_row : (gln : List ℕ) (change : Change) (found : Option SupplierRow) → row_of (register_of t) gln ≡ found
      → option_map (λ _. SetKey (record { supplier = gln; key = key })) found ≡ Some change
      → Changes (Supplier gln) key t change
  by_row gln change None is e = absurd (cc (e))
  by_row gln change (Some row) is e =
      subst (Changes (Supplier gln) key t) (some_is e)
      (record { party = key_found t gln row is; makes = key_is_set gln key t; clears_none = refl })
    where
      some_is : {a b : Change} → Some a ≡ Some b → a ≡ b
      some_is e = cc

  pub changes_so : (owner : KeyOwner) (change : Change) → change_of (register_of t) owner key ≡ Some change → Changes owner key t change
  changes_so Retailer change e =
      subst (Changes Retailer key t) (some_is e) (record { party = refl; makes = hub_is_set key t here; clears_none = refl })
    where
      some_is : {a b : Change} → Some a ≡ Some b → a ≡ b
      some_is e = cc
  changes_so (Supplier gln) change e = by_row gln change (row_of (register_of t) gln) refl e

  pub no_party : (owner : KeyOwner) → change_of (register_of t) owner key ≡ None → is_party owner t ≡ false
  no_party Retailer e = absurd (cc (e))
  no_party (Supplier gln) e = no_key gln t (none_found (row_of (register_of t) gln) e)
    where
      none_found : (found : Option SupplierRow)
          → option_map (λ _. SetKey (record { supplier = gln; key = key })) found ≡ None
          → found ≡ None
      none_found None e = refl
      none_found (Some row) e = absurd (cc (e))

  -- it fits
  pub fits : is_party_key key ≡ true → (owner : KeyOwner) (change : Change) → Changes owner key t change → Fit (change ∷ []) t
  fits right owner change so =
      fit_uncleared (change ∷ []) t (so.clears_none, tt)
      (subst Rising (sym so.makes) (sound_rises (rekeyed owner key t) (rekeyed_sound owner key t right here)))

-- The call.
module _ {S : Type 0} (g : Ghosts S) (old middle : S) (owner : KeyOwner) (key : List ℕ) (register : RegisterRows)
    (here : g.honest old → SoundHub (g.content old))
    (looked : Looks g.content g.honest g.left g.broken old middle (register_of (g.content old)) (Ok register)) where
  of_tables : (found : Option Change) → change_of register owner key ≡ found → g.honest middle
      → change_of (register_of (g.content old)) owner key ≡ found
  of_tables found is h = ap (λ r. change_of r owner key) (sym (looked.answers h)) ∙ is

  -- there is no such party
  pub unknown : change_of register owner key ≡ None → Rekeys g old middle owner key (Ok Unknown)
  unknown none = record {
    done = λ h e. absurd (cc (e));
    durable = λ h e. absurd (cc (e));
    unknown = λ h e. (
      no_party key (g.content old) (here (looked.was_honest h)) owner (of_tables None none h),
      looked.content_stays h,
    );
    same = λ h. tt;
    crash = λ h t l. inl (looked.left_stays h t l);
    was_honest = looked.was_honest;
  }

  module _ (new : S) (change : Change) (right : is_party_key key ≡ true) (is : change_of register owner key ≡ Some change)
      {X : Type 0} (result : Result X StoreFault) (told : Commits g.content g.honest g.left g.broken middle new (change ∷ []) result) where
    abbrev at_first : g.honest new → g.honest old
    at_first h = looked.was_honest (told.was_honest h)

    abbrev so : g.honest new → Changes owner key (g.content old) change
    so h = changes_so key (g.content old) (here (at_first h)) owner change (of_tables (Some change) is (told.was_honest h))

    abbrev stayed : g.honest new → g.content middle ≡ g.content old
    stayed h = looked.content_stays (told.was_honest h)

    fit : g.honest new → Fit (change ∷ []) (g.content middle)
    fit h = subst (Fit (change ∷ [])) (sym (stayed h)) (fits key (g.content old) (here (at_first h)) right owner change (so h))

    made : g.honest new → apply change (g.content middle) ≡ rekeyed owner key (g.content old)
    made h = ap (apply change) (stayed h) ∙ (so h).makes

  module _ (new : S) (change : Change) (right : is_party_key key ≡ true) (is : change_of register owner key ≡ Some change) where
    -- the store failed to commit it
    pub failed : {X : Type 0} (fault : StoreFault) (result : Result Rekeyed StoreFault) → result ≡ Err fault
        → (other : StoreFault)
        → Commits {X = X} g.content g.honest g.left g.broken middle new (change ∷ []) (Err other)
        → Rekeys g old new owner key result
    failed fault result is_failed other told =
        subst (λ (r : Result Rekeyed StoreFault). Rekeys g old new owner key r) (sym is_failed) (record {
          done = λ h e. absurd (cc (e));
          durable = λ h e. absurd (cc (e));
          unknown = λ h e. absurd (cc (e));
          same = λ h. told.kept h ∙ stayed new change right is (Err other) told h;
          crash = λ h t l. elim (told.crash h t l) [
            | inl e ↦ inl (looked.left_stays (told.was_honest h) t e)
            | inr e ↦ inr (e.1 ∙ made new change right is (Err other) told h)
          ];
          was_honest = λ h. looked.was_honest (told.was_honest h);
        })

    -- the store committed it
    pub done : {X : Type 0} (x : X) → Commits g.content g.honest g.left g.broken middle new (change ∷ []) (Ok x)
        → Rekeys g old new owner key (Ok Done)
    done x told =
        let becomes : (h : g.honest new) → g.content new ≡ rekeyed owner key (g.content old) =
        λ h. told.done h (fit new change right is (Ok x) told h) ∙ made new change right is (Ok x) told h in
        record {
          done = λ h e. ((so new change right is (Ok x) told h).party, becomes h);
          durable = λ h e. told.durable h;
          unknown = λ h e. absurd (cc (e));
          same = λ h. tt;
          crash = λ h t l. inr (told.durable h t l ∙ becomes h);
          was_honest = λ h. looked.was_honest (told.was_honest h);
        }
