-- Proves that tables with a changed key still hold a register and are as sound as before, and that suppliers see them
-- unchanged.
use Rattle.std.proofs.Common.{◌≡◌, ◌≢◌, ℕ, suc, ◌≤◌, Bool, true, false, cond, ◌||◌, List, [], ◌∷◌, filter, map, length, Some}
use Rattle.std.proofs.Common.{option_map, IsTrue, refl, sym, ap, ap₂, subst, ◌∙◌}
use Rattle.std.specs.List.{AllByRecursion, list_all}
use Rattle.std.proofs.lemmas.Bool.{and_parts, and_from}
use Rattle.std.proofs.lemmas.Map.Text.{is_eq-slice_cmp}
use Rattle.edi_base.specs.Seen.{has_twice}
use Rattle.gs1_ids.specs.Gln.{is_gln}
use Rattle.gs1_ids.specs.Sscc.{under_some}
use Rattle.gs1_ids.specs.Overlap.{PrefixFree}
use Rattle.hub_parties.specs.Key.{is_party_key}
use Rattle.hub_parties.specs.KeyOrder.{InOrder, Rises, bytes_cmp, replace}
use Rattle.hub_parties.specs.Prefixes.{are_company_prefixes}
use Rattle.hub_parties.specs.Rows.{IsRegister, most_suppliers, parties_of, supplier_row}
use Rattle.hub_parties.specs.declared.row.SupplierRow.{SupplierRow}
use Rattle.hub_tables.specs.Change.{apply}
use Rattle.hub_tables.specs.Register.{HoldsRegister, has_key, hub_in, parties_in, register_by, row_in, suppliers_of}
use Rattle.hub_tables.specs.Rows.{hub_cmp, key_cmp, same, same_key}
use Rattle.hub_tables.specs.Tables.{Tables, Ordered, view}
use Rattle.hub_tables.specs.declared.change.Change.TheVariants.{SetKey}
use Rattle.hub_tables.specs.declared.rows.HubRow.{HubRow}
use Rattle.hub_tables.specs.declared.rows.KeyRow.{KeyRow}
use Rattle.hub_tables.specs.declared.rows.PalletRow.{PalletRow}
use Rattle.hub_tables.specs.declared.rows.PrefixRow.{PrefixRow}
use Rattle.hub_tables.proofs.KindOrders.{key_total, ordered_after}
use Rattle.hub_tables.proofs.Lists.{all_weaker, differ, same_is}
use Rattle.hub_tables.proofs.Setting.{rises_set}
use Rattle.hub_law.specs.HubRules.Laws.{SoundHub}
use Rattle.hub_law.specs.HubRules.Sound.{IsRooted, Kept, Rooted}
use Rattle.hub_rekey.specs.KeyChange.{rekeyed, with_retailers, with_suppliers}
use Rattle.hub_rekey.specs.declared.key_change.KeyOwner.{KeyOwner}
use Rattle.hub_rekey.specs.declared.key_change.KeyOwner.TheVariants.{Retailer, Supplier}

-- A function that changes some rows of a list.
module _ {X : Type 0} (f : X → X) where
  map_stays : {Y : Type 0} (g : X → Y) → ((x : X) → g (f x) ≡ g x) → (xs : List X) → map g (map f xs) ≡ map g xs
  map_stays g e [] = refl
  map_stays g e (x ∷ xs) = ap₂ ◌∷◌ (e x) (map_stays g e xs)

  filter_stays : (p : X → Bool) → ((x : X) → p (f x) ≡ p x) → (xs : List X) → filter p (map f xs) ≡ map f (filter p xs)
  filter_stays p e [] = refl
  filter_stays p e (x ∷ xs) =
      ap (λ v. cond v (f x ∷ filter p (map f xs)) (filter p (map f xs))) (e x)
      ∙ elim (p x) as (λ v. cond v (f x ∷ filter p (map f xs)) (filter p (map f xs)) ≡ map f (cond v (x ∷ filter p xs) (filter p xs)))
      [ true ↦ ap (λ rest. f x ∷ rest) (filter_stays p e xs) | false ↦ filter_stays p e xs ]

  length_stays : (xs : List X) → length (map f xs) ≡ length xs
  length_stays [] = refl
  length_stays (x ∷ xs) = ap suc (length_stays xs)

-- The rows of suppliers.
module _ (gln key : List ℕ) where
  abbrev new_row : KeyRow
  new_row = record { supplier = gln; key = key }

  one_set : (row : KeyRow) → cond (same_key new_row row) new_row row ≡ with_suppliers gln key row
  one_set row =
      elim (same row.supplier gln) as (λ v. same row.supplier gln ≡ v → cond v new_row row ≡ cond v (record row { key = key }) row) [
        | true ↦ λ e. λ i. record { supplier = sym (same_is row.supplier gln e) i; key = key }
        | false ↦ λ e. refl
      ] refl

  all_set : (rows : List KeyRow) → replace (same_key new_row) new_row rows ≡ map (with_suppliers gln key) rows
  all_set [] = refl
  all_set (row ∷ rows) = ap₂ ◌∷◌ (one_set row) (all_set rows)

  -- the change makes exactly these tables
  pub key_is_set : (t : Tables) → apply (SetKey new_row) t ≡ rekeyed (Supplier gln) key t
  key_is_set t = ap (λ rows. record t { keys = rows }) (all_set t.keys)

  supplier_stays : (row : KeyRow) → (with_suppliers gln key row).supplier ≡ row.supplier
  supplier_stays row =
      elim (same row.supplier gln) as (λ v. (cond v (record row { key = key }) row).supplier ≡ row.supplier)
      [ true ↦ refl | false ↦ refl ]

  -- the register's row of a supplier, with the new key
  abbrev changed : SupplierRow → SupplierRow
  changed s = cond (same s.gln gln) (record s { key = key }) s

  changed_row : (prefixes : List PrefixRow) (row : KeyRow)
      → row_in prefixes (with_suppliers gln key row) ≡ changed (row_in prefixes row)
  changed_row prefixes row =
      elim (same row.supplier gln) as (λ v. row_in prefixes (cond v (record row { key = key }) row)
      ≡ cond v (record (row_in prefixes row) { key = key }) (row_in prefixes row))
      [ true ↦ refl | false ↦ refl ]

  suppliers_after : (prefixes : List PrefixRow) (rows : List KeyRow)
      → map (row_in prefixes) (map (with_suppliers gln key) rows) ≡ map changed (map (row_in prefixes) rows)
  suppliers_after prefixes [] = refl
  suppliers_after prefixes (row ∷ rows) = ap₂ ◌∷◌ (changed_row prefixes row) (suppliers_after prefixes rows)

  gln_stays : (s : SupplierRow) → (changed s).gln ≡ s.gln
  gln_stays s = elim (same s.gln gln) as (λ v. (cond v (record s { key = key }) s).gln ≡ s.gln) [ true ↦ refl | false ↦ refl ]

  prefixes_stay : (s : SupplierRow) → (changed s).prefixes ≡ s.prefixes
  prefixes_stay s =
      elim (same s.gln gln) as (λ v. (cond v (record s { key = key }) s).prefixes ≡ s.prefixes) [ true ↦ refl | false ↦ refl ]

  found_changed : (suppliers : List SupplierRow) (other : List ℕ)
      → supplier_row (map changed suppliers) other ≡ option_map changed (supplier_row suppliers other)
  found_changed [] other = refl
  found_changed (s ∷ suppliers) other =
      ap (λ name. cond (same name other) (Some (changed s)) (supplier_row (map changed suppliers) other)) (gln_stays s)
      ∙ elim (same s.gln other) as (λ v. cond v (Some (changed s)) (supplier_row (map changed suppliers) other)
      ≡ option_map changed (cond v (Some s) (supplier_row suppliers other)))
      [ true ↦ refl | false ↦ found_changed suppliers other ]

  keys_stay_right : is_party_key key ≡ true → (suppliers : List SupplierRow)
      → list_all is_party_key (map (λ (s : SupplierRow). s.key) suppliers) ≡ true
      → list_all is_party_key (map (λ (s : SupplierRow). s.key) (map changed suppliers)) ≡ true
  keys_stay_right right [] all = refl
  keys_stay_right right (s ∷ suppliers) all =
      let parts = and_parts (is_party_key s.key) _ all in
      and_from (is_party_key (changed s).key) _
      (elim (same s.gln gln) as (λ v. is_party_key (cond v (record s { key = key }) s).key ≡ true) [ true ↦ right | false ↦ parts.0 ])
      (keys_stay_right right suppliers parts.1)

  register_stays : is_party_key key ≡ true → (row : HubRow) (suppliers : List SupplierRow) → IsRegister (register_by row suppliers)
      → IsRegister (register_by row (map changed suppliers))
  register_stays right row suppliers before =
      let names = map_stays changed (λ (s : SupplierRow). s.gln) gln_stays suppliers in
      let prefixes = map_stays changed (λ (s : SupplierRow). s.prefixes) prefixes_stay suppliers in
      let keys = and_parts (is_party_key row.key) _ before.keys_right in
      record {
        few = subst (λ n. n ≤ most_suppliers) (sym (length_stays changed suppliers)) before.few;
        glns_right = subst (λ found. IsTrue (list_all is_gln (row.hub ∷ row.retailer ∷ found))) (sym names) before.glns_right;
        glns_apart = ap (λ found. has_twice (row.hub ∷ row.retailer ∷ found)) names ∙ before.glns_apart;
        prefixes_right = subst (λ found. IsTrue (list_all are_company_prefixes found)) (sym prefixes) before.prefixes_right;
        keys_right = and_from (is_party_key row.key) _ keys.0 (keys_stay_right right suppliers keys.1);
        prefixes_free = subst PrefixFree (sym prefixes) before.prefixes_free;
        suppliers_rise = subst (Rises bytes_cmp) (sym names) before.suppliers_rise;
      }

  had_still : (rows : List KeyRow) (other : List ℕ) → has_key (map (with_suppliers gln key) rows) other ≡ has_key rows other
  had_still [] other = refl
  had_still (row ∷ rows) other = ap₂ (λ a b. a || b) (ap (λ name. same name other) (supplier_stays row)) (had_still rows other)

  rooted_still : (suppliers : List SupplierRow) (pallet : PalletRow) → IsRooted suppliers pallet → IsRooted (map changed suppliers) pallet
  rooted_still suppliers pallet rooted = record {
    supplier = changed rooted.supplier;
    known = found_changed suppliers pallet.supplier ∙ ap (option_map changed) rooted.known;
    is_under = ap (under_some pallet.sscc) (prefixes_stay rooted.supplier) ∙ rooted.is_under;
  }

  module _ (right : is_party_key key ≡ true) (t : Tables) (here : SoundHub t) where
    abbrev after : Tables
    after = rekeyed (Supplier gln) key t

    holds : HoldsRegister after
    holds = record {
      hub = here.register.hub;
      one_hub = here.register.one_hub;
      keys_rise = subst (Rises key_cmp) (all_set t.keys)
          (rises_set key_total new_row (same_key new_row) (λ row. is_eq-slice_cmp row.supplier gln) t.keys here.register.keys_rise);
      prefixes_rise = here.register.prefixes_rise;
      prefixes_had = all_weaker (λ row. has_key t.keys row.supplier ≡ true) (λ row. has_key after.keys row.supplier ≡ true)
          (λ row had. had_still t.keys row.supplier ∙ had) t.prefixes here.register.prefixes_had;
      right = subst (λ suppliers. IsRegister (register_by (hub_in t.hubs) suppliers)) (sym (suppliers_after t.prefixes t.keys))
          (register_stays right (hub_in t.hubs) (suppliers_of t) here.register.right);
    }

    rooted : Rooted (suppliers_of after) after
    rooted = record {
      ordered = subst Ordered (key_is_set t) (ordered_after (SetKey new_row) t here.sound.rooted.ordered);
      pallets = subst (λ suppliers. AllByRecursion (IsRooted suppliers) t.pallets) (sym (suppliers_after t.prefixes t.keys))
          (all_weaker (IsRooted (suppliers_of t)) (IsRooted (map changed (suppliers_of t))) (rooted_still (suppliers_of t)) t.pallets
          here.sound.rooted.pallets);
      contents = here.sound.rooted.contents;
      receipts = here.sound.rooted.receipts;
    }

    pub supplier_sound : SoundHub after
    supplier_sound = record {
      register = holds;
      sound = record { rooted = rooted; kept = λ other. kept_still other (here.sound.kept other) };
    }
      where
        kept_still : (other : List ℕ) → Kept (view other t) → Kept (view other after)
        kept_still other kept = record {
          orders = kept.orders;
          lines = kept.lines;
          advices = kept.advices;
          pallets = kept.pallets;
          contents = kept.contents;
          receipts = kept.receipts;
          remembered = kept.remembered;
          mail = kept.mail;
          line_orders = kept.line_orders;
          content_lines = kept.content_lines;
          receipt_pallets = kept.receipt_pallets;
          balanced = kept.balanced;
        }

  -- What suppliers see.
  pub seen : (t : Tables) → view gln (rekeyed (Supplier gln) key t) ≡ rekeyed (Supplier gln) key (view gln t)
  seen t =
      ap (λ rows. record (view gln t) { keys = rows })
      (filter_stays (with_suppliers gln key) (λ row. same row.supplier gln) (λ row. ap (λ name. same name gln) (supplier_stays row)) t.keys)

  none_changed : (other : List ℕ) → other ≢ gln → (rows : List KeyRow)
      → filter (λ row. same row.supplier other) (map (with_suppliers gln key) rows) ≡ filter (λ row. same row.supplier other) rows
  none_changed other apart [] = refl
  none_changed other apart (row ∷ rows) =
      let rest = none_changed other apart rows in
      elim (same row.supplier gln) as (λ v. same row.supplier gln ≡ v
      → filter (λ row. same row.supplier other) (cond v (record row { key = key }) row ∷ map (with_suppliers gln key) rows)
      ≡ filter (λ row. same row.supplier other) (row ∷ rows)) [
        | true ↦ λ e.
            let out : same row.supplier other ≡ false =
            ap (λ name. same name other) (same_is row.supplier gln e) ∙ differ gln other (λ is. apart (sym is)) in
            ap (λ v. cond v (record row { key = key } ∷ filter (λ row. same row.supplier other) (map (with_suppliers gln key) rows))
            (filter (λ row. same row.supplier other) (map (with_suppliers gln key) rows))) out
            ∙ rest
            ∙ sym (ap (λ v. cond v (row ∷ filter (λ row. same row.supplier other) rows) (filter (λ row. same row.supplier other) rows)) out)
        | false ↦ λ e. ap (λ found. cond (same row.supplier other) (row ∷ found) found) rest
      ] refl

  pub unseen : (other : List ℕ) (t : Tables) → other ≢ gln → view other (rekeyed (Supplier gln) key t) ≡ view other t
  unseen other t apart = ap (λ rows. record (view other t) { keys = rows }) (none_changed other apart t.keys)

-- The retailer's key.
module _ (key : List ℕ) where
  retailer_right : is_party_key key ≡ true → (hubs : List HubRow) (suppliers : List SupplierRow)
      → IsRegister (register_by (hub_in hubs) suppliers)
      → IsRegister (register_by (hub_in (map (with_retailers key) hubs)) suppliers)
  retailer_right right [] suppliers before = before
  retailer_right right (row ∷ rows) suppliers before =
      let keys = and_parts (is_party_key row.key) _ before.keys_right in
      record {
        few = before.few;
        glns_right = before.glns_right;
        glns_apart = before.glns_apart;
        prefixes_right = before.prefixes_right;
        keys_right = and_from (is_party_key key) _ right keys.1;
        prefixes_free = before.prefixes_free;
        suppliers_rise = before.suppliers_rise;
      }

  pub retailer_sound : is_party_key key ≡ true → (t : Tables) → SoundHub t → SoundHub (rekeyed Retailer key t)
  retailer_sound right t here = record {
    register = record {
      hub = with_retailers key here.register.hub;
      one_hub = ap (map (with_retailers key)) here.register.one_hub;
      keys_rise = here.register.keys_rise;
      prefixes_rise = here.register.prefixes_rise;
      prefixes_had = here.register.prefixes_had;
      right = retailer_right right t.hubs (suppliers_of t) here.register.right;
    };
    sound = record {
      rooted = record {
        ordered = record {
          hubs = subst (InOrder hub_cmp) (sym (ap (map (with_retailers key)) here.register.one_hub)) (tt, tt);
          keys = here.sound.rooted.ordered.keys;
          prefixes = here.sound.rooted.ordered.prefixes;
          orders = here.sound.rooted.ordered.orders;
          lines = here.sound.rooted.ordered.lines;
          advices = here.sound.rooted.ordered.advices;
          pallets = here.sound.rooted.ordered.pallets;
          contents = here.sound.rooted.ordered.contents;
          receipts = here.sound.rooted.ordered.receipts;
          remembered = here.sound.rooted.ordered.remembered;
          mail = here.sound.rooted.ordered.mail;
        };
        pallets = here.sound.rooted.pallets;
        contents = here.sound.rooted.contents;
        receipts = here.sound.rooted.receipts;
      };
      kept = here.sound.kept;
    };
  }

  pub retailer_parties : (hubs : List HubRow) (suppliers : List SupplierRow)
      → parties_of (register_by (hub_in (map (with_retailers key) hubs)) suppliers) ≡ parties_of (register_by (hub_in hubs) suppliers)
  retailer_parties [] suppliers = refl
  retailer_parties (row ∷ rows) suppliers = refl

pub rekeyed_sound : (owner : KeyOwner) (key : List ℕ) (t : Tables) → is_party_key key ≡ true → SoundHub t → SoundHub (rekeyed owner key t)
rekeyed_sound Retailer key t right here = retailer_sound key right t here
rekeyed_sound (Supplier gln) key t right here = supplier_sound gln key right t here

pub parties_stay : (owner : KeyOwner) (key : List ℕ) (t : Tables) → parties_in (rekeyed owner key t) ≡ parties_in t
parties_stay Retailer key t = retailer_parties key t.hubs (suppliers_of t)
parties_stay (Supplier gln) key t = refl
