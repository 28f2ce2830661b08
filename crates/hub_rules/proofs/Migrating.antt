-- Shows that founding a register beside sound rows that it fits gives sound tables.
use Rattle.std.proofs.Common.{◌≡◌, true, List, [], ◌∷◌, Option, None, Some, refl, sym, ap, subst}
use Rattle.std.specs.List.{AllByRecursion, list_all}
use Rattle.std.proofs.lemmas.Bool.{and_parts}
use Rattle.gs1_ids.specs.Digits.{is_key}
use Rattle.gs1_ids.specs.Sscc.{under_some}
use Rattle.hub_parties.specs.Rows.{RegisterRows, IsRegister, row_of}
use Rattle.hub_parties.specs.declared.row.SupplierRow.{SupplierRow}
use Rattle.hub_tables.specs.Register.{register_changes, suppliers_of}
use Rattle.hub_tables.specs.Tables.{Tables, Ordered}
use Rattle.hub_tables.specs.declared.rows.PalletRow.{PalletRow}
use Rattle.hub_tables.proofs.KindOrders.{ordered_after_all}
use Rattle.hub_founding.specs.Fits.{fits, fits_pallet, is_registered, is_under, founded_beside}
use Rattle.hub_founding.proofs.Beside.{only_parties, held_beside, back_beside}
use Rattle.hub_rules.specs.Laws.{SoundHub}
use Rattle.hub_rules.specs.Sound.{IsRooted, Rooted, Sound}
use Rattle.hub_rules.proofs.Joining.{kept_beside}

module _ (register : RegisterRows) where
  rooted_under : (pallet : PalletRow) (found : Option SupplierRow) → row_of register pallet.supplier ≡ found
      → is_under found pallet.sscc ≡ true → IsRooted register.suppliers pallet
  rooted_under pallet None is under = absurd (let bad = under in cc)
  rooted_under pallet (Some s) is under = record {
    supplier = s;
    known = is;
    is_under = (and_parts (is_key 18 pallet.sscc) (under_some pallet.sscc s.prefixes) under).1;
  }

  all_rooted : (pallets : List PalletRow) → list_all (fits_pallet register) pallets ≡ true
      → AllByRecursion (IsRooted register.suppliers) pallets
  all_rooted [] fit = tt
  all_rooted (pallet ∷ pallets) fit =
      let parts = and_parts (fits_pallet register pallet) (list_all (fits_pallet register) pallets) fit in
      (rooted_under pallet (row_of register pallet.supplier) refl parts.0, all_rooted pallets parts.1)

  pallets_fit : (t : Tables) → fits register t ≡ true → list_all (fits_pallet register) t.pallets ≡ true
  pallets_fit t fit =
      let orders = and_parts (list_all (λ row. is_registered register row.supplier) t.orders) _ fit in
      let lines = and_parts (list_all (λ row. is_registered register row.supplier) t.lines) _ orders.1 in
      let advices = and_parts (list_all (λ row. is_registered register row.supplier) t.advices) _ lines.1 in
      (and_parts (list_all (fits_pallet register) t.pallets) _ advices.1).0

  pub sound_beside : (suppliers : List SupplierRow) (t : Tables) → IsRegister register
      → t.hubs ≡ [] → t.keys ≡ [] → t.prefixes ≡ []
      → Sound suppliers t → fits register t ≡ true
      → SoundHub (founded_beside t register)
  sound_beside suppliers t right hubs keys prefixes sound fit =
      let after = founded_beside t register in
      let only = only_parties t register in
      let theirs : suppliers_of after ≡ register.suppliers =
      ap (λ (r : RegisterRows). r.suppliers) (back_beside t register right hubs keys prefixes) in
      record {
        register = held_beside t register right hubs keys prefixes;
        sound = record {
          rooted = subst (Rooted (suppliers_of after)) (sym only) (record {
            ordered = subst Ordered only (ordered_after_all (register_changes register) t sound.rooted.ordered);
            pallets =
                subst (λ s. AllByRecursion (IsRooted s) t.pallets) (sym theirs) (all_rooted t.pallets (pallets_fit t fit));
            contents = sound.rooted.contents;
            receipts = sound.rooted.receipts;
          });
          kept = λ gln. kept_beside t after only gln (sound.kept gln);
        };
      }
