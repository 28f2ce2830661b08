-- Shows that founding a register beside other rows affects only the rows of the register.
use Rattle.std.proofs.Common.{◌≡◌, ℕ, List, [], ◌∷◌, ◌++◌, refl, sym, ap, subst, ◌∙◌}
use Rattle.hub_parties.specs.Rows.{RegisterRows, IsRegister}
use Rattle.hub_parties.specs.declared.row.SupplierRow.{SupplierRow}
use Rattle.hub_tables.specs.Change.{apply, apply_all}
use Rattle.hub_tables.specs.Register.{HoldsRegister, register_of, register_changes, suppliers_changes, prefix_changes, founded}
use Rattle.hub_tables.specs.Tables.{Tables, empty}
use Rattle.hub_tables.specs.declared.change.Change.{Change}
use Rattle.hub_tables.specs.declared.change.Change.TheVariants.{AddHub, AddKey, AddPrefix}
use Rattle.hub_tables.proofs.Founding.{OnlyParties, holds_register, register_back}
use Rattle.hub_founding.specs.Fits.{founded_beside, KeepsOtherRows}

-- the tables `t`, with the hub, keys and prefixes of `u`
abbrev with_parties : Tables → Tables → Tables
with_parties u t = record t { hubs = u.hubs; keys = u.keys; prefixes = u.prefixes }

module _ (t : Tables) where
  -- the changes do to the rows of the register what they would do alone
  abbrev ActApart : List Change → Type 0
  ActApart changes = (u : Tables) → apply_all changes (with_parties u t) ≡ with_parties (apply_all changes u) t

  prefixes_apart : (supplier : List ℕ) (prefixes : List (List ℕ)) (rest : List Change) → ActApart rest
      → ActApart (prefix_changes supplier prefixes ++ rest)
  prefixes_apart supplier [] rest apart = apart
  prefixes_apart supplier (prefix ∷ prefixes) rest apart = λ u.
      prefixes_apart supplier prefixes rest apart (apply (AddPrefix (record { prefix = prefix; supplier = supplier })) u)

  suppliers_apart : (rows : List SupplierRow) → ActApart (suppliers_changes rows)
  suppliers_apart [] = λ u. refl
  suppliers_apart (row ∷ rows) = λ u.
      prefixes_apart row.gln row.prefixes (suppliers_changes rows) (suppliers_apart rows)
      (apply (AddKey (record { supplier = row.gln; key = row.key })) u)

  all_apart : (register : RegisterRows) → ActApart (register_changes register)
  all_apart register = λ u.
      suppliers_apart register.suppliers
      (apply (AddHub (record { hub = register.hub; retailer = register.retailer; key = register.retailer_key })) u)

  pub only_parties : (register : RegisterRows) → OnlyParties t (founded_beside t register)
  only_parties register = all_apart register t

  pub others_stay : (register : RegisterRows) → KeepsOtherRows t (founded_beside t register)
  others_stay register =
      let is = only_parties register in
      record {
        orders = ap (λ (u : Tables). u.orders) is;
        lines = ap (λ (u : Tables). u.lines) is;
        advices = ap (λ (u : Tables). u.advices) is;
        pallets = ap (λ (u : Tables). u.pallets) is;
        contents = ap (λ (u : Tables). u.contents) is;
        receipts = ap (λ (u : Tables). u.receipts) is;
        remembered = ap (λ (u : Tables). u.remembered) is;
        mail = ap (λ (u : Tables). u.mail) is;
      }

  module _ (register : RegisterRows) (right : IsRegister register) (hubs : t.hubs ≡ []) (keys : t.keys ≡ [])
      (prefixes : t.prefixes ≡ []) where
    founded_is : founded_beside t register ≡ with_parties (founded register) t
    founded_is =
        let none : t ≡ with_parties empty t = λ i. record t { hubs = hubs i; keys = keys i; prefixes = prefixes i } in
        ap (apply_all (register_changes register)) none ∙ all_apart register empty

    pub held_beside : HoldsRegister (founded_beside t register)
    held_beside =
        let alone = holds_register register right in
        let here : HoldsRegister (with_parties (founded register) t) = record {
          hub = alone.hub;
          one_hub = alone.one_hub;
          keys_rise = alone.keys_rise;
          prefixes_rise = alone.prefixes_rise;
          prefixes_had = alone.prefixes_had;
          right = alone.right;
        } in
        subst HoldsRegister (sym founded_is) here

    pub back_beside : register_of (founded_beside t register) ≡ register
    back_beside = ap register_of founded_is ∙ register_back register right
