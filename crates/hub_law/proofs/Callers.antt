-- Decides the role of a caller by the row of its GLN: a supplier, or else the retailer, or else no one.
use Rattle.std.proofs.Common.{◌≡◌, ℕ, true, false, ◌&&◌, if◌then◌else◌, List, Option, Some, None, refl}
use Rattle.std.proofs.Common.{Bool}
use Rattle.std.proofs.lemmas.Bool.{and_parts}
use Rattle.hub_parties.specs.Rows.{RegisterRows, parties_of, row_of, role_by}
use Rattle.hub_parties.specs.declared.role.Role.TheVariants.{Retailer, Supplier}
use Rattle.hub_parties.specs.declared.row.SupplierRow.{SupplierRow}
use Rattle.hub_tables.specs.Rows.{same}
use Rattle.hub_tables.specs.Tables.{Tables, view}
use Rattle.hub_tables.proofs.Lists.{same_is}
use Rattle.hub_law.specs.Alone.{Item, supplier_step, own_items, retailer_items, items_under, items_as}
use Rattle.hub_law.specs.Machine.{step_under, step_as}
use Rattle.hub_law.specs.Mark.{Mark, replied}
use Rattle.hub_law.specs.Replies.{denied}
use Rattle.hub_law.specs.Requests.{supplier_request, retailer_request}
use Rattle.hub_requests.specs.declared.reply.Reply.{Reply}
use Rattle.hub_requests.specs.declared.request.Input.{Input}

abbrev pub is_retailers : RegisterRows → Input → Bool
is_retailers register input = same register.retailer input.caller && same register.retailer_key input.key

-- the step and the items, decided by the row
abbrev pub step_by : RegisterRows → Option SupplierRow → Input → Mark → Tables → Reply × Tables
step_by register (Some s) input mark t = supplier_step (view s.gln) (parties_of register) s input mark t
step_by register None input mark t =
    if is_retailers register input then retailer_request register input.moment mark input.request t
    else replied mark denied t

abbrev pub items_by : List ℕ → RegisterRows → Option SupplierRow → Input → Mark → List Item
items_by gln register (Some s) input mark = own_items gln input mark
items_by gln register None input mark =
    if is_retailers register input then retailer_items gln register input.moment mark input.request
    else own_items gln input mark

module _ (register : RegisterRows) (input : Input) (mark : Mark) where
  by_row : (t : Tables) (o : Option SupplierRow)
      → step_as register (role_by register o input.caller input.key) o input mark t ≡ step_by register o input mark t
  by_row t (Some s) =
      elim (same s.key input.key) as (λ v. step_as register (if v then Some Supplier else None) (Some s) input mark t
      ≡ (if v
      then supplier_request (view s.gln) (parties_of register) s input.moment mark input.request t
      else replied mark denied t)) [ true ↦ refl | false ↦ refl ]
  by_row t None =
      elim (is_retailers register input) as (λ v. step_as register (if v then Some Retailer else None) None input mark t
      ≡ (if v then retailer_request register input.moment mark input.request t else replied mark denied t))
      [ true ↦ refl | false ↦ refl ]

  pub step_is : (t : Tables) → step_under register t input mark ≡ step_by register (row_of register input.caller) input mark t
  step_is t = by_row t (row_of register input.caller)

  items_by_row : (gln : List ℕ) (o : Option SupplierRow)
      → items_as gln register (role_by register o input.caller input.key) input mark ≡ items_by gln register o input mark
  items_by_row gln (Some w) =
      elim (same w.key input.key) as
      (λ v. items_as gln register (if v then Some Supplier else None) input mark ≡ own_items gln input mark)
      [ true ↦ refl | false ↦ refl ]
  items_by_row gln None =
      elim (is_retailers register input) as (λ v. items_as gln register (if v then Some Retailer else None) input mark
      ≡ (if v then retailer_items gln register input.moment mark input.request else own_items gln input mark))
      [ true ↦ refl | false ↦ refl ]

  pub items_are : (gln : List ℕ) → items_under gln register input mark ≡ items_by gln register (row_of register input.caller) input mark
  items_are gln = items_by_row gln (row_of register input.caller)

-- a caller in the retailer's role has the retailer's GLN
pub retailer_asks : (register : RegisterRows) (input : Input) → is_retailers register input ≡ true → register.retailer ≡ input.caller
retailer_asks register input h =
    same_is register.retailer input.caller
    (and_parts (same register.retailer input.caller) (same register.retailer_key input.key) h).0

-- the retailer's role: the GLN has no row, and the key is the retailer's
pub as_retailer : (register : RegisterRows) (o : Option SupplierRow) (caller key : List ℕ)
    → role_by register o caller key ≡ Some Retailer
    → (same register.retailer caller && same register.retailer_key key) ≡ true
as_retailer register (Some s) caller key h =
    elim (same s.key key) as (λ v. (if v then Some Supplier else None) ≡ Some Retailer
    → (same register.retailer caller && same register.retailer_key key) ≡ true) [ true ↦ λ e. cc | false ↦ λ e. cc ] h
as_retailer register None caller key h =
    elim (same register.retailer caller && same register.retailer_key key) as
    (λ v. (if v then Some Retailer else None) ≡ Some Retailer → v ≡ true) [ true ↦ λ e. refl | false ↦ λ e. cc ] h
