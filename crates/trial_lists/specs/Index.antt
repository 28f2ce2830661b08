-- Defines an index: keys of rows, in another order than the rows.
use Rattle.std.proofs.Common.{◌≡◌, ℕ, Bool, true, not, List, filter, map, refl, sym, ap, ◌∙◌}
use Rattle.std.specs.Cmp.{IsTotalOrder}
use Rattle.std.specs.Ordering.{nat_cmp, ordering_then, is_eq}
use Rattle.std.specs.declared.cmp.Ordering.{Ordering}
use Rattle.std.proofs.lemmas.Bool.{and_parts}
use Rattle.std.proofs.lemmas.Cmp.{on_total, then_total, nat_cmp_total, nat_list_cmp_total, tied_itself}
use Rattle.hub_parties.specs.KeyOrder.{bytes_cmp, Rises}
use Rattle.hub_tables.specs.Rows.{same, pallet_cmp}
use Rattle.hub_tables.specs.State.{is_taken}
use Rattle.hub_tables.specs.declared.rows.MailRow.{MailRow}
use Rattle.hub_tables.specs.declared.rows.PalletRow.{PalletRow}
use Rattle.hub_tables.proofs.Lists.{same_is}
use Rattle.trial_rows.specs.Alike.{both, same_bytes}
use Rattle.trial_lists.specs.declared.index.EntryKey.{EntryKey}
use Rattle.trial_lists.specs.declared.index.PalletKey.{PalletKey}

-- the index rises, and for each supplier it has the keys of the listed rows, in their order
pub record IsIndex {X K : Type 0} (cmp : K → K → Ordering) (supplier : K → List ℕ) (key : X → K) (listed : X → Bool)
    (index : List K) (rows : List X) : Type 0 where
  pub rises : Rises cmp index
  pub each : (gln : List ℕ) →
      filter (λ k. same (supplier k) gln) index
      ≡ map key (filter listed (filter (λ row. same (supplier (key row)) gln) rows))

-- The indexes of entries that are not taken, and of the pallets of each supplier.

abbrev pub entry_cmp : EntryKey → EntryKey → Ordering
entry_cmp a b = ordering_then (bytes_cmp a.supplier b.supplier) (nat_cmp a.number b.number)

abbrev pub entry_key : MailRow → EntryKey
entry_key entry = record { supplier = entry.supplier; number = entry.number }

abbrev pub is_untaken : MailRow → Bool
is_untaken entry = not (is_taken entry)

abbrev pub owned_cmp : PalletKey → PalletKey → Ordering
owned_cmp a b = ordering_then (bytes_cmp a.supplier b.supplier) (bytes_cmp a.sscc b.sscc)

abbrev pub owned_key : PalletRow → PalletKey
owned_key pallet = record { supplier = pallet.supplier; sscc = pallet.sscc }

pub entry_total : IsTotalOrder entry_cmp
entry_total = then_total (on_total (λ k. k.supplier) nat_list_cmp_total) (on_total (λ k. k.number) nat_cmp_total)

pub owned_total : IsTotalOrder owned_cmp
owned_total = then_total (on_total (λ k. k.supplier) nat_list_cmp_total) (on_total (λ k. k.sscc) nat_list_cmp_total)

one_supplier : (a b : List ℕ) (o : Ordering) → is_eq (ordering_then (bytes_cmp a b) o) ≡ true → a ≡ b
one_supplier a b o h =
    same_is a b (and_parts (same a b) (is_eq o) (sym (both (bytes_cmp a b) o (same_bytes a b) refl) ∙ h)).0

pub entry_tied : (a b : EntryKey) → is_eq (entry_cmp a b) ≡ true → a.supplier ≡ b.supplier
entry_tied a b h = one_supplier a.supplier b.supplier (nat_cmp a.number b.number) h

pub owned_tied : (a b : PalletKey) → is_eq (owned_cmp a b) ≡ true → a.supplier ≡ b.supplier
owned_tied a b h = one_supplier a.supplier b.supplier (bytes_cmp a.sscc b.sscc) h

pub owned_in_order : (x y : PalletRow) → x.supplier ≡ y.supplier →
    owned_cmp (owned_key x) (owned_key y) ≡ pallet_cmp x y
owned_in_order x y e =
    ap (λ o. ordering_then o (bytes_cmp x.sscc y.sscc))
    (ap (bytes_cmp x.supplier) (sym e) ∙ tied_itself nat_list_cmp_total x.supplier)
