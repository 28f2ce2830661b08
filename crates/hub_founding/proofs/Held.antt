-- Shows that the collected rows are those of the register that the tables hold.
use Rattle.std.proofs.Common.{◌≡◌, ℕ, ◌<◌, ◌≤◌, true, false, cond, ◌&&◌, List, [], ◌∷◌, length, get_or, map, filter}
use Rattle.std.proofs.Common.{Option, Some, None, Result, Ok, Err, refl, sym, ap, ap₂, ◌∙◌, subst, arith}
use Rattle.std.specs.List.{AllByRecursion, list_all}
use Rattle.std.specs.Option.{IfNone, IfSome}
use Rattle.std.specs.Result.{IfOk}
use Rattle.std.specs.Ordering.{is_gt}
use Rattle.std.specs.declared.cmp.Ordering.TheVariants.{Less}
use Rattle.std.proofs.lemmas.Bool.{and_parts}
use Rattle.hub_parties.specs.KeyOrder.{bytes_cmp, Rises}
use Rattle.hub_parties.specs.Prefixes.{are_company_prefixes, by_bytes, put_all}
use Rattle.hub_parties.specs.Rows.{RegisterRows, IsRegister, rows_by, company_prefixes}
use Rattle.hub_parties.specs.declared.row.SupplierRow.{SupplierRow}
use Rattle.hub_tables.specs.Register.{has_key, row_in, suppliers_of, register_of, register_by, hub_in}
use Rattle.hub_tables.specs.Rows.{same, key_cmp, prefix_cmp}
use Rattle.hub_tables.specs.Tables.{Tables}
use Rattle.hub_tables.specs.declared.rows.HubRow.{HubRow}
use Rattle.hub_tables.specs.declared.rows.KeyRow.{KeyRow}
use Rattle.hub_tables.specs.declared.rows.PrefixRow.{PrefixRow}
use Rattle.hub_tables.proofs.Enrolling.{puts, puts_rising}
use Rattle.hub_tables.proofs.Lists.{all_filter}
use Rattle.hub_founding.specs.Founding.{IsHeldBy}
use Rattle.hub_founding.specs.Gathered.{prefixes_in, gathered, all_had, rows_with, all_company_prefixes}

-- what is known of a value, if there is one
pub given : {X : Type 0} (P : X → Type 0) (o : Option X) (x : X) → o ≡ Some x → IfSome o P → P x
given {X} P o x e h = subst (λ (o : Option X). IfSome o P) e h

pub given_none : {X : Type 0} {P : Type 0} (o : Option X) → o ≡ None → IfNone o P → P
given_none {X} {P} o e h = subst (λ (o : Option X). IfNone o P) e h

-- rising prefixes stay in their order
one_by_one : (xs done : List (List ℕ)) → put_all xs done ≡ puts bytes_cmp xs done
one_by_one [] done = refl
one_by_one (x ∷ xs) done = one_by_one xs _

none_before : (xs : List (List ℕ)) → AllByRecursion (λ x. AllByRecursion (λ y. is_gt (bytes_cmp y x) ≡ false) []) xs
none_before [] = tt
none_before (x ∷ xs) = (tt, none_before xs)

as_they_stand : (xs : List (List ℕ)) → Rises bytes_cmp xs → by_bytes xs ≡ xs
as_they_stand xs rises = one_by_one xs [] ∙ puts_rising bytes_cmp xs [] (none_before xs) rises

module _ (key : KeyRow) where
  below : (r : PrefixRow) (rows : List PrefixRow)
      → AllByRecursion (λ s. prefix_cmp r s ≡ Less) rows
      → AllByRecursion (λ text. bytes_cmp r.prefix text ≡ Less) (map (λ (s : PrefixRow). s.prefix) rows)
  below r [] all = tt
  below r (s ∷ rows) all = (all.0, below r rows all.1)

  pub rising : (rows : List PrefixRow) → Rises prefix_cmp rows → Rises bytes_cmp (prefixes_in rows key)
  rising [] rises = tt
  rising (r ∷ rows) rises =
      elim (same r.supplier key.supplier) as (λ b. Rises bytes_cmp (map (λ (s : PrefixRow). s.prefix)
      (cond b (r ∷ filter (λ found. same found.supplier key.supplier) rows) (filter (λ found. same found.supplier key.supplier) rows)))) [
        | true ↦ (
          below r (filter (λ found. same found.supplier key.supplier) rows)
              (all_filter (λ s. prefix_cmp r s ≡ Less) (λ found. same found.supplier key.supplier) rows rises.0),
          rising rows rises.1,
        )
        | false ↦ rising rows rises.1
      ]

module _ (prefixes : List PrefixRow) (rises : Rises prefix_cmp prefixes) where
  stand : (key : KeyRow) → by_bytes (prefixes_in prefixes key) ≡ prefixes_in prefixes key
  stand key = as_they_stand (prefixes_in prefixes key) (rising key prefixes rises)

  pub its_rows : (keys : List KeyRow) → rows_with keys (gathered prefixes keys) ≡ map (row_in prefixes) keys
  its_rows [] = refl
  its_rows (key ∷ keys) =
      ap₂ (λ first more. first ∷ more)
      (ap (λ (held : List (List ℕ)). record { gln = key.supplier; prefixes = held; key = key.key }) (stand key)) (its_rows keys)

  pub its_prefixes : (keys : List KeyRow)
      → all_company_prefixes (gathered prefixes keys) ≡ list_all are_company_prefixes (company_prefixes (map (row_in prefixes) keys))
  its_prefixes [] = refl
  its_prefixes (key ∷ keys) = ap₂ (λ first more. first && more) (ap are_company_prefixes (stand key)) (its_prefixes keys)

pub each_had : (keys : List KeyRow) (prefixes : List PrefixRow)
    → AllByRecursion (λ row. has_key keys row.supplier ≡ true) prefixes
    → all_had keys prefixes ≡ true
each_had keys [] all = refl
each_had keys (row ∷ prefixes) all = ap₂ (λ first more. first && more) all.0 (each_had keys prefixes all.1)

pub had_each : (keys : List KeyRow) (prefixes : List PrefixRow)
    → all_had keys prefixes ≡ true
    → AllByRecursion (λ row. has_key keys row.supplier ≡ true) prefixes
had_each keys [] all = tt
had_each keys (row ∷ prefixes) all =
    let parts = and_parts (has_key keys row.supplier) (all_had keys prefixes) all in (parts.0, had_each keys prefixes parts.1)

pub one_alone : (hubs : List HubRow) (hub : HubRow) → 1 ≤ length hubs → length hubs < 2 → hub ≡ get_or hubs 0 hub → hubs ≡ hub ∷ []
one_alone [] hub some few is = absurd (omega (arith, some))
one_alone (one ∷ []) hub some few is = ap (λ row. row ∷ []) (sym is)
one_alone (one ∷ two ∷ hubs) hub some few is = absurd (omega (arith, few))

module _ (t : Tables) (hub : HubRow) (key : List ℕ) (rows : List SupplierRow)
    (one : t.hubs ≡ hub ∷ []) (keys : Rises key_cmp t.keys) (prefixes : Rises prefix_cmp t.prefixes)
    (had : AllByRecursion (λ row. has_key t.keys row.supplier ≡ true) t.prefixes) (same_key : key ≡ hub.key)
    (same_rows : rows ≡ suppliers_of t) where
  the_register : rows_by hub.hub hub.retailer key rows ≡ register_of t
  the_register =
      ap (λ k. rows_by hub.hub hub.retailer k rows) same_key ∙ (λ i. register_by (hub_in (sym one i)) (same_rows i))

  pub held_by : {E : Type 0} (found : Result (Option RegisterRows) E)
      → IfOk found (λ o. IfSome o (λ register. (register ≡ rows_by hub.hub hub.retailer key rows) × IsRegister register))
      → IfOk found (λ o. IfNone o (IsRegister (rows_by hub.hub hub.retailer key rows) → ⊥))
      → IfOk found (IsHeldBy t)
  held_by (Ok (Some register)) some none =
      let same_register : register ≡ register_of t = some.0 ∙ the_register in (
        record {
          hub = hub;
          one_hub = one;
          keys_rise = keys;
          prefixes_rise = prefixes;
          prefixes_had = had;
          right = subst IsRegister same_register some.1;
        },
        same_register,
      )
  held_by (Ok None) some none = λ holds. none (subst IsRegister (sym the_register) holds.right)
  held_by (Err fault) some none = tt
