-- Shows that tables which have only the rows of a register hold that register.
use Rattle.std.proofs.Common.{◌≡◌, ℕ, nat_le, true, false, List, [], ◌∷◌, ◌++◌, length, map, refl, sym, ◌∙◌, ap, subst}
use Rattle.std.specs.List.{AllByRecursion, list_all}
use Rattle.std.specs.Ordering.{is_eq, is_gt}
use Rattle.std.specs.declared.cmp.Ordering.TheVariants.{Less}
use Rattle.std.proofs.lemmas.Bool.{and_parts}
use Rattle.std.proofs.lemmas.List.{append-nil, append_assoc}
use Rattle.std.proofs.lemmas.Map.Text.{is_eq-slice_cmp}
use Rattle.gs1_ids.specs.Prefix.{is_prefix}
use Rattle.hub_parties.specs.KeyOrder.{Rises, put, bytes_cmp}
use Rattle.hub_parties.specs.Prefixes.{rising, most_prefixes, are_company_prefixes}
use Rattle.hub_parties.specs.Rows.{RegisterRows, IsRegister, company_prefixes}
use Rattle.hub_parties.specs.declared.row.SupplierRow.{SupplierRow}
use Rattle.hub_tables.specs.Change.{apply, apply_all}
use Rattle.hub_tables.specs.Register.{supplier_cmp, HoldsRegister, has_key, row_in, suppliers_of, register_of, register_by, hub_in}
use Rattle.hub_tables.specs.Register.{prefix_changes, row_changes, suppliers_changes, register_changes, founded}
use Rattle.hub_tables.specs.Rows.{same, hub_cmp}
use Rattle.hub_tables.specs.Sets.{Has, Rising, Fit, clears}
use Rattle.hub_tables.specs.Tables.{Tables, empty}
use Rattle.hub_tables.specs.declared.change.Change.{Change}
use Rattle.hub_tables.specs.declared.change.Change.TheVariants.{AddHub}
use Rattle.hub_tables.specs.declared.rows.HubRow.{HubRow}
use Rattle.hub_tables.proofs.Back.{fit_uncleared}
use Rattle.hub_tables.proofs.Enrolling.{Enrolled, with_row, row_added, suppliers_after, enrolled_after}
use Rattle.hub_tables.proofs.Freedom.{PrefixesApart, SuppliersApart, free_from, apart_back}
use Rattle.hub_tables.proofs.KeyOrder.{put_last}
use Rattle.hub_tables.proofs.Lists.{all_weaker}
use Rattle.hub_tables.proofs.Members.{all_of, none_if, has_map}

pub applied_in_turn : (first second : List Change) (t : Tables) → apply_all (first ++ second) t ≡ apply_all second (apply_all first t)
applied_in_turn [] second t = refl
applied_in_turn (change ∷ first) second t = applied_in_turn first second (apply change t)

-- the tables differ only in the rows of the parties
abbrev pub OnlyParties : Tables → Tables → Type 0
OnlyParties t after = after ≡ record t { hubs = after.hubs; keys = after.keys; prefixes = after.prefixes }

-- the tables hold these suppliers, and otherwise what `t` has
record HoldsSuppliers (t : Tables) (suppliers : List SupplierRow) (after : Tables) : Type 0 where
  pub hubs : after.hubs ≡ t.hubs
  pub rest : OnlyParties t after
  pub enrolled : Enrolled after
  pub held : suppliers_of after ≡ suppliers

module _ (one : SupplierRow) (others : List SupplierRow) where
  all_below : (done : List SupplierRow) → Rises supplier_cmp (done ++ one ∷ others) → AllByRecursion (λ s. supplier_cmp s one ≡ Less) done
  all_below [] rises = tt
  all_below (s ∷ done) rises = (head done rises.0, all_below done rises.1)
    where
      head : (ys : List SupplierRow) → AllByRecursion (λ y. supplier_cmp s y ≡ Less) (ys ++ one ∷ others) → supplier_cmp s one ≡ Less
      head [] all = all.0
      head (y ∷ ys) all = head ys all.1

  all_apart : (done : List SupplierRow) → SuppliersApart (done ++ one ∷ others) → AllByRecursion (PrefixesApart one) done
  all_apart [] free = tt
  all_apart (s ∷ done) free = (apart_back s one (head done free.0), all_apart done free.1)
    where
      head : (ys : List SupplierRow) → AllByRecursion (PrefixesApart s) (ys ++ one ∷ others) → PrefixesApart s one
      head [] all = all.0
      head (y ∷ ys) all = head ys all.1

-- adding one supplier after another
enrolled_in_turn : (t start : Tables) (done rows : List SupplierRow)
    → HoldsSuppliers start done t
    → Rises supplier_cmp (done ++ rows)
    → SuppliersApart (done ++ rows)
    → AllByRecursion (λ (s : SupplierRow). rising s.prefixes ≡ true) rows
    → HoldsSuppliers start (done ++ rows) (apply_all (suppliers_changes rows) t)
enrolled_in_turn t start done [] holds rises free right =
    subst (λ suppliers. HoldsSuppliers start suppliers t) (sym (append-nil done)) holds
enrolled_in_turn t start done (row ∷ rows) holds rises free right =
    let below = all_below row rows done rises in
    let new : has_key t.keys row.gln ≡ false = none_if (λ k. same k.supplier row.gln) t.keys (λ k there.
    let less = all_of (λ s. supplier_cmp s row ≡ Less) done below (row_in t.prefixes k)
    (subst (λ suppliers. Has suppliers (row_in t.prefixes k)) holds.held (has_map (row_in t.prefixes) t.keys k there)) in
    sym (is_eq-slice_cmp k.supplier row.gln) ∙ ap is_eq less) in
    let apart : (s : SupplierRow) → Has (suppliers_of t) s → PrefixesApart row s = λ s there.
    all_of (PrefixesApart row) done (all_apart row rows done free) s (subst (λ suppliers. Has suppliers s) holds.held there) in
    let last : put supplier_cmp row done ≡ done ++ row ∷ [] = put_last supplier_cmp done row
    (all_weaker (λ s. supplier_cmp s row ≡ Less) (λ s. is_gt (supplier_cmp s row) ≡ false) (λ s less. ap is_gt less) done below) in
    let next : HoldsSuppliers start (done ++ row ∷ []) (with_row row t) = record {
      hubs = holds.hubs;
      rest = ap (λ (u : Tables). record u {
        hubs = t.hubs;
        keys = (with_row row t).keys;
        prefixes = (with_row row t).prefixes;
      }) holds.rest;
      enrolled = enrolled_after row t holds.enrolled new right.0 apart;
      held = suppliers_after row t holds.enrolled new right.0 apart ∙ ap (put supplier_cmp row) holds.held ∙ last;
    } in
    let joined = append_assoc done (row ∷ []) rows in
    let all = enrolled_in_turn (with_row row t) start (done ++ row ∷ []) rows next (subst (Rises supplier_cmp) (sym joined) rises)
    (subst SuppliersApart (sym joined) free) right.1 in
    subst (λ suppliers. HoldsSuppliers start suppliers (apply_all (suppliers_changes (row ∷ rows)) t)) joined
    (subst (HoldsSuppliers start ((done ++ row ∷ []) ++ rows)) (sym (applied_in_turn (row_changes row) (suppliers_changes rows) t
    ∙ ap (apply_all (suppliers_changes rows)) (row_added row t))) all)

-- what every register guarantees, for its suppliers one by one
rise_by_gln : (suppliers : List SupplierRow)
    → Rises bytes_cmp (map (λ (row : SupplierRow). row.gln) suppliers)
    → Rises supplier_cmp suppliers
rise_by_gln [] rises = tt
rise_by_gln (s ∷ suppliers) rises = (below suppliers rises.0, rise_by_gln suppliers rises.1)
  where
    below : (others : List SupplierRow)
        → AllByRecursion (λ gln. bytes_cmp s.gln gln ≡ Less) (map (λ (row : SupplierRow). row.gln) others)
        → AllByRecursion (λ other. supplier_cmp s other ≡ Less) others
    below [] all = tt
    below (other ∷ others) all = (all.0, below others all.1)

pub prefixes_rising : (prefixes : List (List ℕ)) → are_company_prefixes prefixes ≡ true → rising prefixes ≡ true
prefixes_rising prefixes h =
    let some = and_parts (nat_le 1 (length prefixes)) _ h in
    let few = and_parts (nat_le (length prefixes) most_prefixes) _ some.1 in
    (and_parts (list_all is_prefix prefixes) (rising prefixes) few.1).1

each_right : (suppliers : List SupplierRow)
    → list_all are_company_prefixes (company_prefixes suppliers) ≡ true
    → AllByRecursion (λ (s : SupplierRow). rising s.prefixes ≡ true) suppliers
each_right [] h = tt
each_right (s ∷ suppliers) h =
    let parts = and_parts (are_company_prefixes s.prefixes) (list_all are_company_prefixes (company_prefixes suppliers)) h in
    (prefixes_rising s.prefixes parts.0, each_right suppliers parts.1)

module _ (register : RegisterRows) (right : IsRegister register) where
  abbrev hub_row : HubRow
  hub_row = record { hub = register.hub; retailer = register.retailer; key = register.retailer_key }

  abbrev with_hub : Tables
  with_hub = apply (AddHub hub_row) empty

  all_held : HoldsSuppliers with_hub register.suppliers (founded register)
  all_held = enrolled_in_turn with_hub with_hub [] register.suppliers
      (record {
        hubs = refl;
        rest = refl;
        enrolled = record { keys_rise = tt; prefixes_rise = tt; prefixes_had = tt };
        held = refl;
      })
      (rise_by_gln register.suppliers right.suppliers_rise) (free_from register.suppliers right.prefixes_free)
      (each_right register.suppliers right.prefixes_right)

  pub register_back : register_of (founded register) ≡ register
  register_back = λ i. register_by (hub_in (all_held.hubs i)) (all_held.held i)

  pub holds_register : HoldsRegister (founded register)
  holds_register = record {
    hub = hub_row;
    one_hub = all_held.hubs;
    keys_rise = all_held.enrolled.keys_rise;
    prefixes_rise = all_held.enrolled.prefixes_rise;
    prefixes_had = all_held.enrolled.prefixes_had;
    right = subst IsRegister (sym register_back) right;
  }

  -- the tables hold nothing else
  pub nothing_else : OnlyParties empty (founded register)
  nothing_else = all_held.rest

  -- the keys of each kind rise
  pub founded_rises : Rising (founded register)
  founded_rises = subst Rising (sym nothing_else) (record {
    hubs = subst (Rises hub_cmp) (sym all_held.hubs) (tt, tt);
    keys = all_held.enrolled.keys_rise;
    prefixes = all_held.enrolled.prefixes_rise;
    orders = tt;
    lines = tt;
    advices = tt;
    pallets = tt;
    contents = tt;
    receipts = tt;
    remembered = tt;
    mail = tt;
  })

-- founding a register deletes no rows
prefixes_clear_none : (supplier : List ℕ) (prefixes : List (List ℕ)) (rest : List Change) → AllByRecursion (λ c. clears c ≡ false) rest
    → AllByRecursion (λ c. clears c ≡ false) (prefix_changes supplier prefixes ++ rest)
prefixes_clear_none supplier [] rest none = none
prefixes_clear_none supplier (prefix ∷ prefixes) rest none = (refl, prefixes_clear_none supplier prefixes rest none)

suppliers_clear_none : (rows : List SupplierRow) → AllByRecursion (λ c. clears c ≡ false) (suppliers_changes rows)
suppliers_clear_none [] = tt
suppliers_clear_none (row ∷ rows) = (refl, prefixes_clear_none row.gln row.prefixes (suppliers_changes rows) (suppliers_clear_none rows))

-- so the changes fit
pub founded_fits : (register : RegisterRows) → IsRegister register → Fit (register_changes register) empty
founded_fits register right =
    fit_uncleared (register_changes register) empty (refl, suppliers_clear_none register.suppliers) (founded_rises register right)
