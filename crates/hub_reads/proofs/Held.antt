-- Shows that rows that hold a register have the form of their kinds.
use Rattle.std.proofs.Common.{◌≡◌, inl, inr, ℕ, Bool, true, false, ◌&&◌, List, [], ◌∷◌, map}
use Rattle.std.proofs.Common.{filter, refl, sym, ap, ap₂, subst, ◌∙◌, nat_le, length}
use Rattle.std.proofs.Common.{true≢false}
use Rattle.std.specs.Cmp.Derive.{both_true}
use Rattle.std.specs.List.{list_all}
use Rattle.std.proofs.lemmas.Bool.{and_parts}
use Rattle.gs1_ids.specs.Gln.{is_gln}
use Rattle.gs1_ids.specs.Prefix.{is_prefix}
use Rattle.hub_parties.specs.Key.{is_party_key}
use Rattle.hub_parties.specs.Prefixes.{are_company_prefixes, most_prefixes, rising}
use Rattle.hub_parties.specs.Rows.{company_prefixes}
use Rattle.hub_parties.specs.declared.row.SupplierRow.{SupplierRow}
use Rattle.hub_tables.specs.Register.{HoldsRegister, register_of, suppliers_of, row_in, has_key, hub_in}
use Rattle.hub_tables.specs.Rows.{same}
use Rattle.hub_tables.specs.Sets.{Has}
use Rattle.hub_tables.specs.Tables.{Tables}
use Rattle.hub_tables.specs.declared.rows.KeyRow.{KeyRow}
use Rattle.hub_tables.specs.declared.rows.PrefixRow.{PrefixRow}
use Rattle.hub_tables.proofs.Lists.{same_is}
use Rattle.hub_tables.proofs.Members.{all_of, one_of, has_map, has_filter}
use Rattle.hub_store.specs.Clean.{clean_hub, clean_key, clean_prefix}
use Rattle.hub_founding.specs.Founding.{HoldsNone}

-- members of a list whose elements all pass a test pass it too
passes_of : {X : Type 0} (p : X → Bool) (xs : List X) → list_all p xs ≡ true → (x : X) → Has xs x → p x ≡ true
passes_of p [] all x there = absurd there
passes_of p (y ∷ ys) all x there =
    let parts = and_parts (p y) (list_all p ys) all in
    elim there [ inl e ↦ ap p e ∙ parts.0 | inr later ↦ passes_of p ys parts.1 x later ]

all_pass_if : {X : Type 0} (p : X → Bool) (xs : List X) → ((x : X) → Has xs x → p x ≡ true) → list_all p xs ≡ true
all_pass_if p [] f = refl
all_pass_if p (x ∷ xs) f = ap₂ (λ a b. a && b) (f x (inl refl)) (all_pass_if p xs (λ y there. f y (inr there)))

module _ (t : Tables) (held : HoldsRegister t) where
  abbrev all_glns : List (List ℕ)
  all_glns = (register_of t).hub ∷ (register_of t).retailer ∷ map (λ (row : SupplierRow). row.gln) (suppliers_of t)

  abbrev all_keys : List (List ℕ)
  all_keys = (register_of t).retailer_key ∷ map (λ (row : SupplierRow). row.key) (suppliers_of t)

  glns : (gln : List ℕ) → Has all_glns gln → is_gln gln ≡ true
  glns gln there = passes_of is_gln all_glns held.right.glns_right gln there

  keys : (key : List ℕ) → Has all_keys key → is_party_key key ≡ true
  keys key there = passes_of is_party_key all_keys held.right.keys_right key there

  row_there : (k : KeyRow) → Has t.keys k → Has (suppliers_of t) (row_in t.prefixes k)
  row_there k there = has_map (row_in t.prefixes) t.keys k there

  gln_right : (k : KeyRow) → Has t.keys k → is_gln k.supplier ≡ true
  gln_right k there = glns k.supplier
      (inr (inr (has_map (λ (row : SupplierRow). row.gln) (suppliers_of t) (row_in t.prefixes k) (row_there k there))))

  pub clean_hubs : list_all clean_hub t.hubs ≡ true
  clean_hubs = subst (λ hubs. list_all clean_hub hubs ≡ true) (sym held.one_hub)
      (both_true (both_true (subst (λ hubs. is_gln (hub_in hubs).hub ≡ true) held.one_hub (glns (register_of t).hub (inl refl)))
      (both_true (subst (λ hubs. is_gln (hub_in hubs).retailer ≡ true) held.one_hub (glns (register_of t).retailer (inr (inl refl))))
      (subst (λ hubs. is_party_key (hub_in hubs).key ≡ true) held.one_hub (keys (register_of t).retailer_key (inl refl))))) refl)

  pub clean_keys : list_all clean_key t.keys ≡ true
  clean_keys = all_pass_if clean_key t.keys (λ k there.
      both_true (gln_right k there)
      (keys k.key (inr (has_map (λ (row : SupplierRow). row.key) (suppliers_of t) (row_in t.prefixes k) (row_there k there)))))

  right_of : (k : KeyRow) → Has t.keys k
      → list_all is_prefix (map (λ (found : PrefixRow). found.prefix) (filter (λ found. same found.supplier k.supplier) t.prefixes)) ≡ true
  right_of k there =
      let prefixes = map (λ (found : PrefixRow). found.prefix) (filter (λ found. same found.supplier k.supplier) t.prefixes) in
      let all = passes_of are_company_prefixes (company_prefixes (suppliers_of t)) held.right.prefixes_right prefixes
      (has_map (λ (row : SupplierRow). row.prefixes) (suppliers_of t) (row_in t.prefixes k) (row_there k there)) in
      let some = and_parts (nat_le 1 (length prefixes)) _ all in
      let few = and_parts (nat_le (length prefixes) most_prefixes) _ some.1 in
      (and_parts (list_all is_prefix prefixes) (rising prefixes) few.1).0

  pub clean_prefixes : list_all clean_prefix t.prefixes ≡ true
  clean_prefixes = all_pass_if clean_prefix t.prefixes (λ row there.
      let had = one_of (λ (k : KeyRow). same k.supplier row.supplier) t.keys
      (all_of (λ row. has_key t.keys row.supplier ≡ true) t.prefixes held.prefixes_had row there) in
      let k = had.0 in
      let is : k.supplier ≡ row.supplier = same_is k.supplier row.supplier had.2 in
      let mine : same row.supplier k.supplier ≡ true = ap (same row.supplier) is ∙ (ap (λ s. same s row.supplier) (sym is) ∙ had.2) in
      both_true (passes_of is_prefix _ (right_of k had.1) row.prefix
      (has_map (λ (found : PrefixRow). found.prefix) _ row
      (has_filter (λ (found : PrefixRow). same found.supplier k.supplier) t.prefixes row there mine)))
      (ap is_gln (sym is) ∙ gln_right k had.1))

-- if one of them does not have the form of its kind, no register is held
pub no_hubs : (t : Tables) → list_all clean_hub t.hubs ≡ false → HoldsNone t
no_hubs t bad held = true≢false (sym (clean_hubs t held) ∙ bad)

pub no_keys : (t : Tables) → list_all clean_key t.keys ≡ false → HoldsNone t
no_keys t bad held = true≢false (sym (clean_keys t held) ∙ bad)

pub no_prefixes : (t : Tables) → list_all clean_prefix t.prefixes ≡ false → HoldsNone t
no_prefixes t bad held = true≢false (sym (clean_prefixes t held) ∙ bad)
