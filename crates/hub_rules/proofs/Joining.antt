-- Shows what a supplier that joins does to sound tables.
use Rattle.std.proofs.Common.{◌≡◌, ℕ, suc, ◌<◌, ◌≤◌, nat_le, Bool, true, false, cond, ◌||◌, ◌&&◌, List, [], ◌∷◌}
use Rattle.std.proofs.Common.{length, map, Some, None, refl, sym, ◌∙◌, ap, subst, arith}
use Rattle.std.specs.List.{AllByRecursion, list_any, list_all}
use Rattle.std.specs.declared.cmp.Ordering.{Ordering}
use Rattle.std.specs.Ordering.{is_eq, is_gt}
use Rattle.std.proofs.lemmas.Bool.{and_parts, and_from, or_parts}
use Rattle.std.proofs.lemmas.Bool.Decides.{nat_tests}
use Rattle.std.proofs.lemmas.Cmp.{nat_list_cmp_total}
use Rattle.std.proofs.lemmas.Map.Text.{is_eq-slice_cmp}
use Rattle.edi_base.proofs.Twice.{bytes_eq-sym}
use Rattle.edi_base.specs.Seen.{has_twice}
use Rattle.gs1_ids.specs.Gln.{is_gln}
use Rattle.gs1_ids.specs.Prefix.{overlap}
use Rattle.hub_parties.specs.Key.{is_party_key}
use Rattle.hub_parties.specs.KeyOrder.{put, bytes_cmp, Rises}
use Rattle.hub_parties.specs.Prefixes.{are_company_prefixes}
use Rattle.hub_parties.specs.Rows.{RegisterRows, IsRegister, rows_by, most_suppliers, supplier_row}
use Rattle.hub_parties.specs.declared.row.SupplierRow.{SupplierRow}
use Rattle.hub_tables.specs.Change.{apply_all}
use Rattle.hub_tables.specs.Register.{HoldsRegister, supplier_cmp, has_key, row_in, suppliers_of, register_of, register_by, hub_in}
use Rattle.hub_tables.specs.Register.{row_at, row_changes, founded}
use Rattle.hub_tables.specs.Rows.{same}
use Rattle.hub_tables.specs.Sets.{Has}
use Rattle.hub_tables.specs.Tables.{Tables, Ordered, view, empty}
use Rattle.hub_tables.specs.declared.change.Change.{Change}
use Rattle.hub_tables.specs.declared.rows.HubRow.{HubRow}
use Rattle.hub_tables.specs.declared.rows.KeyRow.{KeyRow}
use Rattle.hub_tables.proofs.Enrolling.{Enrolled, with_row, row_added, row_seen, row_unseen, row_stays, suppliers_after}
use Rattle.hub_tables.proofs.Enrolling.{enrolled_after, map_put}
use Rattle.hub_tables.proofs.Founding.{OnlyParties, prefixes_rising, holds_register, nothing_else, founded_rises}
use Rattle.hub_tables.proofs.Freedom.{PrefixesApart, free_from, free_to, free_put}
use Rattle.hub_tables.proofs.KeyOrder.{any_put}
use Rattle.hub_tables.proofs.KindOrders.{ordered_after_all}
use Rattle.hub_tables.proofs.Lists.{same_if, all_weaker}
use Rattle.hub_tables.proofs.Members.{all_if, none_of, none_if, has_map}
use Rattle.hub_tables.proofs.Sets.{rising_ordered}
use Rattle.hub_tables.proofs.Setting.{rises_put}
use Rattle.gs1_ids.specs.Overlap.{overlap_some}
use Rattle.hub_rules.specs.JoinRules.{is_join, is_known, overlap_others, is_full, judge_join}
use Rattle.hub_rules.specs.Laws.{SoundHub, JoinedBy}
use Rattle.hub_rules.specs.Sound.{IsRooted, Rooted, Kept, Sound}
use Rattle.hub_rules.specs.declared.code.Code.TheVariants.{GlnKnown, PrefixOverlaps, RegisterFull}
use Rattle.hub_rules.specs.declared.verdict.Verdict.{Verdict}
use Rattle.hub_rules.specs.declared.verdict.Verdict.TheVariants.{Accept}
use Rattle.hub_rules.proofs.Keeping.{kept_others}
use Rattle.hub_rules.proofs.Verdicts.{not_refused}

-- Lists with one more element.
module _ {X : Type 0} (cmp : X → X → Ordering) where
  length_put : (xs : List X) (x : X) → length (put cmp x xs) ≡ suc (length xs)
  length_put [] x = refl
  length_put (y ∷ ys) x =
      elim (is_gt (cmp y x)) as (λ v. length (cond v (x ∷ y ∷ ys) (y ∷ put cmp x ys)) ≡ suc (suc (length ys)))
      [ true ↦ refl | false ↦ ap suc (length_put ys x) ]

  all_right : {Y : Type 0} (f : X → Y) (p : Y → Bool) (xs : List X) (x : X)
      → p (f x) ≡ true
      → list_all p (map f xs) ≡ true
      → list_all p (map f (put cmp x xs)) ≡ true
  all_right f p [] x here there = ap (λ v. v && true) here
  all_right f p (y ∷ ys) x here there =
      let parts = and_parts (p (f y)) (list_all p (map f ys)) there in
      elim (is_gt (cmp y x)) as (λ v. list_all p (map f (cond v (x ∷ y ∷ ys) (y ∷ put cmp x ys))) ≡ true) [
        | true ↦ and_from (p (f x)) (list_all p (map f (y ∷ ys))) here there
        | false ↦ and_from (p (f y)) (list_all p (map f (put cmp x ys))) parts.0 (all_right f p ys x here parts.1)
      ]

module _ (cmp : List ℕ → List ℕ → Ordering) (new : List ℕ) where
  among_put : (text : List ℕ) (texts : List (List ℕ))
      → list_any (same text) texts ≡ false
      → same new text ≡ false
      → list_any (same text) (put cmp new texts) ≡ false
  among_put text texts none other =
      any_put cmp (same text) texts new
      ∙ (λ i. none i || ((bytes_eq-sym text new ∙ other) i || false))

  twice_put : (texts : List (List ℕ)) → has_twice texts ≡ false → list_any (same new) texts ≡ false → has_twice (put cmp new texts) ≡ false
  twice_put [] once none = refl
  twice_put (text ∷ texts) once none =
      let parts = or_parts (list_any (same text) texts) (has_twice texts) once in
      let others = or_parts (same new text) (list_any (same new) texts) none in
      elim (is_gt (cmp text new)) as (λ v. has_twice (cond v (new ∷ text ∷ texts) (text ∷ put cmp new texts)) ≡ false) [
        | true ↦ λ i. none i || once i
        | false ↦ λ i. among_put text texts parts.0 others.0 i || twice_put texts parts.1 others.1 i
      ]

-- The register with one more supplier.
module _ (hub retailer key : List ℕ) (suppliers : List SupplierRow) (row : SupplierRow)
    (before : IsRegister (rows_by hub retailer key suppliers)) (may : is_join row ≡ true)
    (unknown : is_known (rows_by hub retailer key suppliers) row.gln ≡ false) (apart : AllByRecursion (PrefixesApart row) suppliers)
    (room : is_full (rows_by hub retailer key suppliers) ≡ false) where
  abbrev gln_of : SupplierRow → List ℕ
  gln_of s = s.gln

  abbrev key_of : SupplierRow → List ℕ
  key_of s = s.key

  abbrev prefixes_of : SupplierRow → List (List ℕ)
  prefixes_of s = s.prefixes

  abbrev with_one : RegisterRows
  with_one = rows_by hub retailer key (put supplier_cmp row suppliers)

  glns_put : map gln_of (put supplier_cmp row suppliers) ≡ put bytes_cmp row.gln (map gln_of suppliers)
  glns_put = map_put supplier_cmp bytes_cmp gln_of (λ x y. refl) suppliers row

  is_supplier : (is_gln row.gln ≡ true) × (are_company_prefixes row.prefixes ≡ true) × (is_party_key row.key ≡ true)
  is_supplier =
      let parts = and_parts (is_gln row.gln) (are_company_prefixes row.prefixes && is_party_key row.key) may in
      let rest = and_parts (are_company_prefixes row.prefixes) (is_party_key row.key) parts.1 in
      (parts.0, rest.0, rest.1)

  -- its GLN is none of the existing ones
  not_hub : (same row.gln hub ≡ false) × (same row.gln retailer ≡ false) × (list_any (same row.gln) (map gln_of suppliers) ≡ false)
  not_hub =
      let one = or_parts (same row.gln hub) (list_any (same row.gln) (retailer ∷ map gln_of suppliers)) unknown in
      let two = or_parts (same row.gln retailer) (list_any (same row.gln) (map gln_of suppliers)) one.1 in
      (one.0, two.0, two.1)

  still_few : length (put supplier_cmp row suppliers) ≤ most_suppliers
  still_few =
      let less : length suppliers < most_suppliers = below most_suppliers (length suppliers) room in
      omega (arith, length_put supplier_cmp suppliers row, less)
    where
      below : (a b : ℕ) → nat_le a b ≡ false → b < a
      below a b h = grind (arith, nat_tests)

  still_apart : has_twice (hub ∷ retailer ∷ map gln_of (put supplier_cmp row suppliers)) ≡ false
  still_apart =
      let texts = map gln_of suppliers in
      let hubs = or_parts (list_any (same hub) (retailer ∷ texts)) (list_any (same retailer) texts || has_twice texts)
      before.glns_apart in
      let retailers = or_parts (list_any (same retailer) texts) (has_twice texts) hubs.1 in
      let both = or_parts (same hub retailer) (list_any (same hub) texts) hubs.0 in
      ap (λ gs. has_twice (hub ∷ retailer ∷ gs)) glns_put
      ∙ (λ i. (both.0 i || among_put bytes_cmp row.gln hub texts both.1 not_hub.0 i)
      || (among_put bytes_cmp row.gln retailer texts retailers.0 not_hub.1 i
      || twice_put bytes_cmp row.gln texts retailers.1 not_hub.2 i))

  pub register_after : IsRegister with_one
  register_after = record {
    few = still_few;
    glns_right =
        let one = and_parts (is_gln hub) (list_all is_gln (retailer ∷ map gln_of suppliers)) before.glns_right in
        let two = and_parts (is_gln retailer) (list_all is_gln (map gln_of suppliers)) one.1 in
        and_from (is_gln hub) _ one.0 (and_from (is_gln retailer) _ two.0
        (all_right supplier_cmp gln_of is_gln suppliers row is_supplier.0 two.1));
    glns_apart = still_apart;
    prefixes_right =
        all_right supplier_cmp prefixes_of are_company_prefixes suppliers row is_supplier.1 before.prefixes_right;
    keys_right =
        let one = and_parts (is_party_key key) (list_all is_party_key (map key_of suppliers)) before.keys_right in
        and_from (is_party_key key) _ one.0 (all_right supplier_cmp key_of is_party_key suppliers row is_supplier.2 one.1);
    prefixes_free =
        free_to (put supplier_cmp row suppliers)
        (free_put supplier_cmp suppliers row apart (free_from suppliers before.prefixes_free));
    suppliers_rise =
        subst (Rises bytes_cmp) (sym glns_put) (rises_put nat_list_cmp_total row.gln (map gln_of suppliers) before.suppliers_rise
        (none_if (λ text. is_eq (bytes_cmp text row.gln)) (map gln_of suppliers) (λ text there.
        is_eq-slice_cmp text row.gln ∙ bytes_eq-sym text row.gln
        ∙ none_of (same row.gln) (map gln_of suppliers) not_hub.2 text there)));
  }

-- Only the rows of the parties change.
pub kept_beside : (t after : Tables) → OnlyParties t after → (gln : List ℕ) → Kept (view gln t) → Kept (view gln after)
kept_beside t after only gln kept =
    subst (λ u. Kept (view gln u)) (sym only)
    (kept_others (view gln t) kept refl kept.advices kept.remembered kept.mail)

enrolled : (t : Tables) → HoldsRegister t → Enrolled t
enrolled t holds = record {
  keys_rise = holds.keys_rise;
  prefixes_rise = holds.prefixes_rise;
  prefixes_had = holds.prefixes_had;
}

-- A supplier that the register of sound tables accepts.
module _ (row : SupplierRow) (t : Tables) (here : SoundHub t) (may : is_join row ≡ true) (changes : List Change)
    (accepted : judge_join (register_of t) row ≡ Accept changes) where
  abbrev holds : HoldsRegister t
  holds = here.register

  abbrev hub_row : HubRow
  hub_row = holds.hub

  abbrev after : Tables
  after = with_row row t

  by_hub : (suppliers : List SupplierRow)
      → register_by (hub_in t.hubs) suppliers ≡ rows_by hub_row.hub hub_row.retailer hub_row.key suppliers
  by_hub suppliers = ap (λ hubs. register_by (hub_in hubs) suppliers) holds.one_hub

  abbrev register : RegisterRows
  register = rows_by hub_row.hub hub_row.retailer hub_row.key (suppliers_of t)

  rules : (is_known register row.gln ≡ false)
      × (overlap_others register row.prefixes ≡ false)
      × (is_full register ≡ false)
      × (row_changes row ≡ changes)
  rules =
      let verdict : judge_join register row ≡ Accept changes = ap (λ r. judge_join r row) (sym (by_hub (suppliers_of t))) ∙ accepted in
      let one = not_refused (is_known register row.gln) GlnKnown _ changes verdict in
      let two = not_refused (overlap_others register row.prefixes) PrefixOverlaps _ changes one.1 in
      let three = not_refused (is_full register) RegisterFull (Accept (row_changes row)) changes two.1 in
      (one.0, two.0, three.0, same_changes three.1)
    where
      same_changes : ◌≡◌ {A = Verdict} (Accept (row_changes row)) (Accept changes) → row_changes row ≡ changes
      same_changes e = cc

  apart_each : (s : SupplierRow) → Has (suppliers_of t) s → PrefixesApart row s
  apart_each s there p q mine theirs =
      none_of (overlap p) s.prefixes (none_of (λ p. list_any (overlap p) s.prefixes) row.prefixes
      (none_of (λ (other : SupplierRow). overlap_some row.prefixes other.prefixes) (suppliers_of t) rules.1 s there) p mine) q theirs

  pub new : has_key t.keys row.gln ≡ false
  new =
      let one = or_parts (same row.gln hub_row.hub) _ rules.0 in
      let two = or_parts (same row.gln hub_row.retailer) _ one.1 in
      none_if (λ k. same k.supplier row.gln) t.keys (λ k there. bytes_eq-sym k.supplier row.gln
      ∙ none_of (same row.gln) (map (λ (s : SupplierRow). s.gln) (suppliers_of t)) two.1 k.supplier
      (has_map (λ (s : SupplierRow). s.gln) (suppliers_of t) (row_in t.prefixes k) (has_map (row_in t.prefixes) t.keys k there)))

  right_prefixes : are_company_prefixes row.prefixes ≡ true
  right_prefixes =
      let parts = and_parts (is_gln row.gln) (are_company_prefixes row.prefixes && is_party_key row.key) may in
      (and_parts (are_company_prefixes row.prefixes) (is_party_key row.key) parts.1).0

  one_more : suppliers_of after ≡ put supplier_cmp row (suppliers_of t)
  one_more = suppliers_after row t (enrolled t holds) new (prefixes_rising row.prefixes right_prefixes) apart_each

  still_enrolled : Enrolled after
  still_enrolled = enrolled_after row t (enrolled t holds) new (prefixes_rising row.prefixes right_prefixes) apart_each

  holds_after : HoldsRegister after
  holds_after = record {
    hub = hub_row;
    one_hub = holds.one_hub;
    keys_rise = still_enrolled.keys_rise;
    prefixes_rise = still_enrolled.prefixes_rise;
    prefixes_had = still_enrolled.prefixes_had;
    right = subst IsRegister (sym (by_hub (suppliers_of after) ∙ ap (rows_by hub_row.hub hub_row.retailer hub_row.key) one_more))
        (register_after hub_row.hub hub_row.retailer hub_row.key (suppliers_of t) row
        (subst IsRegister (by_hub (suppliers_of t)) holds.right) may rules.0
        (all_if (PrefixesApart row) (suppliers_of t) apart_each) rules.2);
  }

  abbrev ordered : Ordered t
  ordered = here.sound.rooted.ordered

  sound_after : Sound (suppliers_of after) after
  sound_after = record {
    rooted = record {
      ordered = subst Ordered (row_added row t) (ordered_after_all (row_changes row) t ordered);
      pallets = all_weaker (IsRooted (suppliers_of t)) (IsRooted (suppliers_of after)) (λ pallet rooted. record {
        supplier = rooted.supplier;
        known = row_stays row t new pallet.supplier rooted.supplier rooted.known;
        is_under = rooted.is_under;
      }) t.pallets here.sound.rooted.pallets;
      contents = here.sound.rooted.contents;
      receipts = here.sound.rooted.receipts;
    };
    kept = λ gln. kept_beside t after refl gln (here.sound.kept gln);
  }

  found_now : row_at row.gln after ≡ Some row
  found_now = ap (λ suppliers. supplier_row suppliers row.gln) one_more ∙ found_put (suppliers_of t) none_before
    where
      none_before : list_any (λ (s : SupplierRow). same s.gln row.gln) (suppliers_of t) ≡ false
      none_before = by_keys t.keys new
        where
          by_keys : (keys : List KeyRow)
              → has_key keys row.gln ≡ false
              → list_any (λ (s : SupplierRow). same s.gln row.gln) (map (row_in t.prefixes) keys) ≡ false
          by_keys [] h = refl
          by_keys (k ∷ keys) h =
              let parts = or_parts (same k.supplier row.gln) (has_key keys row.gln) h in
              λ i. parts.0 i || by_keys keys parts.1 i

      found_put : (suppliers : List SupplierRow)
          → list_any (λ (s : SupplierRow). same s.gln row.gln) suppliers ≡ false
          → supplier_row (put supplier_cmp row suppliers) row.gln ≡ Some row
      found_put [] none = ap (λ v. cond v (Some row) None) (same_if row.gln row.gln refl)
      found_put (s ∷ suppliers) none =
          let parts = or_parts (same s.gln row.gln) (list_any (λ (s : SupplierRow). same s.gln row.gln) suppliers) none in
          elim (is_gt (supplier_cmp s row)) as
          (λ v. supplier_row (cond v (row ∷ s ∷ suppliers) (s ∷ put supplier_cmp row suppliers)) row.gln ≡ Some row) [
            | true ↦ ap (λ v. cond v (Some row) (supplier_row (s ∷ suppliers) row.gln)) (same_if row.gln row.gln refl)
            | false ↦ ap (λ v. cond v (Some s) (supplier_row (put supplier_cmp row suppliers) row.gln)) parts.0
                ∙ found_put suppliers parts.1
          ]

  joined_row : JoinedBy row t after
  joined_row = record {
    seen = row_seen row t ordered ∙ sym (row_added row (view row.gln t));
    unseen = λ other ne. row_unseen row t other ne;
    hubs = refl;
    suppliers = one_more;
    known = found_now;
    stays = λ gln s known. row_stays row t new gln s known;
    sound = record { register = holds_after; sound = sound_after };
  }

  pub joined_by : JoinedBy row t (apply_all changes t)
  joined_by = subst (JoinedBy row t) (sym (row_added row t) ∙ ap (λ cs. apply_all cs t) rules.3) joined_row

-- Tables that have only the rows of a register are sound.
pub founded_sound : (register : RegisterRows) → IsRegister register → SoundHub (founded register)
founded_sound register right =
    let holds = holds_register register right in
    let only = nothing_else register right in
    record {
      register = holds;
      sound = record {
        rooted = subst (Rooted (suppliers_of (founded register))) (sym only) (record {
          ordered = subst Ordered only (rising_ordered (founded register) (founded_rises register right));
          pallets = tt;
          contents = tt;
          receipts = tt;
        });
        kept = λ gln. kept_beside empty (founded register) only gln (record {
          orders = tt;
          lines = tt;
          advices = tt;
          pallets = tt;
          contents = λ sscc. tt;
          receipts = λ sscc. tt;
          remembered = tt;
          mail = tt;
          line_orders = tt;
          content_lines = tt;
          receipt_pallets = tt;
          balanced = tt;
        });
      };
    }
