-- Shows what a change of one supplier's rows does to what each supplier sees.
use Rattle.std.proofs.Common.{◌≡◌, ◌≢◌, ℕ, true, false, not, ◌&&◌, inl, inr, List, [], ◌∷◌, filter, Some, refl, sym}
use Rattle.std.proofs.Common.{◌∙◌, ap, subst, arith}
use Rattle.std.specs.List.{AllByRecursion}
use Rattle.std.proofs.lemmas.Bool.Decides.{nat_tests}
use Rattle.gs1_ids.specs.Sscc.{under_some}
use Rattle.gs1_ids.specs.Overlap.{PrefixFree}
use Rattle.hub_parties.specs.Rows.{company_prefixes, supplier_row}
use Rattle.hub_parties.specs.declared.row.SupplierRow.{SupplierRow}
use Rattle.hub_parties.specs.KeyOrder.{put, replace}
use Rattle.hub_tables.specs.Rows.{same, order_cmp, line_cmp, advice_cmp, pallet_cmp, content_cmp, receipt_cmp}
use Rattle.hub_tables.specs.Rows.{remembered_cmp, mail_cmp, same_line, same_pallet, same_mail}
use Rattle.hub_tables.specs.Tables.{Tables, has_pallet, holds, view}
use Rattle.hub_tables.specs.Change.{apply, apply_all}
use Rattle.hub_tables.specs.declared.change.Change.{Change}
use Rattle.hub_tables.specs.declared.change.Change.TheVariants.{AddHub, SetHub, AddKey, SetKey, AddPrefix}
use Rattle.hub_tables.specs.declared.change.Change.TheVariants.{AddOrder, AddLine, SetLine, AddAdvice, AddPallet, SetPallet}
use Rattle.hub_tables.specs.declared.change.Change.TheVariants.{AddContent, AddReceipt, ClearReceipts, Remember, AddMail, SetMail}
use Rattle.hub_tables.specs.declared.rows.PalletRow.{PalletRow}
use Rattle.hub_tables.proofs.Filters.{filter_again, filter_swap}
use Rattle.hub_tables.proofs.Lists.{decide, same_is, same_if, differ, filter_alike, filter_replace, filter_replace_out}
use Rattle.hub_tables.proofs.Lists.{all_replace, all_weaker, all_always}
use Rattle.hub_tables.proofs.KeyOrder.{all_put, any_put, filter_put_in, filter_put_out}
use Rattle.hub_tables.proofs.KindOrders.{order_total, line_total, advice_total, pallet_total, content_total, receipt_total}
use Rattle.hub_tables.proofs.KindOrders.{remembered_total, mail_total, line_key, mail_key, ordered_after}
use Rattle.hub_rules.specs.Laws.{PartiesStay}
use Rattle.hub_rules.specs.Sound.{IsRooted, Rooted}
use Rattle.hub_rules.proofs.Belonging.{Belongs, BelongAll, ChangesFollow}
use Rattle.hub_rules.proofs.OnPallets.{OnPallet, contents_after, receipts_after}
use Rattle.hub_rules.proofs.Prefixes.{ours, under_held, holds_seen, holds_all, holds_none}

-- setting a pallet keeps its SSCC and its supplier, so each supplier still has the same pallets
holds_set : (other : List ℕ) (r : PalletRow) (ps : List PalletRow) (x : List ℕ)
    → AllByRecursion (λ q. same q.sscc r.sscc ≡ true → q.supplier ≡ r.supplier) ps
    → holds other (replace (same_pallet r) r ps) x ≡ holds other ps x
holds_set other r [] x all = refl
holds_set other r (p ∷ ps) x all =
    let ih = holds_set other r ps x all.1 in
    elim (decide (same p.sscc r.sscc)) [
      | inl e ↦
          let number : p.sscc ≡ r.sscc = same_is p.sscc r.sscc e in
          let who : p.supplier ≡ r.supplier = all.0 e in
          let head : (same r.supplier other && same r.sscc x) ≡ (same p.supplier other && same p.sscc x) = cc in
          grind (arith, e, head, ih)
      | inr e ↦ grind (arith, e, ih)
    ]

-- no content and no receipt has the SSCC of a new pallet
holds_new : (other : List ℕ) (r : PalletRow) (t : Tables) (x : List ℕ)
    → has_pallet t r.sscc ≡ false
    → has_pallet t x ≡ true
    → holds other (put pallet_cmp r t.pallets) x ≡ holds other t.pallets x
holds_new other r t x fresh there =
    let apart : same r.sscc x ≡ false = differ r.sscc x (λ e. let both = ap (has_pallet t) e in (cc)) in
    any_put pallet_cmp (λ p. same p.supplier other && same p.sscc x) t.pallets r
    ∙ grind (arith, nat_tests, apart, decide (same r.supplier other), decide (holds other t.pallets x))

module _ (suppliers : List SupplierRow) (free : PrefixFree (company_prefixes suppliers)) (s : SupplierRow)
    (known : supplier_row suppliers s.gln ≡ Some s) (t : Tables) (rooted : Rooted suppliers t) where
  mine : (x : List ℕ) → under_some x s.prefixes ≡ true → AllByRecursion (λ q. same q.sscc x ≡ true → q.supplier ≡ s.gln) t.pallets
  mine x below = ours suppliers free s.gln s known t x rooted.pallets below

  held : (x : List ℕ) → has_pallet (view s.gln t) x ≡ true → holds s.gln t.pallets x ≡ true
  held x h = sym (holds_seen s.gln t.pallets x) ∙ h

  below_held : (x : List ℕ) → has_pallet (view s.gln t) x ≡ true → under_some x s.prefixes ≡ true
  below_held x h = under_held suppliers free s.gln s known t.pallets x rooted.pallets (held x h)

  -- an SSCC under the supplier's prefixes is used somewhere exactly if the supplier uses it
  pub used_seen : (x : List ℕ) → under_some x s.prefixes ≡ true → has_pallet t x ≡ has_pallet (view s.gln t) x
  used_seen x below = holds_all s.gln t.pallets x (mine x below) ∙ sym (holds_seen s.gln t.pallets x)

  fresh_all : (x : List ℕ) → under_some x s.prefixes ≡ true → has_pallet (view s.gln t) x ≡ false → has_pallet t x ≡ false
  fresh_all x below h = used_seen x below ∙ h

  not_theirs : (who other : List ℕ) → other ≢ s.gln → who ≡ s.gln → same who other ≡ false
  not_theirs who other ne e = differ who other (λ h. ne (sym h ∙ e))

  pallet_new : (other : List ℕ) (r : PalletRow)
      → has_pallet t r.sscc ≡ false
      → (filter (λ c. holds other (put pallet_cmp r t.pallets) c.sscc) t.contents
      ≡ filter (λ c. holds other t.pallets c.sscc) t.contents)
      × (filter (λ c. holds other (put pallet_cmp r t.pallets) c.sscc) t.receipts
      ≡ filter (λ c. holds other t.pallets c.sscc) t.receipts)
  pallet_new other r fresh = (
    filter_alike (λ c. holds other (put pallet_cmp r t.pallets) c.sscc) (λ c. holds other t.pallets c.sscc) t.contents
        (all_weaker (λ c. has_pallet t c.sscc ≡ true)
        (λ c. holds other (put pallet_cmp r t.pallets) c.sscc ≡ holds other t.pallets c.sscc)
        (λ c there. holds_new other r t c.sscc fresh there) t.contents rooted.contents),
    filter_alike (λ c. holds other (put pallet_cmp r t.pallets) c.sscc) (λ c. holds other t.pallets c.sscc) t.receipts
        (all_weaker (λ c. has_pallet t c.sscc ≡ true)
        (λ c. holds other (put pallet_cmp r t.pallets) c.sscc ≡ holds other t.pallets c.sscc)
        (λ c there. holds_new other r t c.sscc fresh there) t.receipts rooted.receipts),
  )

  set_alike : (r : PalletRow)
      → r.supplier ≡ s.gln
      → under_some r.sscc s.prefixes ≡ true
      → AllByRecursion (λ q. same q.sscc r.sscc ≡ true → q.supplier ≡ r.supplier) t.pallets
  set_alike r who below =
      all_weaker (λ q. same q.sscc r.sscc ≡ true → q.supplier ≡ s.gln)
      (λ q. same q.sscc r.sscc ≡ true → q.supplier ≡ r.supplier) (λ q f e. f e ∙ sym who) t.pallets (mine r.sscc below)

  pallet_set : (other : List ℕ) (r : PalletRow)
      → AllByRecursion (λ q. same q.sscc r.sscc ≡ true → q.supplier ≡ r.supplier) t.pallets
      → (filter (λ c. holds other (replace (same_pallet r) r t.pallets) c.sscc) t.contents
      ≡ filter (λ c. holds other t.pallets c.sscc) t.contents)
      × (filter (λ c. holds other (replace (same_pallet r) r t.pallets) c.sscc) t.receipts
      ≡ filter (λ c. holds other t.pallets c.sscc) t.receipts)
  pallet_set other r alike = (
    filter_alike (λ c. holds other (replace (same_pallet r) r t.pallets) c.sscc) (λ c. holds other t.pallets c.sscc)
        t.contents (all_always (λ c. holds other (replace (same_pallet r) r t.pallets) c.sscc ≡ holds other t.pallets c.sscc)
        (λ c. holds_set other r t.pallets c.sscc alike) t.contents),
    filter_alike (λ c. holds other (replace (same_pallet r) r t.pallets) c.sscc) (λ c. holds other t.pallets c.sscc)
        t.receipts (all_always (λ c. holds other (replace (same_pallet r) r t.pallets) c.sscc ≡ holds other t.pallets c.sscc)
        (λ c. holds_set other r t.pallets c.sscc alike) t.receipts),
  )

  -- the supplier sees the change
  pub seen : (c : Change) → Belongs s (view s.gln t) c → view s.gln (apply c t) ≡ apply c (view s.gln t)
  seen (AddHub r) h = absurd h
  seen (SetHub r) h = absurd h
  seen (AddKey r) h = absurd h
  seen (SetKey r) h = absurd h
  seen (AddPrefix r) h = absurd h
  seen (AddOrder r) h =
      ap (λ xs. record (view s.gln t) { orders = xs })
      (filter_put_in order_total (λ r. same r.supplier s.gln) t.orders r (rooted.ordered).orders (same_if r.supplier s.gln h))
  seen (AddLine r) h =
      ap (λ xs. record (view s.gln t) { lines = xs })
      (filter_put_in line_total (λ r. same r.supplier s.gln) t.lines r (rooted.ordered).lines (same_if r.supplier s.gln h))
  seen (SetLine r) h =
      ap (λ xs. record (view s.gln t) { lines = xs })
      (filter_replace (λ r. same r.supplier s.gln) (same_line r) r t.lines (same_if r.supplier s.gln h)
      (all_always (λ y. same_line r y ≡ true → same y.supplier s.gln ≡ true)
      (λ y e. same_if y.supplier s.gln ((line_key r y e).0 ∙ h)) t.lines))
  seen (AddAdvice r) h =
      ap (λ xs. record (view s.gln t) { advices = xs })
      (filter_put_in advice_total (λ r. same r.supplier s.gln) t.advices r (rooted.ordered).advices
      (same_if r.supplier s.gln h))
  seen (AddPallet r) h =
      let rest = pallet_new s.gln r (fresh_all r.sscc h.1 h.2) in
      let own = filter_put_in pallet_total (λ p. same p.supplier s.gln) t.pallets r (rooted.ordered).pallets
      (same_if r.supplier s.gln h.0) in
      λ i. record (view s.gln t) { pallets = own i; contents = rest.0 i; receipts = rest.1 i }
  seen (SetPallet r) h =
      let below = below_held r.sscc h.1 in
      let rest = pallet_set s.gln r (set_alike r h.0 below) in
      let own = filter_replace (λ p. same p.supplier s.gln) (same_pallet r) r t.pallets (same_if r.supplier s.gln h.0)
      (all_weaker (λ q. same q.sscc r.sscc ≡ true → q.supplier ≡ s.gln)
      (λ q. same q.sscc r.sscc ≡ true → same q.supplier s.gln ≡ true)
      (λ q f e. same_if q.supplier s.gln (f e)) t.pallets (mine r.sscc below)) in
      λ i. record (view s.gln t) { pallets = own i; contents = rest.0 i; receipts = rest.1 i }
  seen (AddContent r) h =
      ap (λ xs. record (view s.gln t) { contents = xs })
      (filter_put_in content_total (λ c. holds s.gln t.pallets c.sscc) t.contents r (rooted.ordered).contents (held r.sscc h))
  seen (AddReceipt r) h =
      ap (λ xs. record (view s.gln t) { receipts = xs })
      (filter_put_in receipt_total (λ c. holds s.gln t.pallets c.sscc) t.receipts r (rooted.ordered).receipts (held r.sscc h))
  seen (ClearReceipts sscc) h =
      ap (λ xs. record (view s.gln t) { receipts = xs })
      (filter_swap (λ c. holds s.gln t.pallets c.sscc) (λ c. not (same c.sscc sscc)) t.receipts)
  seen (Remember r) h =
      ap (λ xs. record (view s.gln t) { remembered = xs })
      (filter_put_in remembered_total (λ r. same r.supplier s.gln) t.remembered r (rooted.ordered).remembered
      (same_if r.supplier s.gln h))
  seen (AddMail r) h =
      ap (λ xs. record (view s.gln t) { mail = xs })
      (filter_put_in mail_total (λ r. same r.supplier s.gln) t.mail r (rooted.ordered).mail (same_if r.supplier s.gln h))
  seen (SetMail r) h =
      ap (λ xs. record (view s.gln t) { mail = xs })
      (filter_replace (λ r. same r.supplier s.gln) (same_mail r) r t.mail (same_if r.supplier s.gln h)
      (all_always (λ y. same_mail r y ≡ true → same y.supplier s.gln ≡ true)
      (λ y e. same_if y.supplier s.gln ((mail_key r y e).0 ∙ h)) t.mail))

  -- and no other supplier does
  pub unseen : (c : Change) → Belongs s (view s.gln t) c → (other : List ℕ) → other ≢ s.gln → view other (apply c t) ≡ view other t
  unseen (AddHub r) h other ne = absurd h
  unseen (SetHub r) h other ne = absurd h
  unseen (AddKey r) h other ne = absurd h
  unseen (SetKey r) h other ne = absurd h
  unseen (AddPrefix r) h other ne = absurd h
  unseen (AddOrder r) h other ne =
      ap (λ xs. record (view other t) { orders = xs })
      (filter_put_out order_cmp (λ r. same r.supplier other) t.orders r (not_theirs r.supplier other ne h))
  unseen (AddLine r) h other ne =
      ap (λ xs. record (view other t) { lines = xs })
      (filter_put_out line_cmp (λ r. same r.supplier other) t.lines r (not_theirs r.supplier other ne h))
  unseen (SetLine r) h other ne =
      ap (λ xs. record (view other t) { lines = xs })
      (filter_replace_out (λ r. same r.supplier other) (same_line r) r t.lines (not_theirs r.supplier other ne h)
      (all_always (λ y. same_line r y ≡ true → same y.supplier other ≡ false)
      (λ y e. not_theirs y.supplier other ne ((line_key r y e).0 ∙ h)) t.lines))
  unseen (AddAdvice r) h other ne =
      ap (λ xs. record (view other t) { advices = xs })
      (filter_put_out advice_cmp (λ r. same r.supplier other) t.advices r (not_theirs r.supplier other ne h))
  unseen (AddPallet r) h other ne =
      let rest = pallet_new other r (fresh_all r.sscc h.1 h.2) in
      let own = filter_put_out pallet_cmp (λ p. same p.supplier other) t.pallets r (not_theirs r.supplier other ne h.0) in
      λ i. record (view other t) { pallets = own i; contents = rest.0 i; receipts = rest.1 i }
  unseen (SetPallet r) h other ne =
      let below = below_held r.sscc h.1 in
      let rest = pallet_set other r (set_alike r h.0 below) in
      let own = filter_replace_out (λ p. same p.supplier other) (same_pallet r) r t.pallets
      (not_theirs r.supplier other ne h.0) (all_weaker (λ q. same q.sscc r.sscc ≡ true → q.supplier ≡ s.gln)
      (λ q. same q.sscc r.sscc ≡ true → same q.supplier other ≡ false)
      (λ q f e. not_theirs q.supplier other ne (f e)) t.pallets (mine r.sscc below)) in
      λ i. record (view other t) { pallets = own i; contents = rest.0 i; receipts = rest.1 i }
  unseen (AddContent r) h other ne =
      ap (λ xs. record (view other t) { contents = xs })
      (filter_put_out content_cmp (λ c. holds other t.pallets c.sscc) t.contents r
      (holds_none s.gln other t.pallets r.sscc ne (mine r.sscc (below_held r.sscc h))))
  unseen (AddReceipt r) h other ne =
      ap (λ xs. record (view other t) { receipts = xs })
      (filter_put_out receipt_cmp (λ c. holds other t.pallets c.sscc) t.receipts r
      (holds_none s.gln other t.pallets r.sscc ne (mine r.sscc (below_held r.sscc h))))
  unseen (ClearReceipts sscc) h other ne =
      ap (λ xs. record (view other t) { receipts = xs })
      (filter_again (λ c. holds other t.pallets c.sscc) (λ c. not (same c.sscc sscc)) t.receipts (λ c there.
      ap not (differ c.sscc sscc (λ e.
      let none = holds_none s.gln other t.pallets sscc ne (mine sscc (below_held sscc h.0)) in
      let here = ap (holds other t.pallets) e in
      (cc)))))
  unseen (Remember r) h other ne =
      ap (λ xs. record (view other t) { remembered = xs })
      (filter_put_out remembered_cmp (λ r. same r.supplier other) t.remembered r (not_theirs r.supplier other ne h))
  unseen (AddMail r) h other ne =
      ap (λ xs. record (view other t) { mail = xs })
      (filter_put_out mail_cmp (λ r. same r.supplier other) t.mail r (not_theirs r.supplier other ne h))
  unseen (SetMail r) h other ne =
      ap (λ xs. record (view other t) { mail = xs })
      (filter_replace_out (λ r. same r.supplier other) (same_mail r) r t.mail (not_theirs r.supplier other ne h)
      (all_always (λ y. same_mail r y ≡ true → same y.supplier other ≡ false)
      (λ y e. not_theirs y.supplier other ne ((mail_key r y e).0 ∙ h)) t.mail))

  in_all : (x : List ℕ) → has_pallet (view s.gln t) x ≡ true → has_pallet t x ≡ true
  in_all x h = used_seen x (below_held x h) ∙ h

  rooted_row : (r : PalletRow) → r.supplier ≡ s.gln → under_some r.sscc s.prefixes ≡ true → IsRooted suppliers r
  rooted_row r who below = record { supplier = s; known = ap (supplier_row suppliers) who ∙ known; is_under = below }

  on_pallet : (c : Change) → Belongs s (view s.gln t) c → OnPallet t c
  on_pallet (AddContent r) h = in_all r.sscc h
  on_pallet (AddReceipt r) h = in_all r.sscc h
  on_pallet other h = tt

  pallets_rooted : (c : Change) → Belongs s (view s.gln t) c → AllByRecursion (IsRooted suppliers) (apply c t).pallets
  pallets_rooted (AddPallet r) h = all_put pallet_cmp (IsRooted suppliers) t.pallets r rooted.pallets (rooted_row r h.0 h.1)
  pallets_rooted (SetPallet r) h =
      all_replace (IsRooted suppliers) (same_pallet r) r t.pallets rooted.pallets (rooted_row r h.0 (below_held r.sscc h.1))
  pallets_rooted other h = rooted.pallets

  -- and the tables stay rooted
  pub rooted_after : (c : Change) → Belongs s (view s.gln t) c → Rooted suppliers (apply c t)
  rooted_after c h = record {
    ordered = ordered_after c t rooted.ordered;
    pallets = pallets_rooted c h;
    contents = contents_after t c (on_pallet c h) rooted.contents;
    receipts = receipts_after t c (on_pallet c h) rooted.receipts;
  }

-- the register does not change
pub parties_stay : (s : SupplierRow) (state t : Tables) (c : Change) → Belongs s state c → PartiesStay t (apply c t)
parties_stay s state t (AddHub r) h = absurd h
parties_stay s state t (SetHub r) h = absurd h
parties_stay s state t (AddKey r) h = absurd h
parties_stay s state t (SetKey r) h = absurd h
parties_stay s state t (AddPrefix r) h = absurd h
parties_stay s state t other h = record { hubs = refl; keys = refl; prefixes = refl }

module _ (suppliers : List SupplierRow) (free : PrefixFree (company_prefixes suppliers)) (s : SupplierRow)
    (known : supplier_row suppliers s.gln ≡ Some s) where
  pub follows : (cs : List Change) (t : Tables)
      → Rooted suppliers t
      → BelongAll s (view s.gln t) cs
      → ChangesFollow suppliers s t (apply_all cs t) cs
  follows [] t rooted belong = record {
    seen = refl;
    unseen = λ other ne. refl;
    parties = record { hubs = refl; keys = refl; prefixes = refl };
    rooted = rooted;
  }
  follows (c ∷ cs) t rooted belong =
      let one = seen suppliers free s known t rooted c belong.0 in
      let still = parties_stay s (view s.gln t) t c belong.0 in
      let rest = follows cs (apply c t) (rooted_after suppliers free s known t rooted c belong.0)
      (subst (λ v. BelongAll s v cs) (sym one) belong.1) in
      record {
        seen = rest.seen ∙ ap (apply_all cs) one;
        unseen = λ other ne. rest.unseen other ne ∙ unseen suppliers free s known t rooted c belong.0 other ne;
        parties = record {
          hubs = rest.parties.hubs ∙ still.hubs;
          keys = rest.parties.keys ∙ still.keys;
          prefixes = rest.parties.prefixes ∙ still.prefixes;
        };
        rooted = rest.rooted;
      }
