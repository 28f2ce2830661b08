-- Proves that a supplier sees everything on its pallets, and that in sound rows nothing was received of an announced
-- pallet.
use Rattle.std.proofs.Common.{◌≡◌, ℕ, Bool, true, false, cond, not, ◌&&◌, ◌||◌, inl, inr, List, [], ◌∷◌, filter, sum_by, refl, sym, ap}
use Rattle.std.proofs.Common.{◌⊎◌, ◌≤◌, ◌^◌, subst, ◌∙◌, arith}
use Rattle.std.specs.List.{AllByRecursion, list_any}
use Rattle.std.proofs.Math.Bool.{or-true}
use Rattle.edi_base.proofs.Twice.{bytes_eq-sym}
use Rattle.hub_tables.specs.Rows.{same}
use Rattle.hub_tables.specs.Sets.{Has}
use Rattle.hub_tables.specs.State.{contents_of, receipts_of, is_announced}
use Rattle.hub_tables.specs.Tables.{Tables, holds, view}
use Rattle.hub_tables.specs.declared.rows.ContentRow.{ContentRow}
use Rattle.hub_tables.specs.declared.rows.LineRow.{LineRow}
use Rattle.hub_tables.specs.declared.rows.PalletRow.{PalletRow}
use Rattle.hub_tables.specs.declared.rows.ReceiptRow.{ReceiptRow}
use Rattle.hub_tables.proofs.Lists.{decide, same_is, same_if}
use Rattle.hub_rules.specs.Sound.{Kept, Single, same_sscc, was_received}
use Rattle.hub_acts.specs.HubTexts.Totals.{IsUnclean, pieces_of}
use Rattle.hub_transactions.specs.Status.{NoneReceived, PalletUnclean, SeesPallet}

none_of : {X : Type 0} (p q : X → Bool) (xs : List X) → ((x : X) → p x ≡ false → q x ≡ false) → list_any p xs ≡ false → list_any q xs
    ≡ false
none_of p q [] f none = refl
none_of p q (x ∷ xs) f none =
    elim (decide (p x)) [
      | inl e ↦ absurd (cc)
      | inr e ↦ ap (λ v. v || list_any q xs) (f x e) ∙ none_of p q xs f (sym (ap (λ v. v || list_any p xs) e) ∙ none)
    ]

not_among : {X : Type 0} (p : X → Bool) (xs : List X) (x : X) → Has xs x → list_any p xs ≡ false → p x ≡ false
not_among p [] x has none = absurd has
not_among p (y ∷ ys) x (inl is) none =
    elim (decide (p y)) [ inl e ↦ absurd (cc) | inr e ↦ ap p is ∙ e ]
not_among p (y ∷ ys) x (inr later) none =
    elim (decide (p y)) [
      | inl e ↦ absurd (cc)
      | inr e ↦ not_among p ys x later (sym (ap (λ v. v || list_any p ys) e) ∙ none)
    ]

module _ (pallet : PalletRow) (announced : is_announced pallet ≡ true) where
  abbrev received_one : PalletRow → Bool
  received_one other = same other.sscc pallet.sscc && not (is_announced other)

  apart : (other : PalletRow) → same pallet.sscc other.sscc ≡ false → received_one other ≡ false
  apart other differ = ap (λ v. v && not (is_announced other)) (bytes_eq-sym other.sscc pallet.sscc ∙ differ)

  -- no received pallet has its SSCC
  none_received : (pallets : List PalletRow) → Single same_sscc pallets → Has pallets pallet → list_any received_one pallets ≡ false
  none_received [] single has = absurd has
  none_received (one ∷ rest) single (inl is) =
      let itself : received_one one ≡ false =
      ap received_one (sym is) ∙ ap (λ v. same pallet.sscc pallet.sscc && not v) announced ∙ and_none (same pallet.sscc pallet.sscc) in
      ap (λ v. v || list_any received_one rest) itself
      ∙ none_of (same_sscc one) received_one rest (λ other differ. apart other (ap (λ p. same p.sscc other.sscc) is ∙ differ)) single.0
    where
      and_none : (v : Bool) → (v && false) ≡ false
      and_none true = refl
      and_none false = refl
  none_received (one ∷ rest) single (inr later) =
      let other : same pallet.sscc one.sscc ≡ false =
      bytes_eq-sym pallet.sscc one.sscc ∙ not_among (same_sscc one) rest pallet later single.0 in
      ap (λ v. v || list_any received_one rest) (apart one other) ∙ none_received rest single.1 later

  no_receipts : (state : Tables) (receipts : List ReceiptRow) → was_received state pallet.sscc ≡ false
      → AllByRecursion (λ receipt. was_received state receipt.sscc ≡ true) receipts
      → filter (λ receipt. same receipt.sscc pallet.sscc) receipts ≡ []
  no_receipts state [] never all = refl
  no_receipts state (receipt ∷ receipts) never all =
      elim (decide (same receipt.sscc pallet.sscc)) [
        | inl its ↦
            let was : was_received state pallet.sscc ≡ true =
            ap (was_received state) (sym (same_is receipt.sscc pallet.sscc its)) ∙ all.0 in
            absurd (cc)
        | inr other ↦
            ap (λ (v : Bool). cond v (receipt ∷ filter (λ receipt. same receipt.sscc pallet.sscc) receipts)
            (filter (λ receipt. same receipt.sscc pallet.sscc) receipts)) other
            ∙ no_receipts state receipts never all.1
      ]

pub announced_unreceived : (state : Tables) → Kept state → (pallet : PalletRow) → Has state.pallets pallet → NoneReceived state pallet
announced_unreceived state kept pallet has announced =
    no_receipts pallet announced state state.receipts (none_received pallet announced state.pallets kept.pallets has) kept.receipt_pallets

-- A supplier sees all contents and receipts of its pallets.
module _ (supplier sscc : List ℕ) (pallets : List PalletRow) (held : holds supplier pallets sscc ≡ true) where
  all_seen : {X : Type 0} (of_row : X → List ℕ) (rows : List X)
      → filter (λ row. same (of_row row) sscc) (filter (λ row. holds supplier pallets (of_row row)) rows)
      ≡ filter (λ row. same (of_row row) sscc) rows
  all_seen of_row [] = refl
  all_seen of_row (row ∷ rows) =
      let rest = all_seen of_row rows in
      let kept = filter (λ row. holds supplier pallets (of_row row)) rows in
      elim (decide (same (of_row row) sscc)) [
        | inl its ↦
            let own : holds supplier pallets (of_row row) ≡ true = ap (holds supplier pallets) (same_is (of_row row) sscc its) ∙ held in
            ap (λ (v : Bool). filter (λ row. same (of_row row) sscc) (cond v (row ∷ kept) kept)) own
            ∙ ap (λ (v : Bool). cond v (row ∷ filter (λ row. same (of_row row) sscc) kept) (filter (λ row. same
            (of_row row) sscc) kept)) its
            ∙ ap (λ others. row ∷ others) rest
            ∙ sym (ap (λ (v : Bool). cond v (row ∷ filter (λ row. same (of_row row) sscc) rows)
            (filter (λ row. same (of_row row) sscc) rows)) its)
        | inr other ↦
            passed_over (holds supplier pallets (of_row row)) other rest
      ]
    where
      passed_over : (v : Bool) → same (of_row row) sscc ≡ false
          → filter (λ row. same (of_row row) sscc) (filter (λ row. holds supplier pallets (of_row row)) rows)
          ≡ filter (λ row. same (of_row row) sscc) rows
          → filter (λ row. same (of_row row) sscc)
          (cond v (row ∷ filter (λ row. holds supplier pallets (of_row row)) rows) (filter (λ row. holds supplier pallets
          (of_row row)) rows))
          ≡ cond (same (of_row row) sscc) (row ∷ filter (λ row. same (of_row row) sscc) rows) (filter (λ row. same (of_row row) sscc) rows)
      passed_over true other rest =
          ap (λ (w : Bool). cond w (row ∷ filter (λ row. same (of_row row) sscc) (filter (λ row. holds supplier pallets (of_row row)) rows))
          (filter (λ row. same (of_row row) sscc) (filter (λ row. holds supplier pallets (of_row row)) rows))) other
          ∙ rest ∙ sym (ap (λ (w : Bool). cond w (row ∷ filter (λ row. same (of_row row) sscc) rows)
          (filter (λ row. same (of_row row) sscc) rows)) other)
      passed_over false other rest =
          rest ∙ sym (ap (λ (w : Bool). cond w (row ∷ filter (λ row. same (of_row row) sscc) rows)
          (filter (λ row. same (of_row row) sscc) rows)) other)

-- a pallet that a supplier sees is its own
own_held : (supplier : List ℕ) (pallets : List PalletRow) (pallet : PalletRow)
    → Has (filter (λ row. same row.supplier supplier) pallets) pallet
    → holds supplier pallets pallet.sscc ≡ true
own_held supplier [] pallet has = absurd has
own_held supplier (one ∷ rest) pallet has =
    let own_later = own_held supplier rest pallet in
    elim (decide (same one.supplier supplier)) [
      | inl its ↦ at_first its own_later (subst (λ rows. Has rows pallet)
          (ap (λ (v : Bool). cond v (one ∷ filter (λ row. same row.supplier supplier) rest) (filter
          (λ row. same row.supplier supplier) rest)) its) has)
      | inr other ↦
          later (own_later (subst (λ rows. Has rows pallet)
          (ap (λ (v : Bool). cond v (one ∷ filter (λ row. same row.supplier supplier) rest) (filter
          (λ row. same row.supplier supplier) rest)) other) has))
    ]
  where
    later : holds supplier rest pallet.sscc ≡ true
        → ((same one.supplier supplier && same one.sscc pallet.sscc) || holds supplier rest pallet.sscc) ≡ true
    later h = ap (λ v. (same one.supplier supplier && same one.sscc pallet.sscc) || v) h
        ∙ or-true (same one.supplier supplier && same one.sscc pallet.sscc)

    at_first : same one.supplier supplier ≡ true
        → (Has (filter (λ row. same row.supplier supplier) rest) pallet → holds supplier rest pallet.sscc ≡ true)
        → Has (one ∷ filter (λ row. same row.supplier supplier) rest) pallet
        → ((same one.supplier supplier && same one.sscc pallet.sscc) || holds supplier rest pallet.sscc) ≡ true
    at_first its own_later (inl is) =
        ap (λ v. (v && same one.sscc pallet.sscc) || holds supplier rest pallet.sscc) its
        ∙ ap (λ v. v || holds supplier rest pallet.sscc) (same_if one.sscc pallet.sscc (ap (λ p. p.sscc) (sym is)))
    at_first its own_later (inr more) = later (own_later more)

pub sees_all : (supplier : List ℕ) (t : Tables) (pallet : PalletRow) → Has (view supplier t).pallets pallet
    → (contents_of t pallet.sscc ≡ contents_of (view supplier t) pallet.sscc) × (receipts_of t pallet.sscc
    ≡ receipts_of (view supplier t) pallet.sscc)
sees_all supplier t pallet has =
    let held = own_held supplier t.pallets pallet has in (
      sym (all_seen supplier pallet.sscc t.pallets held (λ row. row.sscc) t.contents),
      sym (all_seen supplier pallet.sscc t.pallets held (λ row. row.sscc) t.receipts),
    )

pub sees_pallet : (supplier : List ℕ) (t : Tables) → Kept (view supplier t) → (pallet : PalletRow) → Has (view supplier t).pallets pallet
    → SeesPallet (view supplier t) t pallet
sees_pallet supplier t kept pallet has = record {
  contents = (sees_all supplier t pallet has).0;
  receipts = (sees_all supplier t pallet has).1;
  none = announced_unreceived (view supplier t) kept pallet has;
}

-- a pallet whose pieces cannot be counted is also such a pallet as the supplier sees it
pub unclean_seen : (supplier : List ℕ) (t : Tables) (lines : List LineRow)
    → PalletUnclean t lines (view supplier t).pallets
    → PalletUnclean (view supplier t) lines (view supplier t).pallets
unclean_seen supplier t lines unclean =
    let both = sees_all supplier t unclean.pallet unclean.there in
    record {
      pallet = unclean.pallet;
      there = unclean.there;
      unclean =
          subst (λ rows. IsUnclean lines rows (receipts_of (view supplier t) unclean.pallet.sscc)) both.0
          (subst (λ rows. IsUnclean lines (contents_of t unclean.pallet.sscc) rows) both.1 unclean.unclean);
    }

-- if only some receipts of a pallet were looked up and cannot be counted, neither can all of them
pub unclean_of_some : (lines : List LineRow) (contents : List ContentRow) (some all : List ReceiptRow)
    → (some ≡ []) ⊎ (some ≡ all)
    → IsUnclean lines contents some
    → IsUnclean lines contents all
unclean_of_some lines contents some all (inr is) unclean = subst (λ rows. IsUnclean lines contents rows) is unclean
unclean_of_some lines contents some all (inl none) (inl named) = inl named
unclean_of_some lines contents some all (inl none) (inr (inl past)) = inr (inl past)
unclean_of_some lines contents some all (inl none) (inr (inr past)) =
    let past_nothing : 2 ^ 64 ≤ 0 = subst (λ rows. 2 ^ 64 ≤ sum_by pieces_of rows) none past in
    absurd (omega (arith, past_nothing))
