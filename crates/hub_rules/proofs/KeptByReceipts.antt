-- Shows that receiving advices keep a supplier's rows sound.
use Rattle.std.proofs.Common.{◌≡◌, ℕ, Bool, true, false, cond, not, ◌&&◌, ◌||◌, inl, inr, List, [], ◌∷◌, ◌++◌, map, filter, Some}
use Rattle.std.proofs.Common.{refl, sym, ◌∙◌, ap, ap₂, subst, arith, length}
use Rattle.std.specs.List.{AllByRecursion, list_any}
use Rattle.std.proofs.lemmas.Bool.{or_parts, or_from}
use Rattle.edi_base.proofs.Twice.{bytes_eq-sym}
use Rattle.edi_documents.specs.EdiGoods.declared.receipt.Receipt.{Receipt}
use Rattle.edi_documents.specs.EdiGoods.declared.receipt.ReceiptLine.{ReceiptLine}
use Rattle.edi_documents.specs.EdiGoods.declared.receipt.ReceiptUnit.{ReceiptUnit}
use Rattle.hub_parties.specs.declared.row.SupplierRow.{SupplierRow}
use Rattle.hub_tables.specs.Cases.{arrival_number}
use Rattle.hub_tables.specs.Change.{apply}
use Rattle.hub_tables.specs.Rows.{same, receipt_cmp}
use Rattle.hub_tables.specs.State.{pallet_of}
use Rattle.hub_tables.specs.Tables.{Tables, has_pallet}
use Rattle.hub_tables.specs.declared.cases.MailKind.TheVariants as kinds
use Rattle.hub_tables.specs.declared.cases.Side.TheVariants as sides
use Rattle.hub_tables.specs.declared.change.Change.{Change}
use Rattle.hub_tables.specs.declared.change.Change.TheVariants.{SetPallet, AddReceipt, ClearReceipts}
use Rattle.hub_tables.specs.declared.rows.PalletRow.{PalletRow}
use Rattle.hub_tables.specs.declared.rows.ReceiptRow.{ReceiptRow}
use Rattle.hub_tables.proofs.Filters.{filter_swap, filter_opposite}
use Rattle.hub_tables.proofs.KeyOrder.{any_put, filter_put_in}
use Rattle.hub_tables.proofs.KindOrders.{receipt_total}
use Rattle.hub_tables.proofs.Lists.{decide, same_is, same_if, differ, all_filter, all_weaker, all_always, all_found, any_if_found}
use Rattle.hub_tables.proofs.Lists.{filter_none}
use Rattle.hub_rules.specs.Laws.{KeptOwn}
use Rattle.hub_rules.specs.Judging.{in_order}
use Rattle.hub_rules.specs.Sound.{Single, Kept, same_gtin, was_received}
use Rattle.hub_rules.specs.MailboxRules.{is_full, new_mail}
use Rattle.hub_rules.specs.ReceiptRules.{gtins, total, new_receipt, arrival_by, cleared, judge_received, judge_new_receipt}
use Rattle.hub_rules.specs.Rules.{judge_receipt}
use Rattle.hub_rules.specs.declared.code.Code.TheVariants as codes
use Rattle.hub_rules.specs.declared.incoming.IncomingMessage.{IncomingMessage}
use Rattle.hub_rules.proofs.GoodRows.{good_after, leaves_good}
use Rattle.hub_rules.proofs.Keeping.{kept_goods, kept_received, kept_receipt, kept_mail}
use Rattle.hub_rules.proofs.KeptByMessages.{leads_message}
use Rattle.hub_rules.proofs.KeptLists.{is_received, received_now, found_unreceived}
use Rattle.hub_rules.proofs.OnPallets.{pallet_stays}
use Rattle.hub_rules.proofs.Verdicts.{not_refused, was_given, Leaves, Leads, leaves_given, leaves_nothing, leaves_next}
use Rattle.hub_rules.proofs.Verdicts.{leads_in_order, leaves_in_turn}

-- what does not occur in a list does not occur in a part of it
any_less : {X : Type 0} (q p : X → Bool) (xs : List X) → list_any q xs ≡ false → list_any q (filter p xs) ≡ false
any_less q p [] h = refl
any_less q p (x ∷ xs) h =
    let parts = or_parts (q x) (list_any q xs) h in
    elim (p x) as (λ v. list_any q (cond v (x ∷ filter p xs) (filter p xs)) ≡ false) [
      | true ↦ or_from (q x) (list_any q (filter p xs)) parts.0 (any_less q p xs parts.1)
      | false ↦ any_less q p xs parts.1
    ]

single_filter : {X : Type 0} (alike : X → X → Bool) (p : X → Bool) (xs : List X) → Single alike xs → Single alike (filter p xs)
single_filter alike p [] a = tt
single_filter alike p (x ∷ xs) a =
    elim (p x) as (λ v. Single alike (cond v (x ∷ filter p xs) (filter p xs)))
    [ true ↦ (any_less (alike x) p xs a.0, single_filter alike p xs a.1) | false ↦ single_filter alike p xs a.1 ]

-- deleting the receipts of a pallet
kept_cleared : (state : Tables) (sscc : List ℕ) → Kept state → Kept (apply (ClearReceipts sscc) state)
kept_cleared state sscc kept =
    kept_goods state kept refl kept.pallets
    (λ of.
    subst (Single same_gtin) (filter_swap (λ (r : ReceiptRow). not (same r.sscc sscc)) (λ r. same r.sscc of) state.receipts)
    (single_filter same_gtin (λ r. not (same r.sscc sscc)) (filter (λ r. same r.sscc of) state.receipts) (kept.receipts of)))
    (all_filter (λ r. was_received state r.sscc ≡ true) (λ r. not (same r.sscc sscc)) state.receipts kept.receipt_pallets)

gone : (gtin : List ℕ) (gtins : List (List ℕ)) → list_any (same gtin) (filter (λ other. not (same other gtin)) gtins) ≡ false
gone gtin [] = refl
gone gtin (other ∷ others) =
    let ih = gone gtin others in
    let turn = bytes_eq-sym gtin other in
    elim (decide (same other gtin)) [ inl e ↦ grind (arith, e, ih) | inr e ↦ grind (arith, e, turn, ih) ]

-- each article occurs once
gtins_single : (lines : List ReceiptLine) → Single same (gtins lines)
gtins_single [] = tt
gtins_single (line ∷ lines) =
    (gone line.gtin (gtins lines), single_filter same (λ gtin. not (same gtin line.gtin)) (gtins lines) (gtins_single lines))

abbrev receipt_of : List ℕ → List ReceiptLine → List ℕ → ReceiptRow
receipt_of sscc lines gtin = record {
  sscc = sscc;
  gtin = gtin;
  accepted = total (λ line. line.accepted) gtin lines;
  returned = total (λ line. line.returned) gtin lines;
  destroyed = total (λ line. line.destroyed) gtin lines;
}

-- no receipt on the pallet has the article
abbrev Lacks : List ℕ → Tables → List ℕ → Type 0
Lacks sscc state gtin = list_any (λ y. same y.gtin gtin) (filter (λ y. same y.sscc sscc) state.receipts) ≡ false

abbrev arrived_by : Bool → PalletRow → PalletRow
arrived_by replaces pallet = record pallet { received = arrival_number (arrival_by replaces) }

abbrev set : Tables → Bool → PalletRow → Tables
set state replaces pallet = apply (SetPallet (arrived_by replaces pallet)) state

module _ (s : SupplierRow) where
  still_lacking : (sscc : List ℕ) (lines : List ReceiptLine) (gtin : List ℕ) (state : Tables)
      → KeptOwn s state
      → (others : List (List ℕ))
      → list_any (same gtin) others ≡ false
      → AllByRecursion (Lacks sscc state) others
      → AllByRecursion (Lacks sscc (apply (AddReceipt (receipt_of sscc lines gtin)) state)) others
  still_lacking sscc lines gtin state good [] apart lacking = tt
  still_lacking sscc lines gtin state good (other ∷ others) apart lacking =
      let parts = or_parts (same gtin other) (list_any (same gtin) others) apart in (
        ap (list_any (λ y. same y.gtin other))
            (filter_put_in receipt_total (λ y. same y.sscc sscc) state.receipts (receipt_of sscc lines gtin)
            good.own.ordered.receipts (same_if sscc sscc refl))
            ∙ any_put receipt_cmp (λ y. same y.gtin other) (filter (λ y. same y.sscc sscc) state.receipts) (receipt_of sscc lines gtin)
            ∙ ap₂ (λ v w. v || (w || false)) lacking.0 parts.0,
        still_lacking sscc lines gtin state good others parts.1 lacking.1,
      )

  -- receipts of different articles, for a received pallet that has none of them
  leaves_receipts : (sscc : List ℕ) (lines : List ReceiptLine) (gtins : List (List ℕ)) (state : Tables)
      → KeptOwn s state
      → has_pallet state sscc ≡ true
      → was_received state sscc ≡ true
      → Single same gtins
      → AllByRecursion (Lacks sscc state) gtins
      → Leaves s (KeptOwn s) state (map (new_receipt sscc lines) gtins)
  leaves_receipts sscc lines [] state good there received single lacking = leaves_nothing s (KeptOwn s) state good
  leaves_receipts sscc lines (gtin ∷ gtins) state good there received single lacking =
      let row = receipt_of sscc lines gtin in
      leaves_next s (KeptOwn s) state (AddReceipt row) (map (new_receipt sscc lines) gtins) there
      (leaves_receipts sscc lines gtins (apply (AddReceipt row) state) (good_after s state (AddReceipt row) there good.own
      (kept_receipt state good.kept row good.own.ordered.receipts received lacking.0)) there received single.1
      (still_lacking sscc lines gtin state good gtins single.0 lacking.1))

  -- a pallet of the supplier is received, then its receipts change
  leaves_arrived : (sscc : List ℕ) (row : PalletRow) (state : Tables) (later : List Change)
      → KeptOwn s state
      → row.sscc ≡ sscc
      → row.supplier ≡ s.gln
      → is_received row ≡ true
      → has_pallet state sscc ≡ true
      → (KeptOwn s (apply (SetPallet row) state)
      → has_pallet (apply (SetPallet row) state) sscc ≡ true
      → was_received (apply (SetPallet row) state) sscc ≡ true
      → Leaves s (KeptOwn s) (apply (SetPallet row) state) later)
      → Leaves s (KeptOwn s) state (SetPallet row ∷ later)
  leaves_arrived sscc row state later good which whose now there f =
      let here : has_pallet state row.sscc ≡ true = ap (has_pallet state) which ∙ there in
      let after : Tables = apply (SetPallet row) state in
      let belongs : (row.supplier ≡ s.gln) × (has_pallet state row.sscc ≡ true) = (whose, here) in
      leaves_next s (KeptOwn s) state (SetPallet row) later belongs
      (f (good_after s state (SetPallet row) belongs good.own (kept_received state good.kept row now))
      (pallet_stays sscc state (SetPallet row) there)
      (ap (was_received after) (sym which) ∙ received_now row state.pallets now here))

  -- a pallet that was not received has no receipts
  none_yet : (sscc : List ℕ) (state : Tables)
      → KeptOwn s state
      → was_received state sscc ≡ false
      → filter (λ y. same y.sscc sscc) state.receipts ≡ []
  none_yet sscc state good not_yet =
      filter_none (λ y. same y.sscc sscc) state.receipts
      (all_weaker (λ r. was_received state r.sscc ≡ true) (λ r. same r.sscc sscc ≡ false)
      (λ r was. differ r.sscc sscc (λ e. let both = ap (was_received state) e in (cc))) state.receipts
      good.kept.receipt_pallets)

  all_lacking : (sscc : List ℕ) (state : Tables) (gtins : List (List ℕ))
      → filter (λ y. same y.sscc sscc) state.receipts ≡ []
      → AllByRecursion (Lacks sscc state) gtins
  all_lacking sscc state gtins none =
      all_always (Lacks sscc state) (λ gtin. ap (list_any (λ (y : ReceiptRow). same y.gtin gtin)) none) gtins

  leads_received : (replaces : Bool) (unit : ReceiptUnit) → Leads s (KeptOwn s) (KeptOwn s) (judge_received replaces unit)
  leads_received replaces unit state changes good h =
      let p = was_given (pallet_of state unit.sscc) codes.NoPallet _ changes h in
      let a = not_refused (not replaces && is_received p.0) codes.PalletReceived _ changes p.2 in
      let found = all_found (λ p. p.supplier ≡ s.gln) (λ p. same p.sscc unit.sscc) state.pallets p.0 good.own.pallets p.1 in
      let which : p.0.sscc ≡ unit.sscc = same_is p.0.sscc unit.sscc found.1 in
      let there : has_pallet state unit.sscc ≡ true = any_if_found (λ p. same p.sscc unit.sscc) state.pallets p.0 p.1 in
      leaves_given s (KeptOwn s) state _ changes a.1
      (leaves_arrived unit.sscc _ state _ good which found.0 (arrived p.0 replaces) there
      (later replaces p.0 a.0 p.1))
    where
      arrived : (p : PalletRow) (replaces : Bool) → is_received (arrived_by replaces p) ≡ true
      arrived p true = refl
      arrived p false = refl

      sums : List Change
      sums = map (new_receipt unit.sscc unit.lines) (gtins unit.lines)

      later : (replaces : Bool) (p : PalletRow)
          → (not replaces && is_received p) ≡ false
          → pallet_of state unit.sscc ≡ Some p
          → KeptOwn s (set state replaces p)
          → has_pallet (set state replaces p) unit.sscc ≡ true
          → was_received (set state replaces p) unit.sscc ≡ true
          → Leaves s (KeptOwn s) (set state replaces p) (cleared replaces unit.sscc ++ sums)
      later true p asked found set_good there received =
          let clear : Change = ClearReceipts unit.sscc in
          let belongs : (has_pallet (set state true p) unit.sscc ≡ true) × Kept (set state true p) = (there, set_good.kept) in
          leaves_next s (KeptOwn s) (set state true p) clear sums belongs
          (leaves_receipts unit.sscc unit.lines (gtins unit.lines) (apply clear (set state true p))
          (good_after s (set state true p) clear belongs set_good.own (kept_cleared (set state true p) unit.sscc set_good.kept)) there
          received (gtins_single unit.lines) (all_lacking unit.sscc (apply clear (set state true p)) (gtins unit.lines)
          (filter_opposite (λ (y : ReceiptRow). same y.sscc unit.sscc) state.receipts)))
      later false p asked found set_good there received =
          leaves_receipts unit.sscc unit.lines (gtins unit.lines) (set state false p) set_good there received
          (gtins_single unit.lines) (all_lacking unit.sscc (set state false p) (gtins unit.lines)
          (none_yet unit.sscc state good (found_unreceived unit.sscc state.pallets p good.kept.pallets found asked)))

  leads_new_receipt : (incoming : IncomingMessage) (body : List ℕ) (receipt : Receipt)
      → Leads s (KeptOwn s) (KeptOwn s) (judge_new_receipt s.gln incoming body receipt)
  leads_new_receipt incoming body receipt state changes good h =
      let a = not_refused (is_full (length state.mail)) codes.MailboxFull _ changes h in
      let mail : Change = new_mail s.gln state incoming kinds.Receipt receipt.number body in
      leaves_in_turn s (KeptOwn s) (KeptOwn s) (mail ∷ []) (in_order (judge_received receipt.replaces) receipt.units) state changes
      (leaves_good s state mail refl good.own (kept_mail state good.kept s.gln _ good.own.mail refl refl))
      (leads_in_order s (KeptOwn s) (judge_received receipt.replaces) (leads_received receipt.replaces) receipt.units) a.1

  pub leads_receipt : (retailer : List ℕ) (incoming : IncomingMessage) (body : List ℕ) (receipt : Receipt)
      → Leads s (KeptOwn s) (KeptOwn s) (judge_receipt retailer (Some s) incoming body receipt)
  leads_receipt retailer incoming body receipt =
      leads_message s retailer sides.Retailer incoming receipt.buyer receipt.supplier
      (λ s. judge_new_receipt s.gln incoming body receipt) (leads_new_receipt incoming body receipt)
