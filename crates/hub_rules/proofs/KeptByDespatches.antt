-- Shows that despatch advices keep a supplier's rows sound.
use Rattle.std.proofs.Common.{◌≡◌, ℕ, ◌+◌, ◌-◌, ◌≤◌, nat_lt, Bool, true, false, not, ◌||◌, List, [], ◌∷◌, Some, refl, ◌∙◌, ap, arith}
use Rattle.std.specs.List.{AllByRecursion}
use Rattle.std.proofs.lemmas.Bool.{not-false, or_parts, or_right}
use Rattle.std.proofs.lemmas.Bool.Decides.{nat_tests}
use Rattle.gs1_ids.specs.Sscc.{under_some}
use Rattle.edi_documents.specs.EdiGoods.declared.despatch.Despatch.{Despatch}
use Rattle.edi_documents.specs.EdiGoods.declared.despatch.DespatchLine.{DespatchLine}
use Rattle.edi_documents.specs.EdiGoods.declared.despatch.Unit.{Unit as PalletUnit}
use Rattle.hub_parties.specs.declared.row.SupplierRow.{SupplierRow}
use Rattle.hub_tables.specs.Cases.{arrival_number}
use Rattle.hub_tables.specs.Change.{apply}
use Rattle.hub_parties.specs.KeyOrder.{put}
use Rattle.hub_tables.specs.Rows.{same, pallet_cmp, content_cmp}
use Rattle.hub_tables.specs.State.{knows_order, knows_advice, line_of, despatched}
use Rattle.hub_tables.specs.Tables.{Tables, has_pallet}
use Rattle.hub_tables.specs.declared.cases.Arrival.TheVariants.{Announced}
use Rattle.hub_tables.specs.declared.cases.Side.TheVariants as sides
use Rattle.hub_tables.specs.declared.change.Change.TheVariants.{SetLine, AddAdvice, AddPallet, AddContent}
use Rattle.hub_tables.specs.declared.rows.AdviceRow.{AdviceRow}
use Rattle.hub_tables.specs.declared.rows.ContentRow.{ContentRow}
use Rattle.hub_tables.specs.declared.rows.LineRow.{LineRow}
use Rattle.hub_tables.specs.declared.rows.PalletRow.{PalletRow}
use Rattle.hub_tables.proofs.KeyOrder.{all_put, any_put}
use Rattle.hub_tables.proofs.Lists.{same_is, same_if, all_weaker, all_itself}
use Rattle.hub_rules.specs.Laws.{KeptOwn}
use Rattle.hub_rules.specs.DespatchRules.{placed, judge_despatched, judge_unit, judge_new_despatch}
use Rattle.hub_rules.specs.Judging.{in_order}
use Rattle.hub_rules.specs.Sound.{knows_line, same_line_number}
use Rattle.hub_rules.specs.Rules.{judge_despatch}
use Rattle.hub_rules.specs.declared.code.Code.TheVariants as codes
use Rattle.hub_rules.specs.declared.incoming.IncomingMessage.{IncomingMessage}
use Rattle.hub_rules.proofs.Belonging.{Belongs}
use Rattle.hub_rules.proofs.GoodRows.{GoodLine, good_after, good_lines, line_found, leaves_good}
use Rattle.hub_rules.proofs.Keeping.{kept_despatched, kept_advice, kept_pallet}
use Rattle.hub_rules.proofs.KeptByMessages.{leads_message}
use Rattle.hub_rules.proofs.KeptLists.{none_at}
use Rattle.hub_rules.proofs.Owned.{own_after}
use Rattle.hub_rules.proofs.Verdicts.{not_refused, was_given, Leads, leaves_given, leaves_nothing, leaves_next}
use Rattle.hub_rules.proofs.Verdicts.{leads_in_turn, leads_in_order, leaves_in_turn}

balanced_despatched : (ordered open_qty refused cancelled sent quantity : ℕ)
    → ordered ≡ open_qty + refused + cancelled + sent
    → nat_lt open_qty quantity ≡ false
    → ordered ≡ (open_qty - quantity) + refused + cancelled + (sent + quantity)
balanced_despatched ordered open_qty refused cancelled sent quantity h enough = grind (arith, nat_tests)

-- while a pallet is filled: it exists and has contents up to place `n`
record Filled (s : SupplierRow) (sscc : List ℕ) (n : ℕ) (state : Tables) : Type 0 where
  pub good : KeptOwn s state
  pub there : has_pallet state sscc ≡ true
  pub below : AllByRecursion (λ content. same content.sscc sscc ≡ true → content.place ≤ n) state.contents

module _ (s : SupplierRow) where
  leads_despatched : (sscc : List ℕ) (n : ℕ) (said : DespatchLine)
      → Leads s (Filled s sscc n) (Filled s sscc (n + 1)) (judge_despatched sscc (n + 1, said))
  leads_despatched sscc n said state changes filled h =
      let a = not_refused (not (knows_order state said.order)) codes.NoOrder _ changes h in
      let found = was_given (line_of state said.order said.order_line said.gtin) codes.NoLine _ changes a.1 in
      let b = not_refused (not (same found.0.gtin said.gtin)) codes.OtherArticle _ changes found.2 in
      let c = not_refused (nat_lt found.0.open_qty said.quantity) codes.MoreThanOpen _ changes b.1 in
      let good = filled.good in
      let fine = line_found (GoodLine s state) state said.order said.order_line said.gtin found.0 (good_lines s state good) found.1 in
      let known = line_found (λ line. knows_line state line.number line.line ≡ true) state said.order said.order_line
      said.gtin found.0 (all_itself (λ line other. same_line_number other line)
      (λ line. let e = same_if line.number line.number refl in grind (arith, nat_tests, e)) state.lines)
      found.1 in
      let line : LineRow = record found.0 { open_qty = found.0.open_qty - said.quantity } in
      let content : ContentRow =
      record { sscc = sscc; place = n + 1; number = found.0.number; line = found.0.line; quantity = said.quantity } in
      let fresh = none_at sscc n state.contents content refl filled.below in
      let kept =
      kept_despatched state good.kept s.gln line content good.own.ordered.contents good.own.lines fine.whose fine.known refl
      refl known
      (balanced_despatched found.0.ordered found.0.open_qty found.0.refused found.0.cancelled (despatched state found.0)
      said.quantity fine.balance c.0) fresh in
      let below : AllByRecursion (λ content. same content.sscc sscc ≡ true → content.place ≤ n + 1)
      (put content_cmp content state.contents) =
      all_put content_cmp (λ content. same content.sscc sscc ≡ true → content.place ≤ n + 1) state.contents content
      (all_weaker (λ content. same content.sscc sscc ≡ true → content.place ≤ n)
      (λ content. same content.sscc sscc ≡ true → content.place ≤ n + 1) (λ c lower on. omega (arith, lower on))
      state.contents filled.below) (λ on. omega arith) in
      let after : Filled s sscc (n + 1) (apply (AddContent content) (apply (SetLine line) state)) = record {
        good =
            good_after s (apply (SetLine line) state) (AddContent content) filled.there
            (own_after s state (SetLine line) fine.whose good.own) kept;
        there = filled.there;
        below = below;
      } in
      leaves_given s (Filled s sscc (n + 1)) state (SetLine line ∷ AddContent content ∷ []) changes c.1
      (leaves_next s (Filled s sscc (n + 1)) state (SetLine line) (AddContent content ∷ []) fine.whose
      (leaves_next s (Filled s sscc (n + 1)) (apply (SetLine line) state) (AddContent content) [] filled.there
      (leaves_nothing s (Filled s sscc (n + 1)) (apply (AddContent content) (apply (SetLine line) state)) after)))

  leads_placed : (sscc : List ℕ) (lines : List DespatchLine) (n : ℕ)
      → Leads s (Filled s sscc n) (KeptOwn s) (in_order (judge_despatched sscc) (placed n lines))
  leads_placed sscc [] n state changes filled h =
      leaves_given s (KeptOwn s) state [] changes h (leaves_nothing s (KeptOwn s) state filled.good)
  leads_placed sscc (line ∷ lines) n state changes filled h =
      leads_in_turn s (Filled s sscc n) (Filled s sscc (n + 1)) (KeptOwn s) (judge_despatched sscc (n + 1, line))
      (in_order (judge_despatched sscc) (placed (n + 1) lines))
      (leads_despatched sscc n line) (leads_placed sscc lines (n + 1)) state changes filled h

  leads_unit : (used : List ℕ → Bool) (advice : List ℕ) (unit : PalletUnit)
      → Leads s (KeptOwn s) (KeptOwn s) (judge_unit s used advice unit)
  leads_unit used advice unit state changes good h =
      let a = not_refused (not (under_some unit.sscc s.prefixes)) codes.OtherPrefix _ changes h in
      let b = not_refused (used unit.sscc || has_pallet state unit.sscc) codes.SsccUsed _ changes a.1 in
      let fresh = (or_parts (used unit.sscc) (has_pallet state unit.sscc) b.0).1 in
      let pallet : PalletRow = record { sscc = unit.sscc; supplier = s.gln; advice = advice; received = arrival_number Announced } in
      let belongs : Belongs s state (AddPallet pallet) = (refl, not-false (under_some unit.sscc s.prefixes) a.0, fresh) in
      let there : has_pallet (apply (AddPallet pallet) state) unit.sscc ≡ true =
      any_put pallet_cmp (λ p. same p.sscc unit.sscc) state.pallets pallet
      ∙ or_right (has_pallet state unit.sscc) (same unit.sscc unit.sscc || false)
      (ap (λ v. v || false) (same_if unit.sscc unit.sscc refl)) in
      let none : AllByRecursion (λ content. same content.sscc unit.sscc ≡ true → content.place ≤ 0) state.contents =
      all_weaker (λ c. has_pallet state c.sscc ≡ true) (λ c. same c.sscc unit.sscc ≡ true → c.place ≤ 0)
      (λ c on e. let both = ap (has_pallet state) (same_is c.sscc unit.sscc e) in absurd (cc)) state.contents
      good.own.contents in
      let filled : Filled s unit.sscc 0 (apply (AddPallet pallet) state) = record {
        good = good_after s state (AddPallet pallet) belongs good.own (kept_pallet state good.kept pallet fresh);
        there = there;
        below = none;
      } in
      leaves_in_turn s (Filled s unit.sscc 0) (KeptOwn s) (AddPallet pallet ∷ [])
      (in_order (judge_despatched unit.sscc) (placed 0 unit.lines)) state changes
      (leaves_next s (Filled s unit.sscc 0) state (AddPallet pallet) [] belongs
      (leaves_nothing s (Filled s unit.sscc 0) (apply (AddPallet pallet) state) filled))
      (leads_placed unit.sscc unit.lines 0) b.1

  leads_new_despatch : (used : List ℕ → Bool) (despatch : Despatch) → Leads s (KeptOwn s) (KeptOwn s) (judge_new_despatch s used despatch)
  leads_new_despatch used despatch state changes good h =
      let a = not_refused (knows_advice state despatch.number) codes.AdviceKnown _ changes h in
      let advice : AdviceRow = record { supplier = s.gln; number = despatch.number } in
      leaves_in_turn s (KeptOwn s) (KeptOwn s) (AddAdvice advice ∷ [])
      (in_order (judge_unit s used despatch.number) despatch.units) state changes
      (leaves_good s state (AddAdvice advice) refl good.own (kept_advice state good.kept advice a.0))
      (leads_in_order s (KeptOwn s) (judge_unit s used despatch.number) (leads_unit used despatch.number) despatch.units) a.1

  pub leads_despatch : (retailer : List ℕ) (used : List ℕ → Bool) (incoming : IncomingMessage) (despatch : Despatch)
      → Leads s (KeptOwn s) (KeptOwn s) (judge_despatch retailer (Some s) used incoming despatch)
  leads_despatch retailer used incoming despatch =
      leads_message s retailer sides.Supplier incoming despatch.buyer despatch.supplier
      (λ s. judge_new_despatch s used despatch) (leads_new_despatch used despatch)
