-- Shows that orders keep a supplier's rows sound.
use Rattle.std.proofs.Common.{◌≡◌, ℕ, nat_eq, true, false, ◌&&◌, ◌||◌, ◌==◌, inl, inr, List, [], ◌∷◌, map, filter, Some}
use Rattle.std.proofs.Common.{sum_by, refl, sym, ◌∙◌, ap, arith, length}
use Rattle.std.specs.List.{AllByRecursion, list_any}
use Rattle.std.proofs.lemmas.Bool.{and_parts, and_left, and_right, or_parts, or_cases, or_from, or_right}
use Rattle.edi_base.specs.Seen.{has_number_twice}
use Rattle.edi_documents.specs.EdiOrders.declared.order.Order.{Order}
use Rattle.edi_documents.specs.EdiOrders.declared.order.OrderLine.{OrderLine}
use Rattle.hub_parties.specs.declared.row.SupplierRow.{SupplierRow}
use Rattle.hub_tables.specs.Cases.{answer_letter}
use Rattle.hub_tables.specs.Change.{apply}
use Rattle.hub_tables.specs.Rows.{same, order_cmp, line_cmp}
use Rattle.hub_tables.specs.State.{knows_order, names, despatched}
use Rattle.hub_tables.specs.Tables.{Tables}
use Rattle.hub_tables.specs.declared.cases.LineState.TheVariants.{Waiting}
use Rattle.hub_tables.specs.declared.cases.MailKind.TheVariants as kinds
use Rattle.hub_tables.specs.declared.cases.Side.TheVariants as sides
use Rattle.hub_tables.specs.declared.change.Change.{Change}
use Rattle.hub_tables.specs.declared.change.Change.TheVariants.{AddOrder, AddLine}
use Rattle.hub_tables.specs.declared.rows.LineRow.{LineRow}
use Rattle.hub_tables.specs.declared.rows.OrderRow.{OrderRow}
use Rattle.hub_tables.proofs.KeyOrder.{any_put}
use Rattle.hub_tables.proofs.Lists.{decide, same_is, same_if, differ, all_weaker, all_always, filter_none}
use Rattle.hub_rules.specs.Laws.{KeptOwn}
use Rattle.hub_rules.specs.Sound.{knows_line, Kept}
use Rattle.hub_rules.specs.MailboxRules.{is_full, new_mail}
use Rattle.hub_rules.specs.OrderRules.{new_line, judge_new_order}
use Rattle.hub_rules.specs.Rules.{judge_order}
use Rattle.hub_rules.specs.declared.code.Code.TheVariants as codes
use Rattle.hub_rules.specs.declared.incoming.IncomingMessage.{IncomingMessage}
use Rattle.hub_rules.proofs.GoodRows.{good_after}
use Rattle.hub_rules.proofs.Keeping.{kept_order, kept_line, kept_mail}
use Rattle.hub_rules.proofs.KeptByMessages.{leads_message}
use Rattle.hub_rules.proofs.Verdicts.{not_refused, Leaves, Leads, leaves_given, leaves_nothing, leaves_next}

-- if a line exists, its order does
order_of_line : (state : Tables) (number : List ℕ) (n : ℕ) (lines : List LineRow)
    → AllByRecursion (λ line. knows_order state line.number ≡ true) lines
    → list_any (λ line. same line.number number && (line.line == n)) lines ≡ true
    → knows_order state number ≡ true
order_of_line state number n [] all h = cc
order_of_line state number n (l ∷ ls) all h =
    elim (or_cases (same l.number number && (l.line == n)) (list_any (λ line. same line.number number && (line.line == n)) ls) h) [
      | inl e ↦ ap (knows_order state) (sym (same_is l.number number ((and_parts (same l.number number) (l.line == n) e).0))) ∙ all.0
      | inr e ↦ order_of_line state number n ls all.1 e
    ]

-- no content names an order that does not exist
unnamed : (state : Tables)
    → Kept state
    → (number : List ℕ)
    → knows_order state number ≡ false
    → AllByRecursion (λ content. same content.number number ≡ false) state.contents
unnamed state kept number fresh = all_weaker (λ c. knows_line state c.number c.line ≡ true) (λ c. same c.number number ≡ false) (λ c h.
    differ c.number number (λ e.
    let there = ap (knows_order state) (sym e) ∙ order_of_line state c.number c.line state.lines kept.line_orders h in
    (cc))) state.contents kept.content_lines

-- a new order has no lines yet
no_lines : (state : Tables)
    → Kept state
    → (number : List ℕ)
    → knows_order state number ≡ false
    → (n : ℕ)
    → knows_line state number n ≡ false
no_lines state kept number fresh n =
    elim (decide (knows_line state number n)) [
      | inl e ↦ let there = order_of_line state number n state.lines kept.line_orders e in (cc)
      | inr e ↦ e
    ]

abbrev row_of : List ℕ → List ℕ → OrderLine → LineRow
row_of supplier number line = record {
  supplier = supplier;
  number = number;
  line = line.line;
  gtin = line.gtin;
  ordered = line.quantity;
  open_qty = line.quantity;
  refused = 0;
  cancelled = 0;
  answer = answer_letter Waiting;
}

module _ (s : SupplierRow) (number : List ℕ) where
  -- after one more line, lines with other numbers still do not exist
  still_unknown : (state : Tables) (line : OrderLine) (others : List OrderLine)
      → list_any (nat_eq line.line) (map (λ other. other.line) others) ≡ false
      → AllByRecursion (λ other. knows_line state number other.line ≡ false) others
      → AllByRecursion (λ other. knows_line (apply (new_line s.gln number line) state) number other.line ≡ false) others
  still_unknown state line [] apart fresh = tt
  still_unknown state line (other ∷ others) apart fresh =
      let parts = or_parts (nat_eq line.line other.line) (list_any (nat_eq line.line) (map (λ other. other.line) others)) apart in (
        any_put line_cmp (λ l. same l.number number && (l.line == other.line)) state.lines (row_of s.gln number line)
            ∙ or_from (knows_line state number other.line) ((same number number && (line.line == other.line)) || false)
            fresh.0 (or_from (same number number && (line.line == other.line)) false
            (and_right (same number number) (line.line == other.line) parts.0) refl),
        still_unknown state line others parts.1 fresh.1,
      )

  leaves_new_lines : (lines : List OrderLine) (state : Tables)
      → KeptOwn s state
      → knows_order state number ≡ true
      → AllByRecursion (λ content. same content.number number ≡ false) state.contents
      → has_number_twice (map (λ line. line.line) lines) ≡ false
      → AllByRecursion (λ line. knows_line state number line.line ≡ false) lines
      → Leaves s (KeptOwn s) state (map (new_line s.gln number) lines)
  leaves_new_lines [] state good known none single fresh = leaves_nothing s (KeptOwn s) state good
  leaves_new_lines (line ∷ lines) state good known none single fresh =
      let row = row_of s.gln number line in
      let nothing : filter (names row) state.contents ≡ [] =
      filter_none (names row) state.contents (all_weaker (λ c. same c.number number ≡ false) (λ c. names row c ≡ false)
      (λ c h. and_left (same c.number number) (c.line == line.line) h) state.contents none) in
      let sent : despatched state row ≡ 0 = ap (sum_by (λ c. c.quantity)) nothing in
      let apart = or_parts (list_any (nat_eq line.line) (map (λ other. other.line) lines))
      (has_number_twice (map (λ line. line.line) lines)) single in
      leaves_next s (KeptOwn s) state (AddLine row) (map (new_line s.gln number) lines) refl
      (leaves_new_lines lines (apply (AddLine row) state)
      (good_after s state (AddLine row) refl good.own (kept_line state good.kept row known (omega (arith, sent)) fresh.0))
      known none apart.1 (still_unknown state line lines apart.0 fresh.1))

module _ (s : SupplierRow) where
  leads_new_order : (incoming : IncomingMessage) (body : List ℕ) (order : Order)
      → has_number_twice (map (λ line. line.line) order.lines) ≡ false
      → Leads s (KeptOwn s) (KeptOwn s) (judge_new_order s.gln incoming body order)
  leads_new_order incoming body order single state changes good h =
      let a = not_refused (knows_order state order.number) codes.OrderKnown _ changes h in
      let b = not_refused (is_full (length state.mail)) codes.MailboxFull _ changes a.1 in
      let row : OrderRow = record { supplier = s.gln; number = order.number } in
      let mail : Change = new_mail s.gln state incoming kinds.Orders order.number body in
      let mailed : KeptOwn s (apply mail state) =
      good_after s state mail refl good.own (kept_mail state good.kept s.gln _ good.own.mail refl refl) in
      let ordered : KeptOwn s (apply (AddOrder row) (apply mail state)) =
      good_after s (apply mail state) (AddOrder row) refl mailed.own (kept_order (apply mail state) mailed.kept row a.0) in
      let known : knows_order (apply (AddOrder row) (apply mail state)) order.number ≡ true =
      any_put order_cmp (λ o. same o.number order.number) state.orders row
      ∙ or_right (knows_order state order.number) (same order.number order.number || false)
      (ap (λ v. v || false) (same_if order.number order.number refl)) in
      leaves_given s (KeptOwn s) state (mail ∷ AddOrder row ∷ map (new_line s.gln order.number) order.lines) changes b.1
      (leaves_next s (KeptOwn s) state mail (AddOrder row ∷ map (new_line s.gln order.number) order.lines) refl
      (leaves_next s (KeptOwn s) (apply mail state) (AddOrder row) (map (new_line s.gln order.number) order.lines) refl
      (leaves_new_lines s order.number order.lines (apply (AddOrder row) (apply mail state)) ordered known
      (unnamed state good.kept order.number a.0) single
      (all_always (λ line. knows_line state order.number line.line ≡ false)
      (λ line. no_lines state good.kept order.number a.0 line.line) order.lines))))

  pub leads_order : (retailer : List ℕ) (incoming : IncomingMessage) (body : List ℕ) (order : Order)
      → has_number_twice (map (λ line. line.line) order.lines) ≡ false
      → Leads s (KeptOwn s) (KeptOwn s) (judge_order retailer (Some s) incoming body order)
  leads_order retailer incoming body order single =
      leads_message s retailer sides.Retailer incoming (Some order.buyer) order.supplier
      (λ s. judge_new_order s.gln incoming body order) (leads_new_order incoming body order single)
