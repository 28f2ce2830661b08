-- Shows what each change must be like for a supplier's rows to stay sound.
use Rattle.std.proofs.Common.{◌≡◌, ℕ, ◌+◌, true, false, ◌&&◌, ◌==◌, inl, inr, List, [], ◌∷◌, filter, length, refl, sym, ◌∙◌}
use Rattle.std.proofs.Common.{ap, ap₂, subst, arith}
use Rattle.std.specs.List.{AllByRecursion, list_any}
use Rattle.std.proofs.lemmas.Bool.{and_parts}
use Rattle.std.proofs.lemmas.Bool.Decides.{nat_tests}
use Rattle.edi_base.proofs.Twice.{bytes_eq-sym, nat_eq-sym}
use Rattle.hub_tables.specs.Change.{apply}
use Rattle.hub_parties.specs.KeyOrder.{InOrder}
use Rattle.hub_tables.specs.Rows.{same, order_cmp, line_cmp, advice_cmp, pallet_cmp, content_cmp, receipt_cmp}
use Rattle.hub_tables.specs.Rows.{remembered_cmp, same_line, same_pallet}
use Rattle.hub_tables.specs.State.{knows_order, names, despatched}
use Rattle.hub_tables.specs.Tables.{Tables, has_pallet}
use Rattle.hub_tables.specs.declared.change.Change.TheVariants.{AddOrder, AddLine, SetLine, AddAdvice, AddPallet, SetPallet}
use Rattle.hub_tables.specs.declared.change.Change.TheVariants.{AddContent, AddReceipt, Remember, AddMail}
use Rattle.hub_tables.specs.declared.rows.OrderRow.{OrderRow}
use Rattle.hub_tables.specs.declared.rows.LineRow.{LineRow}
use Rattle.hub_tables.specs.declared.rows.AdviceRow.{AdviceRow}
use Rattle.hub_tables.specs.declared.rows.PalletRow.{PalletRow}
use Rattle.hub_tables.specs.declared.rows.ContentRow.{ContentRow}
use Rattle.hub_tables.specs.declared.rows.ReceiptRow.{ReceiptRow}
use Rattle.hub_tables.specs.declared.rows.RememberedRow.{RememberedRow}
use Rattle.hub_tables.specs.declared.rows.MailRow.{MailRow}
use Rattle.hub_tables.proofs.KeyOrder.{all_put, any_more}
use Rattle.hub_tables.proofs.KindOrders.{line_key}
use Rattle.hub_tables.proofs.Lists.{any_replaced, decide, same_is, same_if, all_replace, all_replaced, all_weaker}
use Rattle.hub_rules.specs.Sound.{Balanced, Numbered, Single, same_order, same_line_number, same_advice, same_sscc, same_gtin}
use Rattle.hub_rules.specs.Sound.{same_reference, knows_line, was_received, Kept, same_place}
use Rattle.hub_rules.proofs.KeptLists.{single_replace, numbered_put, contents_put, sent_more, sent_same}
use Rattle.hub_rules.proofs.KeptLists.{receipts_put, is_received, received_more, single_put}

module _ (state : Tables) (kept : Kept state) where
  -- only rows change on which no rows of another kind depend
  pub kept_others : {after : Tables}
      → after ≡ record after {
        orders = state.orders;
        lines = state.lines;
        pallets = state.pallets;
        contents = state.contents;
        receipts = state.receipts;
      }
      → Single same_advice after.advices
      → Single same_reference after.remembered
      → Numbered 0 after.mail
      → Kept after
  kept_others only advices remembered mail = subst Kept (sym only) (record {
    orders = kept.orders;
    lines = kept.lines;
    advices = advices;
    pallets = kept.pallets;
    contents = kept.contents;
    receipts = kept.receipts;
    remembered = remembered;
    mail = mail;
    line_orders = kept.line_orders;
    content_lines = kept.content_lines;
    receipt_pallets = kept.receipt_pallets;
    balanced = kept.balanced;
  })

  -- only pallets and receipts change
  pub kept_goods : {after : Tables}
      → after ≡ record state { pallets = after.pallets; receipts = after.receipts }
      → Single same_sscc after.pallets
      → ((sscc : List ℕ) → Single same_gtin (filter (λ receipt. same receipt.sscc sscc) after.receipts))
      → AllByRecursion (λ receipt. was_received after receipt.sscc ≡ true) after.receipts
      → Kept after
  kept_goods only pallets receipts receipt_pallets = subst Kept (sym only) (record {
    orders = kept.orders;
    lines = kept.lines;
    advices = kept.advices;
    pallets = pallets;
    contents = kept.contents;
    receipts = receipts;
    remembered = kept.remembered;
    mail = kept.mail;
    line_orders = kept.line_orders;
    content_lines = kept.content_lines;
    receipt_pallets = receipt_pallets;
    balanced = kept.balanced;
  })

  pub kept_order : (r : OrderRow) → knows_order state r.number ≡ false → Kept (apply (AddOrder r) state)
  kept_order r fresh = record {
    orders = single_put order_cmp same_order (λ x y. bytes_eq-sym x.number y.number) state.orders r kept.orders fresh;
    lines = kept.lines;
    advices = kept.advices;
    pallets = kept.pallets;
    contents = kept.contents;
    receipts = kept.receipts;
    remembered = kept.remembered;
    mail = kept.mail;
    line_orders =
        all_weaker (λ l. knows_order state l.number ≡ true) (λ l. knows_order (apply (AddOrder r) state) l.number ≡ true)
        (λ l h. any_more order_cmp (λ o. same o.number l.number) state.orders r h) state.lines kept.line_orders;
    content_lines = kept.content_lines;
    receipt_pallets = kept.receipt_pallets;
    balanced = kept.balanced;
  }

  pub kept_line : (r : LineRow)
      → knows_order state r.number ≡ true
      → Balanced state r
      → list_any (λ l. same_line_number l r) state.lines ≡ false
      → Kept (apply (AddLine r) state)
  kept_line r known balance fresh = record {
    orders = kept.orders;
    lines =
        single_put line_cmp same_line_number
        (λ x y. ap₂ (λ v w. v && w) (bytes_eq-sym x.number y.number) (nat_eq-sym x.line y.line)) state.lines r kept.lines
        fresh;
    advices = kept.advices;
    pallets = kept.pallets;
    contents = kept.contents;
    receipts = kept.receipts;
    remembered = kept.remembered;
    mail = kept.mail;
    line_orders = all_put line_cmp (λ l. knows_order state l.number ≡ true) state.lines r kept.line_orders known;
    content_lines =
        all_weaker (λ c. knows_line state c.number c.line ≡ true)
        (λ c. knows_line (apply (AddLine r) state) c.number c.line ≡ true)
        (λ c h. any_more line_cmp (λ l. same l.number c.number && (l.line == c.line)) state.lines r h) state.contents
        kept.content_lines;
    receipt_pallets = kept.receipt_pallets;
    balanced = all_put line_cmp (Balanced state) state.lines r kept.balanced balance;
  }

  lines_known : (r : LineRow) (number : List ℕ) (n : ℕ) → knows_line (apply (SetLine r) state) number n ≡ knows_line state number n
  lines_known r number n =
      any_replaced (λ l. same l.number number && (l.line == n)) (same_line r) r state.lines
      (λ y e. let key = line_key r y e in ap₂ (λ m k. same m number && (k == n)) key.1 key.2)

  lines_single : (r : LineRow) → Single same_line_number (apply (SetLine r) state).lines
  lines_single r =
      single_replace same_line_number (same_line r) r state.lines
      (λ y z e. let key = line_key r y e in ap₂ (λ n k. same n z.number && (k == z.line)) (sym key.1) (sym key.2))
      (λ y z e. let key = line_key r y e in ap₂ (λ n k. same z.number n && (z.line == k)) key.1 key.2) kept.lines

  pub kept_set_line : (r : LineRow) → knows_order state r.number ≡ true → Balanced state r → Kept (apply (SetLine r) state)
  kept_set_line r known balance = record {
    orders = kept.orders;
    lines = lines_single r;
    advices = kept.advices;
    pallets = kept.pallets;
    contents = kept.contents;
    receipts = kept.receipts;
    remembered = kept.remembered;
    mail = kept.mail;
    line_orders = all_replace (λ l. knows_order state l.number ≡ true) (same_line r) r state.lines kept.line_orders known;
    content_lines =
        all_weaker (λ c. knows_line state c.number c.line ≡ true)
        (λ c. knows_line (apply (SetLine r) state) c.number c.line ≡ true) (λ c h. lines_known r c.number c.line ∙ h)
        state.contents kept.content_lines;
    receipt_pallets = kept.receipt_pallets;
    balanced = all_replace (Balanced state) (same_line r) r state.lines kept.balanced balance;
  }

  -- a line that is set together with a content that names it
  pub kept_despatched : (s : List ℕ) (r : LineRow) (c : ContentRow)
      → InOrder content_cmp state.contents
      → AllByRecursion (λ l. l.supplier ≡ s) state.lines
      → r.supplier ≡ s
      → knows_order state r.number ≡ true
      → c.number ≡ r.number → c.line ≡ r.line → knows_line state r.number r.line ≡ true
      → r.ordered ≡ r.open_qty + r.refused + r.cancelled + (despatched state r + c.quantity)
      → list_any (λ d. same_place d c) (filter (λ d. same d.sscc c.sscc) state.contents) ≡ false
      → Kept (apply (AddContent c) (apply (SetLine r) state))
  kept_despatched s r c ordered own whose known number line there balance fresh = record {
    orders = kept.orders;
    lines = lines_single r;
    advices = kept.advices;
    pallets = kept.pallets;
    contents = λ sscc. contents_put sscc state.contents c ordered (kept.contents sscc) fresh;
    receipts = kept.receipts;
    remembered = kept.remembered;
    mail = kept.mail;
    line_orders = all_replace (λ l. knows_order state l.number ≡ true) (same_line r) r state.lines kept.line_orders known;
    content_lines = all_put content_cmp (λ c. knows_line (apply (SetLine r) state) c.number c.line ≡ true) state.contents c
        (all_weaker (λ c. knows_line state c.number c.line ≡ true)
        (λ c. knows_line (apply (SetLine r) state) c.number c.line ≡ true) (λ c h. lines_known r c.number c.line ∙ h)
        state.contents kept.content_lines)
        (lines_known r c.number c.line ∙ ap₂ (knows_line state) number line ∙ there);
    receipt_pallets = kept.receipt_pallets;
    balanced = all_replaced (Balanced after) (same_line r) r state.lines
        (others state.lines kept.balanced own)
        (balance ∙ ap (λ v. r.open_qty + r.refused + r.cancelled + v) (sym (sent_more (names r) state.contents c ordered its_own)));
  }
    where
      after : Tables
      after = apply (AddContent c) (apply (SetLine r) state)

      its_own : names r c ≡ true
      its_own = let e = same_if c.number r.number number in grind (arith, nat_tests, e, line)

      other : (y : LineRow) → Balanced state y → y.supplier ≡ s → same_line r y ≡ false → Balanced after y
      other y balance who differs =
          let mine = same_if y.supplier r.supplier (who ∙ sym whose) in
          let not_named : names y c ≡ false = elim (decide (names y c)) [
            | inl e ↦
                let parts = and_parts (same c.number y.number) (c.line == y.line) e in
                let numbers : c.number ≡ y.number = same_is c.number y.number parts.0 in
                let lines : c.line ≡ y.line = grind (arith, nat_tests, parts.1) in
                let same_numbers = same_if y.number r.number (sym numbers ∙ number) in
                let same_places : y.line ≡ r.line = sym lines ∙ line in
                absurd (grind (arith, nat_tests, mine, same_numbers, same_places, differs))
            | inr e ↦ e
          ] in
          balance ∙ ap (λ v. y.open_qty + y.refused + y.cancelled + v) (sym (sent_same (names y) state.contents c not_named))

      others : (ls : List LineRow)
          → AllByRecursion (Balanced state) ls
          → AllByRecursion (λ l. l.supplier ≡ s) ls
          → AllByRecursion (λ y. same_line r y ≡ false → Balanced after y) ls
      others [] a b = tt
      others (l ∷ ls) a b = (other l a.0 b.0, others ls a.1 b.1)

  pub kept_advice : (r : AdviceRow) → list_any (λ a. same a.number r.number) state.advices ≡ false → Kept (apply (AddAdvice r) state)
  kept_advice r fresh =
      kept_others refl
      (single_put advice_cmp same_advice (λ x y. bytes_eq-sym x.number y.number) state.advices r kept.advices fresh)
      kept.remembered kept.mail

  pub kept_pallet : (r : PalletRow) → has_pallet state r.sscc ≡ false → Kept (apply (AddPallet r) state)
  kept_pallet r fresh =
      kept_goods refl (single_put pallet_cmp same_sscc (λ x y. bytes_eq-sym x.sscc y.sscc) state.pallets r kept.pallets fresh)
      kept.receipts
      (all_weaker (λ x. was_received state x.sscc ≡ true) (λ x. was_received (apply (AddPallet r) state) x.sscc ≡ true)
      (λ x h. any_more pallet_cmp (λ p. same p.sscc x.sscc && is_received p) state.pallets r h) state.receipts
      kept.receipt_pallets)

  pub kept_received : (r : PalletRow) → is_received r ≡ true → Kept (apply (SetPallet r) state)
  kept_received r now =
      kept_goods refl
      (single_replace same_sscc (same_pallet r) r state.pallets
      (λ y z e. ap (λ n. same n z.sscc) (sym (same_is y.sscc r.sscc e)))
      (λ y z e. ap (same z.sscc) (same_is y.sscc r.sscc e)) kept.pallets) kept.receipts
      (all_weaker (λ x. was_received state x.sscc ≡ true) (λ x. was_received (apply (SetPallet r) state) x.sscc ≡ true)
      (λ x h. received_more r state.pallets x.sscc now h) state.receipts kept.receipt_pallets)

  pub kept_receipt : (r : ReceiptRow)
      → InOrder receipt_cmp state.receipts
      → was_received state r.sscc ≡ true
      → list_any (λ y. same_gtin y r) (filter (λ y. same y.sscc r.sscc) state.receipts) ≡ false
      → Kept (apply (AddReceipt r) state)
  kept_receipt r ordered received fresh =
      kept_goods refl kept.pallets (λ sscc. receipts_put sscc state.receipts r ordered (kept.receipts sscc) fresh)
      (all_put receipt_cmp (λ x. was_received state x.sscc ≡ true) state.receipts r kept.receipt_pallets received)

  pub kept_remembered : (r : RememberedRow)
      → list_any (λ row. same_reference row r) state.remembered ≡ false
      → Kept (apply (Remember r) state)
  kept_remembered r fresh =
      kept_others refl kept.advices
      (single_put remembered_cmp same_reference (λ x y. ap₂ (λ v w. v && w) (nat_eq-sym x.side y.side)
      (ap₂ (λ v w. v && w) (bytes_eq-sym x.control y.control) (bytes_eq-sym x.message y.message))) state.remembered r
      kept.remembered fresh) kept.mail

  pub kept_mail : (s : List ℕ) (r : MailRow)
      → AllByRecursion (λ entry. entry.supplier ≡ s) state.mail
      → r.supplier ≡ s
      → r.number ≡ length state.mail + 1
      → Kept (apply (AddMail r) state)
  kept_mail s r own whose next =
      kept_others refl kept.advices kept.remembered (numbered_put s state.mail r kept.mail own whose next)
