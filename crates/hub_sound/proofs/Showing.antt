-- Rows that show it, and tables of which all was checked.
use Rattle.std.proofs.Common.{◌≡◌, ℕ, ◌+◌, ◌-◌, ◌<◌, ◌==◌, nat_le, Bool, true, false, not, ◌&&◌, ◌||◌, inl, inr}
use Rattle.std.proofs.Common.{List, [], filter, is_some, Option, Some, None, refl, sym, ◌∙◌, ap, subst, arith}
use Rattle.std.proofs.Common.{eq-eqb}
use Rattle.std.specs.List.{list_all, list_any}
use Rattle.std.specs.Ordering.{nat_cmp}
use Rattle.std.proofs.Math.Bool.{and-false}
use Rattle.std.proofs.lemmas.Bool.{and_parts, and_from}
use Rattle.std.proofs.lemmas.Bool.Decides.{nat_tests}
use Rattle.gs1_ids.specs.Digits.{is_key}
use Rattle.gs1_ids.specs.Gln.{is_gln}
use Rattle.gs1_ids.specs.Sscc.{under_some}
use Rattle.hub_founding.specs.Fits.{fits_pallet, is_under}
use Rattle.hub_parties.specs.KeyOrder.{bytes_cmp}
use Rattle.hub_parties.specs.Rows.{row_of}
use Rattle.hub_parties.specs.declared.row.SupplierRow.{SupplierRow}
use Rattle.hub_rules.specs.Laws.{SoundHub}
use Rattle.hub_rules.specs.Sound.{Kept, IsRooted, Balanced, was_received}
use Rattle.hub_rules.specs.Sound.{same_order, same_line_number, same_advice, same_sscc, same_place, same_gtin, same_reference}
use Rattle.hub_store.specs.Clean.{are_clean, clean_hub, clean_key, clean_prefix, clean_order, clean_line, clean_advice}
use Rattle.hub_store.specs.Clean.{clean_pallet, clean_content, clean_receipt, clean_remembered, clean_mail, is_within}
use Rattle.hub_tables.specs.Register.{register_of, suppliers_of}
use Rattle.hub_tables.specs.Rows.{same, hub_cmp, key_cmp, prefix_cmp, order_cmp, line_cmp, advice_cmp, pallet_cmp, content_cmp}
use Rattle.hub_tables.specs.Rows.{receipt_cmp, remembered_cmp, mail_cmp}
use Rattle.hub_tables.specs.Sets.{Has, Rising}
use Rattle.hub_tables.specs.State.{knows_order, despatched, entry_at, is_announced}
use Rattle.hub_tables.specs.Tables.{Tables, Ordered, has_pallet, holds, view}
use Rattle.hub_tables.specs.declared.rows.LineRow.{LineRow}
use Rattle.hub_tables.specs.declared.rows.ReceiptRow.{ReceiptRow}
use Rattle.hub_tables.specs.declared.rows.PalletRow.{PalletRow}
use Rattle.hub_tables.specs.declared.rows.MailRow.{MailRow}
use Rattle.hub_tables.proofs.KeyOrder.{rises_filter, in_order_rising}
use Rattle.hub_tables.proofs.Lists.{decide, same_is, same_if, all_filter, all_passes, filter_none}
use Rattle.hub_tables.proofs.Members.{all_of, all_if, none_if, one_of, any_if, has_filter}
use Rattle.hub_sound.specs.Finding.{RowKey}
use Rattle.hub_sound.specs.Showing.{PassesChecks, IsSettled, ShowsUnclean, ShowsUnsound, has_order, is_balanced, has_line, is_on_pallet}
use Rattle.hub_sound.specs.Showing.{is_of_received, goes_on}
use Rattle.hub_sound.specs.declared.finding.RowKind.{RowKind}
use Rattle.hub_sound.specs.declared.finding.RowKind.TheVariants.{Hub, Supplier, Prefix, Order, Line, Advice, Pallet}
use Rattle.hub_sound.specs.declared.finding.RowKind.TheVariants.{Content, Receipt, Remembered, Mail}
use Rattle.hub_sound.proofs.Deciding.{all_true, all_then, not_all, all_but, from_filter, picked, all_both, then_tied}
use Rattle.hub_sound.proofs.Deciding.{text_tied, number_tied, single_rising, one_member}
use Rattle.hub_sound.proofs.Numbering.{HasNumberBefore, numbered_if, by_numbers, found_number, numbered_goes}

-- A row that shows that tables are not clean.

pub unclean_shows : (t : Tables) (kind : RowKind) (key : RowKey) → ShowsUnclean t kind key → are_clean t ≡ false
unclean_shows t Hub key it = let h = not_all clean_hub t.hubs it.0 it.1 it.2 in simp (h, and-false)
unclean_shows t Supplier key it = let h = not_all clean_key t.keys it.0 it.1 it.2 in simp (h, and-false)
unclean_shows t Prefix key it = let h = not_all clean_prefix t.prefixes it.0 it.1 it.2 in simp (h, and-false)
unclean_shows t Order key it = let h = not_all clean_order t.orders it.0 it.1 it.2 in simp (h, and-false)
unclean_shows t Line key it = let h = not_all clean_line t.lines it.0 it.1 it.2 in simp (h, and-false)
unclean_shows t Advice key it = let h = not_all clean_advice t.advices it.0 it.1 it.2 in simp (h, and-false)
unclean_shows t Pallet key it = let h = not_all clean_pallet t.pallets it.0 it.1 it.2 in simp (h, and-false)
unclean_shows t Content key it = let h = not_all clean_content t.contents it.0 it.1 it.2 in simp (h, and-false)
unclean_shows t Receipt key it = let h = not_all clean_receipt t.receipts it.0 it.1 it.2 in simp (h, and-false)
unclean_shows t Remembered key it = let h = not_all clean_remembered t.remembered it.0 it.1 it.2 in simp (h, and-false)
unclean_shows t Mail key it = let h = not_all clean_mail t.mail it.0 it.1 it.2 in simp (h, and-false)

-- what of clean tables is needed here
record CleanParts (t : Tables) : Type 0 where
  pallets : list_all clean_pallet t.pallets ≡ true
  mail : list_all clean_mail t.mail ≡ true

clean_parts : (t : Tables) → are_clean t ≡ true → CleanParts t
clean_parts t h =
    let hubs = and_parts (list_all clean_hub t.hubs) _ h in
    let keys = and_parts (list_all clean_key t.keys) _ hubs.1 in
    let prefixes = and_parts (list_all clean_prefix t.prefixes) _ keys.1 in
    let orders = and_parts (list_all clean_order t.orders) _ prefixes.1 in
    let lines = and_parts (list_all clean_line t.lines) _ orders.1 in
    let advices = and_parts (list_all clean_advice t.advices) _ lines.1 in
    let pallets = and_parts (list_all clean_pallet t.pallets) _ advices.1 in
    let contents = and_parts (list_all clean_content t.contents) _ pallets.1 in
    let receipts = and_parts (list_all clean_receipt t.receipts) _ contents.1 in
    let remembered = and_parts (list_all clean_remembered t.remembered) _ receipts.1 in
    record { pallets = pallets.0; mail = remembered.1 }

-- A row that shows that clean tables are not sound.

module _ (t : Tables) (clean : are_clean t ≡ true) (hub : SoundHub t) where
  rooted_fits : (row : PalletRow) → Has t.pallets row → fits_pallet (register_of t) row ≡ true
  rooted_fits row there =
      let rooted = all_of (IsRooted (suppliers_of t)) t.pallets hub.sound.rooted.pallets row there in
      let sscc = (and_parts (is_key 18 row.sscc) _ (all_of (λ p. clean_pallet p ≡ true) t.pallets
      (all_true clean_pallet t.pallets (clean_parts t clean).pallets) row there)).0 in
      ap (λ o. is_under o row.sscc) rooted.known
      ∙ and_from (is_key 18 row.sscc) (under_some row.sscc rooted.supplier.prefixes) sscc rooted.is_under

  ordered_line : (row : LineRow) → Has t.lines row → has_order t row ≡ true
  ordered_line row there =
      all_of (λ line. knows_order (view row.supplier t) line.number ≡ true) (view row.supplier t).lines
      (hub.sound.kept row.supplier).line_orders row
      (has_filter (λ line. same line.supplier row.supplier) t.lines row there (same_if row.supplier row.supplier refl))

  received : (row : ReceiptRow) → Has t.receipts row → is_of_received t row ≡ true
  received row there =
      let on = all_of (λ receipt. has_pallet t receipt.sscc ≡ true) t.receipts hub.sound.rooted.receipts row there in
      let pallet = one_of (λ pallet. same pallet.sscc row.sscc) t.pallets on in
      let gln = (pallet.0).supplier in
      let held : holds gln t.pallets row.sscc ≡ true =
      any_if (λ p. same p.supplier gln && same p.sscc row.sscc) t.pallets pallet.0 pallet.1
      (and_from (same (pallet.0).supplier gln) (same (pallet.0).sscc row.sscc) (same_if gln gln refl) pallet.2) in
      let seen = all_of (λ receipt. was_received (view gln t) receipt.sscc ≡ true) (view gln t).receipts
      (hub.sound.kept gln).receipt_pallets row
      (has_filter (λ receipt. holds gln t.pallets receipt.sscc) t.receipts row there held) in
      let one = one_of (λ p. same p.sscc row.sscc && not (is_announced p)) (filter (λ p. same p.supplier gln) t.pallets) seen in
      any_if (λ p. same p.sscc row.sscc && not (is_announced p)) t.pallets one.0
      (from_filter (λ p. same p.supplier gln) t.pallets one.0 one.1) one.2

  after_another : (row : MailRow) → Has t.mail row → goes_on t row ≡ true
  after_another row there =
      let mine = has_filter (λ e. same e.supplier row.supplier) t.mail row there (same_if row.supplier row.supplier refl) in
      elim (numbered_goes 0 (view row.supplier t).mail (hub.sound.kept row.supplier).mail row mine) [
        | inl first ↦ ap (λ v. v || is_some (entry_at (view row.supplier t) (row.number - 1))) (eq-eqb row.number 1 first)
        | inr found ↦ ap (λ v. (row.number == 1) || v) found ∙ any_true (row.number == 1)
      ]
    where
      any_true : (b : Bool) → (b || true) ≡ true
      any_true true = refl
      any_true false = refl

  pub shows_none : (kind : RowKind) (key : RowKey) → ShowsUnsound t kind key → ⊥
  shows_none Hub key it = it.0 hub.register
  shows_none Pallet key it = absurd (let holds = rooted_fits it.0 it.1 in let fails = it.2 in cc)
  shows_none Line key (inl it) = absurd (let holds = ordered_line it.0 it.1 in let fails = it.2 in cc)
  shows_none Line key (inr it) =
      let row = it.1.0 in
      let sum = all_of (Balanced (view it.0 t)) (view it.0 t).lines (hub.sound.kept it.0).balanced row it.1.1 in
      absurd (let holds = eq-eqb row.ordered (row.open_qty + row.refused + row.cancelled + despatched (view it.0 t) row) sum in
      let fails = it.1.2 in cc)
  shows_none Content key (inl it) = all_but (is_on_pallet t) t.contents it.0 hub.sound.rooted.contents it.1 it.2
  shows_none Content key (inr it) =
      all_but (has_line (view it.0 t)) (view it.0 t).contents it.1.0 (hub.sound.kept it.0).content_lines it.1.1 it.1.2
  shows_none Receipt key it = absurd (let holds = received it.0 it.1 in let fails = it.2 in cc)
  shows_none Mail key it = absurd (let holds = after_another it.0 it.1 in let fails = it.2 in cc)
  shows_none Supplier key it = it
  shows_none Prefix key it = it
  shows_none Order key it = it
  shows_none Advice key it = it
  shows_none Remembered key it = it

-- Tables of which all was checked.

module _ (t : Tables) (rising : Rising t) where
  ordered : Ordered t
  ordered = record {
    hubs = in_order_rising hub_cmp t.hubs rising.hubs;
    keys = in_order_rising key_cmp t.keys rising.keys;
    prefixes = in_order_rising prefix_cmp t.prefixes rising.prefixes;
    orders = in_order_rising order_cmp t.orders rising.orders;
    lines = in_order_rising line_cmp t.lines rising.lines;
    advices = in_order_rising advice_cmp t.advices rising.advices;
    pallets = in_order_rising pallet_cmp t.pallets rising.pallets;
    contents = in_order_rising content_cmp t.contents rising.contents;
    receipts = in_order_rising receipt_cmp t.receipts rising.receipts;
    remembered = in_order_rising remembered_cmp t.remembered rising.remembered;
    mail = in_order_rising mail_cmp t.mail rising.mail;
  }

  -- what was received of a pallet of the supplier was so in what it sees
  received_seen : (gln sscc : List ℕ) → holds gln t.pallets sscc ≡ true → was_received t sscc ≡ true
      → was_received (view gln t) sscc ≡ true
  received_seen gln sscc held was =
      let is_received : PalletRow → Bool = λ p. same p.sscc sscc && not (is_announced p) in
      let its = one_of (λ p. same p.supplier gln && same p.sscc sscc) t.pallets held in
      let other = one_of is_received t.pallets was in
      let of_its = and_parts (same (its.0).supplier gln) (same (its.0).sscc sscc) its.2 in
      let of_other = and_parts (same (other.0).sscc sscc) (not (is_announced other.0)) other.2 in
      let alike : (its.0).sscc ≡ (other.0).sscc = same_is (its.0).sscc sscc of_its.1 ∙ sym (same_is (other.0).sscc sscc of_other.0) in
      let one : its.0 ≡ other.0 = one_member pallet_cmp t.pallets rising.pallets its.0 other.0 its.1 other.1
      (text_tied (its.0).sscc (other.0).sscc alike) (text_tied (other.0).sscc (its.0).sscc (sym alike)) in
      any_if is_received (filter (λ p. same p.supplier gln) t.pallets) its.0
      (has_filter (λ p. same p.supplier gln) t.pallets its.0 its.1 of_its.0) (ap is_received one ∙ other.2)

  module _ (clean : are_clean t ≡ true) (glns : List (List ℕ)) (checked : PassesChecks t glns) where
    goes : (entry : MailRow) → goes_on t entry ≡ true → HasNumberBefore (view entry.supplier t).mail entry
    goes entry h = elim (decide (entry.number == 1)) [
      | inl e ↦ inl (let is : entry.number ≡ 1 = grind (arith, nat_tests) in is)
      | inr e ↦ inr (found_number (entry.number - 1) (view entry.supplier t).mail
          (sym (ap (λ v. v || is_some (entry_at (view entry.supplier t) (entry.number - 1))) e) ∙ h))
    ]

    counted : (entry : MailRow) → clean_mail entry ≡ true → 0 < entry.number
    counted entry h =
        let whose = and_parts (is_gln entry.supplier) _ h in
        let number = and_parts (nat_le 1 entry.number) _ (and_parts (is_within 1 _ entry.number) _ whose.1).0 in
        positive entry.number number.0
      where
        positive : (n : ℕ) → nat_le 1 n ≡ true → 0 < n
        positive n e = grind (arith, nat_tests)

    -- a supplier that is none of these has no line and no pallet
    module _ (gln : List ℕ) (none : list_any (same gln) glns ≡ false) where
      not_this : (supplier : List ℕ) → list_any (same supplier) glns ≡ true → same supplier gln ≡ false
      not_this supplier h = elim (decide (same supplier gln)) [
        | inl e ↦ absurd (let holds = ap (λ g. list_any (same g) glns) (sym (same_is supplier gln e)) ∙ h in cc)
        | inr e ↦ e
      ]

      no_lines : filter (λ row. same row.supplier gln) t.lines ≡ []
      no_lines = filter_none (λ row. same row.supplier gln) t.lines
          (all_then (λ line. list_any (same line.supplier) glns) (λ line. same line.supplier gln ≡ false)
          (λ line h. not_this line.supplier h) t.lines checked.of_lines)

      no_pallets : (sscc : List ℕ) → holds gln t.pallets sscc ≡ false
      no_pallets sscc = none_if (λ p. same p.supplier gln && same p.sscc sscc) t.pallets (λ p there.
          ap (λ v. v && same p.sscc sscc) (not_this p.supplier
          (all_of (λ p. list_any (same p.supplier) glns ≡ true) t.pallets
          (all_true (λ p. list_any (same p.supplier) glns) t.pallets checked.of_pallets) p there)))

      no_contents : filter (λ row. holds gln t.pallets row.sscc) t.contents ≡ []
      no_contents = filter_none (λ row. holds gln t.pallets row.sscc) t.contents
          (all_if (λ row. holds gln t.pallets row.sscc ≡ false) t.contents (λ row there. no_pallets row.sscc))

      settled_none : IsSettled (view gln t)
      settled_none = record {
        contents = ap (list_all (has_line (view gln t))) no_contents;
        lines = ap (list_all (is_balanced (view gln t))) no_lines;
      }

    settled : (gln : List ℕ) → IsSettled (view gln t)
    settled gln = elim (decide (list_any (same gln) glns)) [
      | inl e ↦ let it = one_of (same gln) glns e in
          subst (λ g. IsSettled (view g t)) (sym (same_is gln it.0 it.2))
          (all_of (λ g. IsSettled (view g t)) glns checked.settled it.0 it.1)
      | inr e ↦ settled_none gln e
    ]

    kept : (gln : List ℕ) → Kept (view gln t)
    kept gln = record {
      orders = single_rising order_cmp same_order (λ row. row.supplier ≡ gln)
          (λ x y a b e. then_tied (bytes_cmp x.supplier y.supplier) _ (text_tied x.supplier y.supplier (a ∙ sym b))
          (text_tied x.number y.number (same_is x.number y.number e)))
          (view gln t).orders (picked gln (λ row. row.supplier) t.orders)
          (rises_filter order_cmp (λ row. same row.supplier gln) t.orders rising.orders);
      lines = single_rising line_cmp same_line_number (λ row. row.supplier ≡ gln)
          (λ x y a b e. let parts = and_parts (same x.number y.number) (x.line == y.line) e in
          then_tied (bytes_cmp x.supplier y.supplier) _ (text_tied x.supplier y.supplier (a ∙ sym b))
          (then_tied (bytes_cmp x.number y.number) _ (text_tied x.number y.number (same_is x.number y.number parts.0))
          (number_tied x.line y.line parts.1)))
          (view gln t).lines (picked gln (λ row. row.supplier) t.lines)
          (rises_filter line_cmp (λ row. same row.supplier gln) t.lines rising.lines);
      advices = single_rising advice_cmp same_advice (λ row. row.supplier ≡ gln)
          (λ x y a b e. then_tied (bytes_cmp x.supplier y.supplier) _ (text_tied x.supplier y.supplier (a ∙ sym b))
          (text_tied x.number y.number (same_is x.number y.number e)))
          (view gln t).advices (picked gln (λ row. row.supplier) t.advices)
          (rises_filter advice_cmp (λ row. same row.supplier gln) t.advices rising.advices);
      pallets = single_rising pallet_cmp same_sscc (λ row. row.supplier ≡ gln)
          (λ x y a b e. text_tied x.sscc y.sscc (same_is x.sscc y.sscc e))
          (view gln t).pallets (picked gln (λ row. row.supplier) t.pallets)
          (rises_filter pallet_cmp (λ row. same row.supplier gln) t.pallets rising.pallets);
      contents = λ sscc. single_rising content_cmp same_place (λ row. row.sscc ≡ sscc)
          (λ x y a b e. then_tied (bytes_cmp x.sscc y.sscc) _ (text_tied x.sscc y.sscc (a ∙ sym b))
          (number_tied x.place y.place e))
          (filter (λ content. same content.sscc sscc) (view gln t).contents) (picked sscc (λ row. row.sscc) (view gln t).contents)
          (rises_filter content_cmp (λ content. same content.sscc sscc) (view gln t).contents
          (rises_filter content_cmp (λ row. holds gln t.pallets row.sscc) t.contents rising.contents));
      receipts = λ sscc. single_rising receipt_cmp same_gtin (λ row. row.sscc ≡ sscc)
          (λ x y a b e. then_tied (bytes_cmp x.sscc y.sscc) _ (text_tied x.sscc y.sscc (a ∙ sym b))
          (text_tied x.gtin y.gtin (same_is x.gtin y.gtin e)))
          (filter (λ receipt. same receipt.sscc sscc) (view gln t).receipts) (picked sscc (λ row. row.sscc) (view gln t).receipts)
          (rises_filter receipt_cmp (λ receipt. same receipt.sscc sscc) (view gln t).receipts
          (rises_filter receipt_cmp (λ row. holds gln t.pallets row.sscc) t.receipts rising.receipts));
      remembered = single_rising remembered_cmp same_reference (λ row. row.supplier ≡ gln)
          (λ x y a b e. let parts = and_parts (x.side == y.side) _ e in
          let texts = and_parts (same x.control y.control) (same x.message y.message) parts.1 in
          then_tied (bytes_cmp x.supplier y.supplier) _ (text_tied x.supplier y.supplier (a ∙ sym b))
          (then_tied (nat_cmp x.side y.side) _ (number_tied x.side y.side parts.0)
          (then_tied (bytes_cmp x.control y.control) _ (text_tied x.control y.control (same_is x.control y.control texts.0))
          (text_tied x.message y.message (same_is x.message y.message texts.1)))))
          (view gln t).remembered (picked gln (λ row. row.supplier) t.remembered)
          (rises_filter remembered_cmp (λ row. same row.supplier gln) t.remembered rising.remembered);
      mail = numbered_if (view gln t).mail
          (all_filter (λ e. 0 < e.number) (λ e. same e.supplier gln) t.mail
          (all_then clean_mail (λ e. 0 < e.number) counted t.mail (clean_parts t clean).mail))
          (by_numbers gln (view gln t).mail (picked gln (λ e. e.supplier) t.mail)
          (rises_filter mail_cmp (λ e. same e.supplier gln) t.mail rising.mail))
          (all_both (λ e. e.supplier ≡ gln) (λ e. HasNumberBefore (view e.supplier t).mail e) (HasNumberBefore (view gln t).mail)
          (λ e whose it. subst (λ g. HasNumberBefore (view g t).mail e) whose it) (view gln t).mail (picked gln (λ e. e.supplier) t.mail)
          (all_filter (λ e. HasNumberBefore (view e.supplier t).mail e) (λ e. same e.supplier gln) t.mail
          (all_then (goes_on t) (λ e. HasNumberBefore (view e.supplier t).mail e) goes t.mail checked.mail)));
      line_orders =
          all_both (λ l. l.supplier ≡ gln) (λ l. has_order t l ≡ true) (λ l. knows_order (view gln t) l.number ≡ true)
          (λ l whose it. subst (λ g. knows_order (view g t) l.number ≡ true) whose it) (view gln t).lines
          (picked gln (λ l. l.supplier) t.lines)
          (all_filter (λ l. has_order t l ≡ true) (λ l. same l.supplier gln) t.lines (all_true (has_order t) t.lines checked.orders));
      content_lines = all_true (has_line (view gln t)) (view gln t).contents (settled gln).contents;
      receipt_pallets =
          all_both (λ r. holds gln t.pallets r.sscc ≡ true) (λ r. is_of_received t r ≡ true)
          (λ r. was_received (view gln t) r.sscc ≡ true) (λ r held was. received_seen gln r.sscc held was) (view gln t).receipts
          (all_passes (λ r. holds gln t.pallets r.sscc) t.receipts)
          (all_filter (λ r. is_of_received t r ≡ true) (λ r. holds gln t.pallets r.sscc) t.receipts
          (all_true (is_of_received t) t.receipts checked.receipts));
      balanced = all_then (is_balanced (view gln t)) (Balanced (view gln t)) (λ l e. sum_is l.ordered _ e) (view gln t).lines
          (settled gln).lines;
    }
      where
        sum_is : (a b : ℕ) → (a == b) ≡ true → a ≡ b
        sum_is a b e = grind (arith, nat_tests)

    rooted_under : (pallet : PalletRow) (found : Option SupplierRow) → row_of (register_of t) pallet.supplier ≡ found
        → is_under found pallet.sscc ≡ true → IsRooted (suppliers_of t) pallet
    rooted_under pallet None is under = absurd (let bad = under in cc)
    rooted_under pallet (Some s) is under = record {
      supplier = s;
      known = is;
      is_under = (and_parts (is_key 18 pallet.sscc) (under_some pallet.sscc s.prefixes) under).1;
    }

    on_received : (r : ReceiptRow) → is_of_received t r ≡ true → has_pallet t r.sscc ≡ true
    on_received r h =
        let one = one_of (λ p. same p.sscc r.sscc && not (is_announced p)) t.pallets h in
        any_if (λ p. same p.sscc r.sscc) t.pallets one.0 one.1
        (and_parts (same (one.0).sscc r.sscc) (not (is_announced one.0)) one.2).0

    pub checked_sound : SoundHub t
    checked_sound = record {
      register = checked.register;
      sound = record {
        rooted = record {
          ordered = ordered;
          pallets = all_then (fits_pallet (register_of t)) (IsRooted (suppliers_of t))
              (λ p e. rooted_under p (row_of (register_of t) p.supplier) refl e) t.pallets checked.pallets;
          contents = all_true (is_on_pallet t) t.contents checked.contents;
          receipts = all_then (is_of_received t) (λ r. has_pallet t r.sscc ≡ true) on_received t.receipts checked.receipts;
        };
        kept = kept;
      };
    }
