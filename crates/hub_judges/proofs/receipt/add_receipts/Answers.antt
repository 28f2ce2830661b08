use Rattle.std.proofs.Common.{◌≡◌, ℕ, ◌+◌, ◌++◌, ◌∷◌, [], ◌<◌, length, get_or, drop, map, List, Option, Some, None, cond}
use Rattle.std.proofs.Common.{sym, ◌∙◌, ap, subst, append_assoc}
use Rattle.std.specs.BTreeMap.{get}
use Rattle.std.specs.Cmp.Lexicographic.{slice_cmp}
use Rattle.std.specs.Ordering.{nat_cmp}
use Rattle.std.proofs.lemmas.Map.Text.{is_eq-slice_cmp}
use Rattle.hub_tables.specs.Rows.{same}
use Rattle.hub_rules.specs.ReceiptRules.{new_receipt}
use Rattle.hub_judges.specs.Totals.{total_from}
use Rattle.hub_judges.specs.declared.totals.Total.{Total}
use Rattle.hub_judges.proofs.Once.{left, all_left, receipt_is, still_told, left_taken, left_passed}
use Rattle.hub_judges.proofs.receipt.add_receipts.Goals as goal
use Rattle.hub_judges.proofs.receipt.add_receipts.Goals.{in-Some+in_ok-push, in_default}

pub loop-line-init : goal.loop-line-init
loop-line-init c =
    let unit = c.args.unit.now in
    let totals : List ℕ → Option Total = get (slice_cmp nat_cmp) c.in_ok-totals.totals in
    let are : (article : List ℕ) → totals article ≡ total_from None article unit.lines =
    λ article. c.in_ok-totals.ensures article ∙ ap (total_from None article) c.as_slice-lines.ensures in
    record {
      receipts = ap (λ gtins. c.args.changes.now ++ map (new_receipt unit.sscc unit.lines) gtins) (sym (all_left totals unit.lines are));
      sums = λ article sum e. sym (are article) ∙ e;
    }

pub loop-line-preserved : goal.loop-line-preserved
loop-line-preserved c =
    let unit = c.args.unit.now in
    let line = c.line-item.result in
    let i = c.loop-line.line-index in
    let old : List ℕ → Option Total = get (slice_cmp nat_cmp) c.loop-line.totals in
    let new : List ℕ → Option Total = get (slice_cmp nat_cmp) c.remove.new.self in
    let becomes : (article : List ℕ) → new article ≡ cond (same line.gtin article) None (old article) =
    λ article. c.remove.ensures.updates.0 article ∙ ap (λ v. cond v None (old article)) (is_eq-slice_cmp line.gtin article) in
    let inside : i < length unit.lines = subst (λ lines. i < length lines) c.as_slice-lines.ensures c.loop-line-test.true in
    let at : line ≡ get_or unit.lines i line = c.line-item.is ∙ ap (λ lines. get_or lines i line) c.as_slice-lines.ensures in
    let so_far = c.loop-line.changes in
    let receipt = new_receipt unit.sscc unit.lines in
    let rest = map receipt (left new (drop (i + 1) unit.lines)) in
    record {
      receipts = elim c.match-remove.branch [
        | in-Some+in_ok-push w ↦
            let there : old line.gtin ≡ Some w.in-Some.total = sym c.remove.ensures.value ∙ w.in-Some.is in
            let added : c.match-remove.changes ≡ so_far ++ receipt line.gtin ∷ [] =
            w.changes-is
            ∙ w.in_ok-push.ensures.ok
            ∙ ap (λ one. so_far ++ one ∷ []) (receipt_is unit.sscc unit.lines line.gtin w.in-Some.total
            (c.loop-line.invariant.sums line.gtin w.in-Some.total there)) in
            c.loop-line.invariant.receipts
            ∙ ap (λ gtins. so_far ++ map receipt gtins) (left_taken unit.lines i line inside at old new becomes w.in-Some.total there)
            ∙ sym (append_assoc so_far (receipt line.gtin ∷ []) rest)
            ∙ ap (λ changes. changes ++ rest) (sym added)
        | in_default w ↦
            c.loop-line.invariant.receipts
            ∙ ap (λ gtins. so_far ++ map receipt gtins)
            (left_passed unit.lines i line inside at old new becomes (sym c.remove.ensures.value ∙ w.in_default.is))
            ∙ ap (λ changes. changes ++ rest) (sym w.changes-is)
      ];
      sums = still_told old new line.gtin becomes unit.lines c.loop-line.invariant.sums;
    }
