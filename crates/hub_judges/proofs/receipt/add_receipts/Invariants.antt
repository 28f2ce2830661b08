use Rattle.std.proofs.Common.{◌≡◌, ℕ, ◌++◌, List, Some, None, map, drop}
use Rattle.std.specs.BTreeMap.{get}
use Rattle.std.specs.Cmp.Lexicographic.{slice_cmp}
use Rattle.std.specs.Ordering.{nat_cmp}
use Rattle.hub_rules.specs.ReceiptRules.{gtins, new_receipt}
use Rattle.hub_judges.specs.Totals.{total_from}
use Rattle.hub_judges.specs.declared.totals.Total.{Total}
use Rattle.hub_judges.proofs.Once.{left}
use Rattle.hub_judges.proofs.receipt.add_receipts.Given as goal

-- the receipts so far, then those of the articles that still occur in the rest, each with its total
abbrev pub invariant-loop-line : goal.invariant-loop-line
invariant-loop-line l = record {
  receipts : l.initial.changes ++ map (new_receipt l.unit.sscc l.unit.lines) (gtins l.unit.lines)
      ≡ l.changes
      ++ map (new_receipt l.unit.sscc l.unit.lines)
      (left (get (slice_cmp nat_cmp) l.totals) (drop l.line-index l.unit.lines));
  sums : (article : List ℕ) (sum : Total) → get (slice_cmp nat_cmp) l.totals article ≡ Some sum
      → total_from None article l.unit.lines ≡ Some sum;
}
