use Rattle.std.proofs.Common.{◌≡◌, ℕ, List, None, drop}
use Rattle.std.specs.BTreeMap.{get}
use Rattle.std.specs.Cmp.Lexicographic.{slice_cmp}
use Rattle.std.specs.Ordering.{nat_cmp}
use Rattle.hub_judges.specs.Totals.{total_from}
use Rattle.hub_judges.proofs.totals.totals_of.Given as goal

-- the total of an article is that of the remaining lines, added to the one so far
abbrev pub invariant-loop-line : goal.invariant-loop-line
invariant-loop-line l =
    (article : List ℕ)
    → total_from None article l.lines ≡ total_from (get (slice_cmp nat_cmp) l.totals article) article (drop l.line-index l.lines)
