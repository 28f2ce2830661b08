use Rattle.std.proofs.Common.{◌≡◌, ℕ, ◌+◌, ◌≤◌, List, drop}
use Rattle.std.specs.BTreeMap.{get}
use Rattle.std.specs.Cmp.Lexicographic.{slice_cmp}
use Rattle.std.specs.Option.{unwrap_or}
use Rattle.std.specs.Ordering.{nat_cmp}
use Rattle.edi_base.specs.Limits.{greatest}
use Rattle.edi_goods.specs.Sums.{sum_of}
use Rattle.edi_goods.proofs.sums.sums_within.Given as goal

-- the sum of an article is the one so far and that of the rest, and none so far is too great
abbrev pub invariant-loop-amount : goal.invariant-loop-amount
invariant-loop-amount l = record {
  sums : (article : List ℕ)
      → sum_of article l.amounts ≡ unwrap_or (get (slice_cmp nat_cmp) l.sums article) 0 + sum_of article (drop l.amount-index l.amounts);
  bound : (article : List ℕ) → unwrap_or (get (slice_cmp nat_cmp) l.sums article) 0 ≤ greatest;
}
