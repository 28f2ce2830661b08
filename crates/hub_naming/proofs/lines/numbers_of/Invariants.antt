use Rattle.std.proofs.Common.{◌≡◌, ℕ, true, List, nat_eq, drop}
use Rattle.std.specs.List.{AllByRecursion}
use Rattle.edi_base.specs.Seen.{comes_among}
use Rattle.hub_naming.specs.Lines.{has_number}
use Rattle.hub_naming.proofs.lines.numbers_of.Given as goal

-- if the remaining lines are named by numbers that include those so far, all lines are
abbrev pub invariant-loop-line : goal.invariant-loop-line
invariant-loop-line l = (later : List ℕ)
    → ((number : ℕ) → comes_among nat_eq number l.numbers.keys ≡ true → comes_among nat_eq number later ≡ true)
    → AllByRecursion (λ line. has_number later line.order_line ≡ true) (drop l.line-index l.said)
    → AllByRecursion (λ line. has_number later line.order_line ≡ true) l.said
