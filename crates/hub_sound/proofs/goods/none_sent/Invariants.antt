use Rattle.std.proofs.Common.{◌≡◌, ℕ, List, None, drop}
use Rattle.hub_sound.specs.Goods.{none_from, sent_at}
use Rattle.hub_sound.proofs.goods.none_sent.Given as goal

-- what the lines leave is what the rest of them does after those so far
abbrev pub invariant-loop-line : goal.invariant-loop-line
invariant-loop-line l =
    (number : List ℕ) (n : ℕ)
    → none_from None number n l.lines ≡ none_from (sent_at l.sent number n) number n (drop l.line-index l.lines)
