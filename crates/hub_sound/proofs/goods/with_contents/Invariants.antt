use Rattle.std.proofs.Common.{◌≡◌, ℕ, List, drop}
use Rattle.hub_sound.specs.Goods.{sent_from, sent_at}
use Rattle.hub_sound.proofs.goods.with_contents.Given as goal

-- what the contents make of it is what the rest of them does after those so far
abbrev pub invariant-loop-content : goal.invariant-loop-content
invariant-loop-content l =
    (number : List ℕ) (n : ℕ)
    → sent_from (sent_at l.initial.sent number n) number n l.contents
    ≡ sent_from (sent_at l.sent number n) number n (drop l.content-index l.contents)
