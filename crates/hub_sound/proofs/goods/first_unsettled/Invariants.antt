use Rattle.std.proofs.Common.{◌≡◌, not, find, drop}
use Rattle.hub_sound.specs.Goods.{is_sent_settled}
use Rattle.hub_sound.proofs.goods.first_unsettled.Given as goal

-- the first of all is the first of the rest
abbrev pub invariant-loop-line : goal.invariant-loop-line
invariant-loop-line l =
    find (λ line. not (is_sent_settled l.sent line)) l.lines
    ≡ find (λ line. not (is_sent_settled l.sent line)) (drop l.line-index l.lines)
