use Rattle.std.proofs.Common.{◌≡◌, not, is_some, find, drop}
use Rattle.hub_sound.specs.Goods.{sent_at}
use Rattle.hub_sound.proofs.goods.first_without_line.Given as goal

-- the first of all is the first of the rest
abbrev pub invariant-loop-content : goal.invariant-loop-content
invariant-loop-content l =
    find (λ content. not (is_some (sent_at l.sent content.number content.line))) l.contents
    ≡ find (λ content. not (is_some (sent_at l.sent content.number content.line))) (drop l.content-index l.contents)
