use Rattle.std.proofs.Common.{◌≡◌, None, drop, option_map}
use Rattle.hub_order_lines.specs.KnownLines.{steps_up}
use Rattle.hub_order_lines.proofs.rising.rise.Given as goal

abbrev pub invariant-loop-line : goal.invariant-loop-line
invariant-loop-line l = steps_up None l.lines ≡ steps_up (option_map (λ line. line.now) l.before) (drop l.line-index l.lines)
