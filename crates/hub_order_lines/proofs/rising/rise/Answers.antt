use Rattle.std.proofs.Common.{◌≡◌, ◌≤◌, ◌∙◌, true, None, length, option_map, sym, arith}
use Rattle.std.proofs.lemmas.List.{at_drop_all}
use Rattle.hub_order_lines.specs.KnownLines.{steps_up}
use Rattle.hub_order_lines.proofs.StepsUp.{rise_if_steps}
use Rattle.hub_order_lines.proofs.rising.rise.Goals as goal

pub returns : goal.returns
returns c =
    let lines = c.args.lines.now in
    let past : length lines ≤ c.loop-line.line-index = omega (arith, c.loop-line-test.false) in
    let steps : steps_up None lines ≡ true =
    c.loop-line.invariant
    ∙ at_drop_all (steps_up (option_map (λ line. line.now) c.loop-line.before)) lines c.loop-line.line-index past in
    record { steps = sym steps; rise = λ _. rise_if_steps lines steps }
