use Rattle.std.proofs.Common.{false, ◌≡◌, ◌∙◌, arith, rules, drop}
use Rattle.hub_commands.specs.Key as spec
use Rattle.std.proofs.lemmas.List.{take_rest}
use Rattle.hub_commands.proofs.FirstLine.{kept_more}
use Rattle.hub_commands.proofs.key.key_in.Goals as goal

pub loop-end-preserved : goal.loop-end-preserved
loop-end-preserved c =
    let i = c.loop-end.end in
    let bytes = c.args.bytes.now in
    let here : spec.at_line_end (drop i bytes) ≡ false = search (rules, take_rest) in
    record {
      within = omega (arith, c.loop-end-test.true);
      kept = c.loop-end.invariant.kept
          ∙ kept_more bytes i (omega (arith, c.loop-end-test.true)) (omega (arith, c.if-end-lt-LINE_LIMIT.true)) here;
    }
