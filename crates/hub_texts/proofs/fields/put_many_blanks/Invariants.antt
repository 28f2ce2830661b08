use Rattle.std.proofs.Common.{◌≡◌, ◌++◌}
use Rattle.hub_law.specs.Widths.{blanks}
use Rattle.hub_texts.proofs.fields.put_many_blanks.Given as goal

abbrev pub invariant-loop : goal.invariant-loop
invariant-loop l = l.out.items ≡ l.fn.out.items ++ blanks l.counter
