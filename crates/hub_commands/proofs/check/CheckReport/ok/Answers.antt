use Rattle.std.proofs.Common.{ap, ◌∙◌}
use Rattle.hub_commands.specs.Check.{ok_line}
use Rattle.hub_commands.proofs.check.CheckReport.ok.Goals as goal

pub returns-clause-line : goal.returns-clause-line
returns-clause-line c = c.in_ok-line.ensures.ok ∙ ap ok_line c.supplier_count-count.ensures.value
