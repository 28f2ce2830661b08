use Rattle.std.proofs.Common.{rules}
use Rattle.hub_audit.proofs.Keys.{at_has}
use Rattle.hub_audit.proofs.every.read_rows.Goals as goal

pub returns-in-Err-Unclean-clause-read : goal.returns-in-Err-Unclean-clause-read
returns-in-Err-Unclean-clause-read g c = (
  c.row-item.result,
  at_has c.args.rows.now c.rows.row-index c.row-item.result c.rows-test.true c.row-item.is,
  c.of_row-shown.ensures.unclean (search rules),
  c.in_ok-key-in-Err-Unclean.ensures.value,
)
