use Rattle.std.proofs.Common.{rules}
use Rattle.gs1_ids.proofs.prefix.is_prefix.Goals as goal

pub returns-else-contains : goal.returns-else-contains
returns-else-contains c = search rules
