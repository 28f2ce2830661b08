use Rattle.hub_law.proofs.Balance.{lines_balance}
use Rattle.hub_law.proofs.laws.each_line_balances.Goals as goal

pub returns : goal.returns
returns c = lines_balance
