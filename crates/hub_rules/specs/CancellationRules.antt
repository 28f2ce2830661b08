-- Defines the rules of cancellations (B05, B06, B17).
use Rattle.std.specs.Prelude.{◌+◌, ◌-◌, nat_lt, not, [], ◌∷◌, Some}
use Rattle.hub_tables.specs.State.{knows_order, line_of}
use Rattle.hub_tables.specs.declared.change.Change.TheVariants.{SetLine}
use Rattle.hub_rules.specs.Judging.{Judge, refuse_if, given}
use Rattle.hub_rules.specs.declared.code.Code.TheVariants.{NoOrder, NoLine, CancelsMoreThanOpen}
use Rattle.hub_rules.specs.declared.cancel.Cancel.{Cancel}
use Rattle.hub_rules.specs.declared.verdict.Verdict.TheVariants.{Accept}

-- B05, B06, B17; if all pass, the quantity moves from open to cancelled
abbrev pub judge_new_cancel : Cancel → Judge
judge_new_cancel cancel state =
    refuse_if (not (knows_order state cancel.order)) NoOrder (
    given (line_of state cancel.order (Some cancel.line) []) NoLine (λ line.
    refuse_if (nat_lt line.open_qty cancel.quantity) CancelsMoreThanOpen (
    Accept (SetLine (record line {
      open_qty = line.open_qty - cancel.quantity;
      cancelled = line.cancelled + cancel.quantity;
    }) ∷ []))))
