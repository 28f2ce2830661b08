-- Defines the facts of order lines in a given state.
use Rattle.std.specs.Prelude.{List, map}
use Rattle.hub_tables.specs.State.{despatched}
use Rattle.hub_tables.specs.Tables.{Tables}
use Rattle.hub_tables.specs.declared.rows.LineRow.{LineRow}
use Rattle.hub_order_lines.specs.declared.facts.LineFacts.{LineFacts}

-- a line and the quantity of it that was despatched
abbrev pub fact_in : Tables → LineRow → LineFacts
fact_in state row = record { row = row; despatched = despatched state row }

abbrev pub facts_in : Tables → List LineRow → List LineFacts
facts_in state rows = map (fact_in state) rows
