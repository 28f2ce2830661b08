-- Shows that a cancellation is decided from known facts as from a state that they agree with.
use Rattle.std.proofs.Common.{◌≡◌, ℕ, List, not, nat_lt, ◌+◌, ◌-◌, [], ◌∷◌, Option, Some, None, option_map, refl, ◌∙◌, ap, ap₂}
use Rattle.hub_tables.specs.Tables.{Tables}
use Rattle.hub_tables.specs.declared.change.Change.TheVariants.{SetLine}
use Rattle.hub_tables.specs.declared.rows.LineRow.{LineRow}
use Rattle.hub_order_lines.specs.Book.{facts_among, has_order, lines_in}
use Rattle.hub_order_lines.specs.declared.facts.LineFacts.{LineFacts}
use Rattle.hub_rules.specs.CancellationRules.{judge_new_cancel}
use Rattle.hub_rules.specs.Judging.{refuse_if, given}
use Rattle.hub_rules.specs.declared.code.Code.TheVariants.{NoOrder, NoLine, CancelsMoreThanOpen}
use Rattle.hub_rules.specs.declared.cancel.Cancel.{Cancel}
use Rattle.hub_rules.specs.declared.verdict.Verdict.{Verdict}
use Rattle.hub_rules.specs.declared.verdict.Verdict.TheVariants.{Accept}
use Rattle.hub_judges.specs.FromFacts.{cancelled_from}
use Rattle.hub_judges.specs.Known.{TellsForCancel}
use Rattle.hub_judges.specs.declared.known.Known.{Known}
use Rattle.hub_judges.proofs.Facts.{line_told}

-- the decision on a line
abbrev of_line : Cancel → LineRow → Verdict
of_line cancel line =
    refuse_if (nat_lt line.open_qty cancel.quantity) CancelsMoreThanOpen (Accept
    (SetLine (record line { open_qty = line.open_qty - cancel.quantity; cancelled = line.cancelled + cancel.quantity })
    ∷ []))

found : (cancel : Cancel) (line : Option LineFacts)
    → given (option_map (λ line. line.row) line) NoLine (of_line cancel) ≡ given line NoLine (λ line. of_line cancel line.row)
found cancel None = refl
found cancel (Some line) = refl

pub cancel_alike : (known : Known) (content : List ℕ) (cancel : Cancel) (state : Tables)
    → TellsForCancel known content cancel state
    → known.remembered ≡ None
    → judge_new_cancel cancel state ≡ cancelled_from cancel known
cancel_alike known content cancel state told none =
    ap₂ (λ v line. refuse_if (not v) NoOrder (given line NoLine (of_line cancel))) (told.order none)
    (line_told state known.orders cancel.order (Some cancel.line) [] (told.lines none))
    ∙ ap (refuse_if (not (has_order known.orders cancel.order)) NoOrder)
    (found cancel (facts_among (lines_in known.orders cancel.order) (Some cancel.line) []))
