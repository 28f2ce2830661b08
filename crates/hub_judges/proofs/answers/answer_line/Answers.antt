use Rattle.std.proofs.Common.{◌≡◌, Some, option_map, sym, ap, ◌∙◌}
use Rattle.hub_order_lines.specs.Book.{Orders, facts_among, lines_in, with_row, answered_row}
use Rattle.hub_order_lines.specs.declared.facts.LineFacts.{LineFacts}
use Rattle.hub_rules.specs.Judging.{joined}
use Rattle.hub_judges.specs.FromFacts.{answers_from}
use Rattle.hub_judges.proofs.Answering.{answered_next}
use Rattle.hub_judges.proofs.answers.answer_line.Goals as goal

pub returns-clause-answered : goal.returns-clause-answered
returns-clause-answered c = λ rest.
    let order = c.args.order.now in
    let said = c.args.said.now in
    let line : LineFacts = c.in-Some.line.now in
    let row = c.in_ok-row.row in
    let before : Orders = c.args.book.now in
    let found : facts_among (lines_in before order) said.order_line said.gtin ≡ Some line =
    sym c.line.ensures.line ∙ ap (option_map (λ line. line.now)) c.in-Some.is in
    let set : c.set.new.self ≡ with_row (answered_row line.row row.open_qty row.refused row.cancelled row.answer) before =
    c.in_ok-set.ensures.set line found in
    answered_next order said rest c.args.changes.now before c.set.new.self line row
    found c.in_ok-row.ensures.row c.in_default-answer_fault.ensures.none set
    ∙ ap (λ changes. joined changes (answers_from order rest c.set.new.self)) (sym c.in_ok-append.ensures)
