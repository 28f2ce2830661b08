use Rattle.std.proofs.Common.{◌≡◌, ◌+◌, ◌-◌, [], ◌∷◌, ◌++◌, Some, option_map, false, not, sym, ap, ◌∙◌}
use Rattle.hub_tables.specs.declared.change.Change.TheVariants.{AddContent, SetLine}
use Rattle.hub_order_lines.specs.Book.{Orders, facts_among, has_order, lines_in, with_row, answered_row}
use Rattle.hub_order_lines.specs.declared.facts.LineFacts.{LineFacts}
use Rattle.hub_rules.specs.Judging.{joined}
use Rattle.hub_judges.specs.FromFacts.{lines_from}
use Rattle.hub_judges.proofs.Despatched.{despatched_next}
use Rattle.hub_judges.proofs.despatch.load_line.Goals as goal

pub returns-clause-loaded : goal.returns-clause-loaded
returns-clause-loaded c = λ n rest next is.
    let said = c.args.said.now in
    let line : LineFacts = c.in-Some.line.now in
    let row = c.in_ok-row.row in
    let before : Orders = c.args.book.now in
    let known : not (has_order before said.order) ≡ false =
    ap not (sym (c.has.ensures ∙ ap (has_order before) c.as_slice-order.ensures) ∙ c.if-not-has.false) in
    let found_there : facts_among (lines_in before c.as_slice-order.result.now) said.order_line said.gtin ≡ Some line =
    sym c.line.ensures.line ∙ ap (option_map (λ line. line.now)) c.in-Some.is in
    let found : facts_among (lines_in before said.order) said.order_line said.gtin ≡ Some line =
    ap (λ order. facts_among (lines_in before order) said.order_line said.gtin) (sym c.as_slice-order.ensures) ∙ found_there in
    let set : c.set.new.self ≡ with_row (answered_row line.row (row.open_qty - said.quantity) row.refused row.cancelled row.answer) before =
    c.in_ok-set.ensures.set line found_there in
    despatched_next c.args.sscc n said rest c.args.changes.now before c.set.new.self line row next known
    found c.in_default-line_fault.ensures.none c.in_ok-row.ensures set
    ∙ ap (λ changes. joined changes (lines_from c.args.sscc (n + 1) rest c.set.new.self next))
    (ap (λ place. c.args.changes.now ++ SetLine (record row { open_qty = row.open_qty - said.quantity }) ∷ AddContent
    (record { sscc = c.args.sscc; place = place; number = row.number; line = row.line; quantity = said.quantity }) ∷ []) is
    ∙ sym c.in_ok-add_content.ensures)
