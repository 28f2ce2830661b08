use Rattle.std.proofs.Common.{◌≡◌, List, ◌+◌, ◌∷◌, drop, sym, subst, ap, ◌∙◌}
use Rattle.std.specs.Option.{IfSome, IfNone}
use Rattle.std.proofs.lemmas.List.{drop_more}
use Rattle.edi_orders.specs.declared.response.AnswerLine.{AnswerLine}
use Rattle.hub_rules.specs.Judging.{joined}
use Rattle.hub_rules.specs.declared.verdict.Verdict.TheVariants.{Refuse}
use Rattle.hub_judges.specs.FromFacts.{answers_from}
use Rattle.hub_judges.proofs.answers.answer_lines.Goals as goal
use Rattle.hub_judges.proofs.answers.answer_lines.Goals.{In_ok-code}

-- the answers up to this one, which is the next to be judged
reached : (c : In_ok-code)
    → joined c.args.changes (answers_from c.args.order.now c.args.said.now c.args.book)
    ≡ joined c.loop-answer.changes (answers_from c.args.order.now (c.answer-item.result
    ∷ drop (c.loop-answer.answer-index + 1) c.args.said.now) c.loop-answer.book)
reached c =
    let rest = drop (c.loop-answer.answer-index + 1) c.args.said.now in
    let next = drop_more c.args.said.now c.loop-answer.answer-index c.answer-item.result c.loop-answer-test.true
    ∙ ap (λ one. one ∷ rest) (sym c.answer-item.is) in
    c.loop-answer.invariant
    ∙ ap (λ ahead. joined c.loop-answer.changes (answers_from c.args.order.now ahead c.loop-answer.book)) next

pub loop-answer-preserved : goal.loop-answer-preserved
loop-answer-preserved c =
    let order = c.args.order.now in
    let here = (goal.at.loop-answer-preserved c).In_ok-code in
    reached here
    ∙ subst (λ fault. IfNone fault ((rest : List AnswerLine) →
    joined c.loop-answer.changes (answers_from order (c.answer-item.result ∷ rest) c.loop-answer.book)
    ≡ joined c.answer_line.new.changes (answers_from order rest c.answer_line.new.book)))
    c.in_default.is c.in_ok-code.ensures.answered (drop (c.loop-answer.answer-index + 1) c.args.said.now)

pub returns-in-Some : goal.returns-in-Some
returns-in-Some c =
    let order = c.args.order.now in
    let here = (goal.at.returns-in-Some c).In_ok-code in
    sym (reached here
    ∙ subst (λ fault. IfSome fault (λ code. (rest : List AnswerLine) →
    joined c.loop-answer.changes (answers_from order (c.answer-item.result ∷ rest) c.loop-answer.book) ≡ Refuse code))
    c.in-Some.is c.in_ok-code.ensures.refused (drop (c.loop-answer.answer-index + 1) c.args.said.now))
