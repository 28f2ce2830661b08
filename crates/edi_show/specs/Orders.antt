-- Writes the lines of orders and responses.
use Rattle.std.specs.Prelude.{ℕ, List, ◌++◌, codes}
use Rattle.std.specs.List.{flat_map}
use Rattle.std.specs.Fmt.{decimal}
use Rattle.edi_orders.specs.declared.order.Order.{Order}
use Rattle.edi_orders.specs.declared.order.OrderLine.{OrderLine}
use Rattle.edi_orders.specs.declared.response.Response.{Response}
use Rattle.edi_orders.specs.declared.response.Answer.{Answer}
use Rattle.edi_orders.specs.declared.response.Answer.TheVariants as answers
use Rattle.edi_orders.specs.declared.response.AnswerLine.{AnswerLine}
use Rattle.edi_orders.specs.declared.response.LineAnswer.{LineAnswer}
use Rattle.edi_orders.specs.declared.response.LineAnswer.TheVariants as line_answers
use Rattle.edi_show.specs.Lines.{line, head_lines, line_text}

unfoldable pub order_line : OrderLine → List ℕ
order_line l =
    codes "  line "
    ++ (decimal l.line
    ++ (codes " item " ++ (l.gtin ++ (codes " ordered " ++ (decimal l.quantity ++ codes "\n")))))

unfoldable pub order_lines : Order → List ℕ
order_lines order = head_lines (codes "  order ") order.number order.buyer order.supplier
    ++ flat_map order_line order.lines

abbrev pub answer_text : LineAnswer → List ℕ
answer_text line_answers.Accepted = codes "accepted"
answer_text line_answers.Refused = codes "refused"
answer_text (line_answers.Changed quantity) = codes "changed " ++ decimal quantity

unfoldable pub answer_line : AnswerLine → List ℕ
answer_line l =
    codes "  line " ++ (line_text l.order_line
    ++ (codes " item " ++ (l.gtin ++ (codes " " ++ (answer_text l.answer ++ codes "\n")))))

-- what becomes of all lines, or of each
unfoldable pub answer_lines : Answer → List ℕ
answer_lines answers.AllAccepted = codes "  all accepted\n"
answer_lines answers.AllRefused = codes "  all refused\n"
answer_lines (answers.Lines lines) = flat_map answer_line lines

unfoldable pub response_lines : Response → List ℕ
response_lines response =
    head_lines (codes "  response ") response.number response.buyer response.supplier
    ++ (line (codes "  answers ") response.order ++ answer_lines response.answer)
