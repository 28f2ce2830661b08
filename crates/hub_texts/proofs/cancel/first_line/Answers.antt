use Rattle.std.proofs.Common.{◌≡◌, ◌∙◌, length, sym, arith}
use Rattle.hub_texts.proofs.Cutting.{cut_at, not_cut}
use Rattle.hub_texts.proofs.cancel.first_line.Goals as goal

pub returns-in-Some-clause-some : goal.returns-in-Some-clause-some
returns-in-Some-clause-some c =
    cut_at c.args.text.now c.split_at.result.0.now c.split_at.result.1.now c.line_len.result c.in-Some.field-0-0.now
    c.in-Some.after.now c.line_len.ensures.value c.split_at.ensures.front c.split_at.ensures.back c.in-Some.ensures.cases.0

pub returns-in-None-clause-none : goal.returns-in-None-clause-none
returns-in-None-clause-none c =
    let all : c.line_len.result ≡ length c.args.text.now = omega (arith, c.split_at.ensures.back_len, c.in-None.ensures.cases) in
    not_cut c.args.text.now (sym c.line_len.ensures.value ∙ all)
