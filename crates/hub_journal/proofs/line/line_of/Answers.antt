use Rattle.std.proofs.Common.{codes, decimal, ap, ◌∙◌}
use Rattle.hub_journal.specs.Front.{kept}
use Rattle.hub_journal.specs.Line.{moment_text, outcome_text, reply_text, request_text}
use Rattle.hub_journal.specs.Request.{request_in}
use Rattle.hub_journal.proofs.Lines.{moment_within, nine_kept, nine_within, reply_within, request_within}
use Rattle.hub_journal.proofs.line.line_of.Goals as goal

pub returns : goal.returns
returns c =
    let entry = c.args.entry.now in
    let request = request_in entry.read.now in
    let m = moment_text entry.moment in
    let n = decimal entry.number in
    let r = request_text request in
    let o = outcome_text entry.outcome in
    let p = reply_text request entry.sent.now in
    nine_kept m (codes " ") n (codes " ") r (codes " ") o p (codes "\n")
    c.keep_moment.new.line c.keep.new.self c.keep_number.new.line c.keep-2.new.self c.keep_request.new.line c.keep-3.new.self
    c.keep_outcome.new.line c.keep_reply.new.line c.keep-4.new.self
    (c.keep_moment.ensures ∙ ap (λ front. kept front m) c.new-line.ensures)
    c.keep.ensures c.keep_number.ensures.value c.keep-2.ensures
    (c.keep_request.ensures ∙ ap (λ it. kept c.keep-2.new.self (request_text it)) c.read_from-request.ensures)
    c.keep-3.ensures c.keep_outcome.ensures.value
    (c.keep_reply.ensures ∙ ap (λ it. kept c.keep_outcome.new.line (reply_text it entry.sent.now)) c.read_from-request.ensures)
    c.keep-4.ensures
    (nine_within m n r o p (moment_within entry.moment) c.keep_number.ensures.short (request_within request)
    c.keep_outcome.ensures.short (reply_within request entry.sent.now))
