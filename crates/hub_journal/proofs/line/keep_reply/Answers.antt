use Rattle.std.proofs.Common.{option_map, ap, sym, ◌∙◌}
use Rattle.hub_journal.specs.Front.{kept}
use Rattle.hub_journal.specs.Line.{reply_text, spaced}
use Rattle.hub_journal.specs.Request.{words_of}
use Rattle.hub_journal.proofs.Kept.{keep_none}
use Rattle.hub_journal.proofs.Lines.{reply_told, reply_untold}
use Rattle.hub_journal.proofs.line.keep_reply.Goals as goal

pub returns-in_default : goal.returns-in_default
returns-in_default c =
    let line = c.args.line.now in
    sym (keep_none line)
    ∙ ap (λ request. kept line (reply_text (option_map words_of request) c.args.sent.now)) (sym c.in_default.is)

pub returns-then-is_told : goal.returns-then-is_told
returns-then-is_told c =
    let line = c.args.line.now in
    let sent = c.args.sent.now in
    let request = words_of c.in-Some.request in
    let told = reply_told request sent (sym c.is_told.ensures ∙ c.if-is_told.true) in
    c.keep_spaced.ensures ∙ ap (λ text. kept line (spaced text)) (c.as_slice.ensures.value ∙ c.reply_in-reply.ensures)
    ∙ ap (kept line) (sym told)
    ∙ ap (λ it. kept line (reply_text (option_map words_of it) sent)) (sym c.in-Some.is)

pub returns-else-is_told : goal.returns-else-is_told
returns-else-is_told c =
    let line = c.args.line.now in
    let sent = c.args.sent.now in
    let request = words_of c.in-Some.request in
    let untold = reply_untold request sent (sym c.is_told.ensures ∙ c.if-is_told.false) in
    sym (keep_none line) ∙ ap (kept line) (sym untold)
    ∙ ap (λ it. kept line (reply_text (option_map words_of it) sent)) (sym c.in-Some.is)
