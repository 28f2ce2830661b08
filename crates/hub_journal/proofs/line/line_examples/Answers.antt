use Rattle.std.proofs.Common.{refl}
use Rattle.std.specs.Fmt.{digits}
use Rattle.edi_moment.specs.Moment.{day_at}
use Rattle.hub_journal.specs.Moment.{rfc3339}
use Rattle.hub_journal.specs.Reply.{after_head, cut, reply_in, shown_byte, without_end}
use Rattle.hub_journal.specs.Request.{is_told, request_in}
use Rattle.hub_journal.proofs.line.line_examples.Goals as goal

pub returns-clause-upload : goal.returns-clause-upload
unfolding digits day_at rfc3339 after_head cut reply_in shown_byte without_end is_told request_in
returns-clause-upload c = refl

pub returns-clause-untold : goal.returns-clause-untold
unfolding digits day_at rfc3339 after_head cut reply_in shown_byte without_end is_told request_in
returns-clause-untold c = refl

pub returns-clause-late : goal.returns-clause-late
unfolding digits day_at rfc3339 after_head cut reply_in shown_byte without_end is_told request_in
returns-clause-late c = refl
