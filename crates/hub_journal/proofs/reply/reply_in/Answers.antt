use Rattle.std.proofs.Common.{◌≡◌, [], ◌<◌, ◌≤◌, length, take, codes, ap, ◌∙◌, arith}
use Rattle.hub_journal.specs.Front.{kept}
use Rattle.hub_journal.specs.Reply.{body_in, longest_reply, reply_in, shown, without_end}
use Rattle.hub_journal.proofs.Kept.{cut_long, cut_short}
use Rattle.hub_journal.proofs.reply.reply_in.Goals as goal

pub returns-then-as_slice-gt-LONGEST_REPLY : goal.returns-then-as_slice-gt-LONGEST_REPLY
unfolding reply_in
returns-then-as_slice-gt-LONGEST_REPLY c =
    let text = shown (without_end (body_in c.args.response.now)) in
    let whole : c.keep_shown.new.front ≡ kept [] text =
    c.keep_shown.ensures ∙ ap (λ front. kept front (shown c.without_end.result.now)) c.new-shown.ensures
    ∙ ap (λ it. kept [] (shown it)) (c.without_end.ensures ∙ ap without_end c.body_in.ensures) in
    let size : length c.as_slice.result.now ≡ length (kept [] text) = ap length (c.as_slice.ensures.value ∙ whole) in
    let long : longest_reply < length (kept [] text) = omega (arith, size, c.if-as_slice-gt-LONGEST_REPLY.true) in
    c.keep.ensures ∙ ap (λ front. kept front (codes "..")) (c.cut.ensures ∙ ap (take longest_reply) whole) ∙ cut_long text long

pub returns-else-as_slice-gt-LONGEST_REPLY : goal.returns-else-as_slice-gt-LONGEST_REPLY
unfolding reply_in
returns-else-as_slice-gt-LONGEST_REPLY c =
    let text = shown (without_end (body_in c.args.response.now)) in
    let whole : c.keep_shown.new.front ≡ kept [] text =
    c.keep_shown.ensures ∙ ap (λ front. kept front (shown c.without_end.result.now)) c.new-shown.ensures
    ∙ ap (λ it. kept [] (shown it)) (c.without_end.ensures ∙ ap without_end c.body_in.ensures) in
    let size : length c.as_slice.result.now ≡ length (kept [] text) = ap length (c.as_slice.ensures.value ∙ whole) in
    let short : length (kept [] text) ≤ longest_reply = omega (arith, size, c.if-as_slice-gt-LONGEST_REPLY.false) in
    whole ∙ cut_short text short
