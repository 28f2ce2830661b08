use Rattle.std.proofs.Common.{ap, sym, ◌∙◌}
use Rattle.std.proofs.lemmas.List.{drop_all}
use Rattle.hub_journal.specs.Front.{kept}
use Rattle.hub_journal.specs.Reply.{shown}
use Rattle.hub_journal.proofs.Kept.{keep_none, shown_more}
use Rattle.hub_journal.proofs.reply.keep_shown.Goals as goal

pub loop-byte-preserved : goal.loop-byte-preserved
loop-byte-preserved c =
    shown_more c.loop-byte.front c.keep_byte.new.front c.args.bytes.now c.loop-byte.byte-index 0 c.loop-byte-test.true
    c.keep_byte.ensures ∙ c.loop-byte.invariant

pub returns : goal.returns
returns c =
    sym (keep_none c.loop-byte.front)
    ∙ ap (λ rest. kept c.loop-byte.front (shown rest)) (sym (drop_all c.loop-byte.byte-index c.args.bytes.now c.loop-byte-test.false))
    ∙ c.loop-byte.invariant
