use Rattle.std.proofs.Common.{◌≡◌, length}
use Rattle.hub_journal.specs.Reply.{body_in}
use Rattle.hub_journal.proofs.reply.body_in.Given as goal

abbrev pub invariant-loop-after : goal.invariant-loop-after
invariant-loop-after l = body_in l.rest ≡ body_in l.response

abbrev pub decreases-loop-after : goal.decreases-loop-after
decreases-loop-after l = length l.rest
