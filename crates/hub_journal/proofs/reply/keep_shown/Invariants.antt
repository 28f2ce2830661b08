use Rattle.std.proofs.Common.{◌≡◌, drop}
use Rattle.hub_journal.specs.Front.{kept}
use Rattle.hub_journal.specs.Reply.{shown}
use Rattle.hub_journal.proofs.reply.keep_shown.Given as goal

-- what is kept once the remaining bytes are shown too
abbrev pub invariant-loop-byte : goal.invariant-loop-byte
invariant-loop-byte l = kept l.front (shown (drop l.byte-index l.bytes)) ≡ kept l.initial.front (shown l.bytes)
