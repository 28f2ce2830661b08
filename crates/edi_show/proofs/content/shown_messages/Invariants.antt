use Rattle.std.proofs.Common.{◌≡◌, ◌++◌, drop}
use Rattle.edi_show.specs.Content.{shown_messages}
use Rattle.edi_show.proofs.content.shown_messages.Given as goal

abbrev pub invariant-loop-message : goal.invariant-loop-message
invariant-loop-message l = shown_messages 1 l.messages ≡ l.shown ++ shown_messages l.before (drop l.message-index l.messages)
