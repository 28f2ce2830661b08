use Rattle.std.proofs.Common.{◌≡◌, ◌+◌, ◌++◌, drop}
use Rattle.edi_show.specs.Messages.{messages_lines}
use Rattle.edi_show.proofs.messages.put_messages.Given as goal

abbrev pub invariant-loop-place : goal.invariant-loop-place
invariant-loop-place l =
    l.out.items ++ messages_lines (l.place + 1) (drop l.place l.messages) ≡ l.fn.out.items ++ messages_lines 1 l.messages
