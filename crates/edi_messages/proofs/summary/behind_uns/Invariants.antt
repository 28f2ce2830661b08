use Rattle.std.proofs.Common.{◌≡◌, drop}
use Rattle.edi_messages.specs.Summary.{behind_uns}
use Rattle.edi_messages.proofs.summary.behind_uns.Given as goal

-- no section control so far
abbrev pub invariant-loop-index : goal.invariant-loop-index
invariant-loop-index l = behind_uns l.message ≡ behind_uns (drop l.index l.message)
