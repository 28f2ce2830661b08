use Rattle.std.proofs.Common.{◌≡◌, take}
use Rattle.edi_tokens.specs.Text.{component_text}
use Rattle.edi_tokens.proofs.text.plain_len.Given as goal

abbrev pub invariant-loop-index : goal.invariant-loop-index
invariant-loop-index l = component_text (take l.index l.bytes) ≡ take l.index l.bytes
