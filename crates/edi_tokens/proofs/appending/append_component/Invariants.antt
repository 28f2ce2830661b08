use Rattle.std.proofs.Common.{◌≡◌, ◌++◌, length}
use Rattle.edi_tokens.specs.Text.{component_text}
use Rattle.edi_tokens.specs.Appending.{KeepsFront}
use Rattle.edi_tokens.proofs.appending.append_component.Given as goal

abbrev pub invariant-loop-byte : goal.invariant-loop-byte
invariant-loop-byte l = record {
  text : l.out.items ++ component_text l.rest ≡ l.fn.out.items ++ component_text l.component;
  kept : KeepsFront l.fn.out.items l.out.items;
}

abbrev pub decreases-loop-byte : goal.decreases-loop-byte
decreases-loop-byte l = length l.rest
