use Rattle.std.proofs.Common.{◌≡◌, ◌++◌, drop}
use Rattle.std.specs.List.{flat_map}
use Rattle.hub_texts.specs.Heads.{head_line}
use Rattle.hub_texts.proofs.mail.put_heads.Given as goal

abbrev pub invariant-loop-head : goal.invariant-loop-head
invariant-loop-head l = l.out.items ++ flat_map head_line (drop l.head-index l.heads) ≡ l.fn.out.items ++ flat_map head_line l.heads
