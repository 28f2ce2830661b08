use Rattle.std.proofs.Common.{◌≡◌, ℕ, List, take, false}
use Rattle.edi_base.specs.Seen.{is_among, has_twice}
use Rattle.hub_register.proofs.columns.has_twice.Given as goal

-- no GLN has occurred twice, and the GLNs so far are in the set
abbrev pub invariant-loop-gln : goal.invariant-loop-gln
invariant-loop-gln l = record {
  once : has_twice (take l.gln-index l.glns) ≡ false;
  seen : (text : List ℕ) → is_among text l.seen ≡ is_among text (take l.gln-index l.glns);
}
