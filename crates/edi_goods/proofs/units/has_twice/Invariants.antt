use Rattle.std.proofs.Common.{◌≡◌, ℕ, List, take, false}
use Rattle.edi_base.specs.Seen.{is_among, has_twice}
use Rattle.edi_goods.proofs.units.has_twice.Given as goal

-- no SSCC has come twice, and those that have come are seen
abbrev pub invariant-loop-sscc : goal.invariant-loop-sscc
invariant-loop-sscc l = record {
  once : has_twice (take l.sscc-index l.ssccs) ≡ false;
  seen : (text : List ℕ) → is_among text l.seen ≡ is_among text (take l.sscc-index l.ssccs);
}
