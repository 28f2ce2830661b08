use Rattle.gs1_ids.proofs.StoredPrefixes.{overlap_is}
use Rattle.gs1_ids.proofs.prefix.Prefix.overlaps.Goals as goal

pub returns : goal.returns
returns c = rw (← c.self.view_is, ← c.other.view_is) (overlap_is _ _ _ _ c.agree.result c.self.invariant c.other.invariant c.agree.ensures)
