use Rattle.gs1_ids.proofs.Overlaps.{apart-iff}
use Rattle.gs1_ids.proofs.overlap.overlap_some.Goals as goal

pub returns-clause-apart : goal.returns-clause-apart
returns-clause-apart c = apart-iff c.args.ours.now c.args.theirs.now c.some_overlaps.result c.some_overlaps.ensures
