use Rattle.hub_law.proofs.Overlapping
use Rattle.hub_law.proofs.laws.prefixes_matter.Goals as goal

pub returns-clause-overlap : goal.returns-clause-overlap
returns-clause-overlap c = Overlapping.overlap

pub returns-clause-items : goal.returns-clause-items
returns-clause-items c = Overlapping.same_items

pub returns-clause-both : goal.returns-clause-both
returns-clause-both c = Overlapping.both

pub returns-clause-one : goal.returns-clause-one
returns-clause-one c = Overlapping.one

pub returns-clause-alone : goal.returns-clause-alone
returns-clause-alone c = Overlapping.seen_alone
