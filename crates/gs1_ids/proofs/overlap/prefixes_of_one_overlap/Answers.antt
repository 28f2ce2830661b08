use Rattle.gs1_ids.proofs.Prefixes.{prefixes_overlap}
use Rattle.gs1_ids.proofs.overlap.prefixes_of_one_overlap.Goals as goal

pub returns : goal.returns
returns c = prefixes_overlap
