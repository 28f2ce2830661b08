use Rattle.gs1_ids.proofs.FilledFields.{filled_left}
use Rattle.gs1_ids.proofs.gtin.in_fourteen.Goals as goal

pub returns : goal.returns
returns c = filled_left c.args.text.now _ c.requires c.copy_from_slice.ensures.after
