use Rattle.gs1_ids.proofs.FilledFields.{filled_right}
use Rattle.gs1_ids.proofs.prefix.in_field.Goals as goal

pub returns : goal.returns
returns c = filled_right c.args.text.now _ c.requires c.copy_from_slice.ensures.after
