use Rattle.std.proofs.Common.{ap, ◌∙◌}
use Rattle.std.specs.Prelude.{not}
use Rattle.edi_segments.proofs.Differs.{not_list_any}
use Rattle.edi_segments.proofs.service.differs.Goals as goal

pub returns : goal.returns
returns c = ap not c.contains.ensures.value ∙ not_list_any c.args.byte c.args.others.now
