use Rattle.std.proofs.Common.{rules}
use Rattle.edi_show.proofs.shown.Shown.to_lines.Goals as goal

pub returns : goal.returns
returns c = search rules
