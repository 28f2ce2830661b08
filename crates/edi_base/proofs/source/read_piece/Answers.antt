use Rattle.std.proofs.Common.{rules}
use Rattle.edi_base.proofs.source.read_piece.Goals as goal

pub returns-in_default-clause-taken : goal.returns-in_default-clause-taken
returns-in_default-clause-taken g c = search rules

pub returns-in_default-clause-kept : goal.returns-in_default-clause-kept
returns-in_default-clause-kept g c = search rules
