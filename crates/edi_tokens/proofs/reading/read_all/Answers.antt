use Rattle.std.proofs.Common.{Result, subst}
use Rattle.edi_segments.specs.declared.segment.Tokens.{Tokens}
use Rattle.edi_segments.specs.declared.fault.TokenFault.{TokenFault}
use Rattle.edi_segments.specs.Reading.{GivesValue}
use Rattle.edi_tokens.proofs.Exact.{spelled_is_read, is_spelled, is_shown}
use Rattle.edi_tokens.proofs.reading.read_all.Goals as goal

pub returns-clause-spelled : goal.returns-clause-spelled
returns-clause-spelled c = is_spelled c.args.text.now c.read.result c.read.ensures

pub returns-clause-only : goal.returns-clause-only
returns-clause-only c = λ service segments spelled.
    subst (λ (given : Result Tokens TokenFault). GivesValue (λ tokens. tokens) c.read.result given)
    (spelled_is_read c.args.text.now service segments spelled) c.read.ensures

pub returns-clause-shown : goal.returns-clause-shown
returns-clause-shown c = is_shown c.args.text.now c.read.result c.read.ensures
