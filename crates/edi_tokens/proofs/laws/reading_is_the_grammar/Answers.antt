use Rattle.edi_tokens.proofs.Exact.{spelled_iff_read, shown_iff_fault}
use Rattle.edi_tokens.proofs.laws.reading_is_the_grammar.Goals as goal

pub returns : goal.returns
returns c = record { spelled = spelled_iff_read; shown = shown_iff_fault }
