use Rattle.edi_tokens.proofs.Exact.{spells_or_shows, spelled_shows_none, shows_once, shows_at_one_byte, end_shows_alone}
use Rattle.edi_tokens.proofs.laws.text_spells_or_shows_a_fault.Goals as goal

pub returns : goal.returns
returns c =
    record {
      either = spells_or_shows;
      never_both = spelled_shows_none;
      one_fault = shows_once;
      one_byte = shows_at_one_byte;
      byte_or_end = end_shows_alone;
    }
