use Rattle.std.proofs.Common.{[], ◌++◌, length, sym, ap, refl, arith}
use Rattle.edi_segments.specs.Reading.{Reading}
use Rattle.edi_tokens.proofs.Lent.{came}
use Rattle.edi_tokens.proofs.lender.Lender.new.Goals as goal

pub returns-clause-fed : goal.returns-clause-fed
returns-clause-fed c = λ known. record {
  taken = [];
  left = known;
  all_is = ap (λ l. l ++ known) (sym c.in_ok-of.ensures);
  read_as = ap (λ (r : Reading). came r) (sym c.in_ok-new.ensures);
  goes_on = (refl, omega (arith, ap length c.in_ok-of.ensures), omega arith);
}
