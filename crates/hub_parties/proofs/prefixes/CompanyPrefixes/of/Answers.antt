use Rattle.std.proofs.Common.{sym}
use Rattle.hub_parties.proofs.ByBytes.{too_many}
use Rattle.hub_parties.proofs.prefixes.CompanyPrefixes.of.Goals as goal

pub returns-then-prefixes-gt-MOST_PREFIXES : goal.returns-then-prefixes-gt-MOST_PREFIXES
returns-then-prefixes-gt-MOST_PREFIXES c = sym (too_many c.args.prefixes.now c.if-prefixes-gt-MOST_PREFIXES.true)
