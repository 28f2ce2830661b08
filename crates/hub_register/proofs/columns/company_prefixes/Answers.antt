use Rattle.std.proofs.Common.{arith}
use Rattle.std.proofs.lemmas.Grind.{common_steps}
use Rattle.hub_parties.proofs.ByBytes.{no_prefix}
use Rattle.hub_register.specs.Entries.{texts_of}
use Rattle.hub_register.proofs.columns.company_prefixes.Goals as goal

pub returns-in_err-prefixes-clause-err : goal.returns-in_err-prefixes-clause-err
returns-in_err-prefixes-clause-err c = let none = no_prefix (texts_of c.args.texts.now) in grind (arith, common_steps, none)
