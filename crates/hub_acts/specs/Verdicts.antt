-- Defines whether the changes that the rules accept can be made.
use Rattle.std.specs.Prelude.{⊤}
use Rattle.hub_tables.specs.Sets.{Fit}
use Rattle.hub_tables.specs.Tables.{Tables}
use Rattle.hub_texts.specs.HubRules.declared.verdict.Verdict.{Verdict}
use Rattle.hub_texts.specs.HubRules.declared.verdict.Verdict.TheVariants.{Accept, Refuse}

-- if there are changes, they fit the tables
abbrev pub VerdictFits : Verdict → Tables → Type 0
VerdictFits (Accept changes) t = Fit changes t
VerdictFits (Refuse code) t = ⊤
