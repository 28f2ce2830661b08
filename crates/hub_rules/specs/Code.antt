-- Defines the code that is printed for each rule.
use Rattle.std.specs.Prelude.{ℕ, List, codes}
use Rattle.hub_rules.specs.declared.code.Code.{Code}
use Rattle.hub_rules.specs.declared.code.Code.TheVariants.{Buyer, Supplier, OtherContent, OrderKnown, NoOrder, NoLine}
use Rattle.hub_rules.specs.declared.code.Code.TheVariants.{NotWaiting, OutOfRange, OtherArticle, MoreThanOpen}
use Rattle.hub_rules.specs.declared.code.Code.TheVariants.{OtherPrefix, SsccUsed, AdviceKnown, NoPallet, PalletReceived}
use Rattle.hub_rules.specs.declared.code.Code.TheVariants.{MailboxFull, CancelsMoreThanOpen}
use Rattle.hub_rules.specs.declared.code.Code.TheVariants.{GlnKnown, PrefixOverlaps, RegisterFull}

abbrev pub code_text : Code → List ℕ
code_text Buyer = codes "B01"
code_text Supplier = codes "B02"
code_text OtherContent = codes "B03"
code_text OrderKnown = codes "B04"
code_text NoOrder = codes "B05"
code_text NoLine = codes "B06"
code_text NotWaiting = codes "B07"
code_text OutOfRange = codes "B08"
code_text OtherArticle = codes "B09"
code_text MoreThanOpen = codes "B10"
code_text OtherPrefix = codes "B11"
code_text SsccUsed = codes "B12"
code_text AdviceKnown = codes "B13"
code_text NoPallet = codes "B14"
code_text PalletReceived = codes "B15"
code_text MailboxFull = codes "B16"
code_text CancelsMoreThanOpen = codes "B17"
code_text GlnKnown = codes "B18"
code_text PrefixOverlaps = codes "B19"
code_text RegisterFull = codes "B20"
