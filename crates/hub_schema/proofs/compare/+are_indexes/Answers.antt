use Rattle.std.proofs.Common.{sym, ◌∙◌, true≢false}
use Rattle.hub_schema.proofs.Compared.{own_first}
use Rattle.hub_schema.proofs.compare.+are_indexes.Goals as goal

pub returns-else-are_own : goal.returns-else-are_own
returns-else-are_own t c = (
  λ so. absurd (true≢false (sym so ∙ c.if-are_own.false)),
  λ e. c.are_own.ensures.1 (c.split_at.ensures.front ∙ own_first c.args.indexes.now c.args.tables.now
      c.args.definitions.now c.table-item.result _ c.min.result c.in-len1-up.len_at_least
      c.in-len1-up-definitions.len_at_least c.table-item.is c.min.ensures e),
)
