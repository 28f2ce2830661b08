use Rattle.hub_sql.proofs.Committing.{made, made_settles}
use Rattle.hub_sql.proofs.calls.SqliteStoreStore.commit.Goals as goal

pub invariant_of-self : goal.invariant_of-self
invariant_of-self g c =
    made_settles c.self.invariant c.in-Ok.ensures c.and-self-inside.ensures c.lower_marks.ensures.lowers c.lower_marks.ensures.few

pub returns-in-Ok-clause-commits : goal.returns-in-Ok-clause-commits
returns-in-Ok-clause-commits g c =
    rw (← c.self.view_is) (made c.self.invariant c.in-Ok.ensures c.and-self-inside.ensures)
