use Rattle.hub_law.proofs.JoinsApart.{another_joins, refused_join, stopped_join, seen_without, told_without}
use Rattle.hub_law.proofs.laws.joins_are_apart.Goals as goal

pub returns-clause-others : goal.returns-clause-others
returns-clause-others c = another_joins

pub returns-clause-refused : goal.returns-clause-refused
returns-clause-refused c = refused_join

pub returns-clause-stopped : goal.returns-clause-stopped
returns-clause-stopped c = stopped_join

pub returns-clause-seen : goal.returns-clause-seen
returns-clause-seen c = seen_without

pub returns-clause-told : goal.returns-clause-told
returns-clause-told c = told_without
