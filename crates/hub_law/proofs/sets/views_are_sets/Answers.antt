use Rattle.hub_law.proofs.Agreeing.{views_under, under_rises, sound_under}
use Rattle.hub_law.proofs.sets.views_are_sets.Goals as goal

pub returns-clause-views : goal.returns-clause-views
returns-clause-views c = views_under

pub returns-clause-rise : goal.returns-clause-rise
returns-clause-rise c = under_rises

pub returns-clause-held : goal.returns-clause-held
returns-clause-held c = sound_under
