use Rattle.hub_judges.proofs.party.party_fault.Goals as goal

pub returns-in-Ok-clause-none : goal.returns-in-Ok-clause-none
returns-in-Ok-clause-none c = (c.in-Ok.field-0.now, c.in-Ok.ensures.ok)
