use Rattle.std.proofs.Common.{subst}
use Rattle.hub_tables.specs.Sets.{Has}
use Rattle.hub_tables.specs.Tables.{Tables}
use Rattle.hub_law.specs.Told.{Accepted}
use Rattle.hub_core.specs.Laws.{remembered_row}
use Rattle.hub_core.proofs.Again.{tells}
use Rattle.hub_core.proofs.laws.steps_remember_accepted_messages.Goals as goal

pub returns-clause-told : goal.returns-clause-told
returns-clause-told c t input mark place message one =
    let upload = one.comes.upload in
    tells t input upload place Accepted one.accepted mark
    (c.stops_cut_uploads.ensures.whole t input upload one.comes.looked_at)
    (λ k below. c.stops_cut_uploads.ensures.behind t input k upload one.comes.looked_at below) one.reached

pub returns-clause-remembered : goal.returns-clause-remembered
returns-clause-remembered c t u first =
    subst (λ (u : Tables). Has u.remembered (remembered_row first)) first.leads
    (c.accepted_stays_remembered.ensures.message t first.before first.between first.input first.mark first.place first.message
    first.accepted)
