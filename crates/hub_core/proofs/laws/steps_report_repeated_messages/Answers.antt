use Rattle.std.proofs.Common.{◌≡◌, ◌+◌, subst}
use Rattle.hub_tables.specs.Tables.{Tables}
use Rattle.hub_law.specs.Again.{AsksCancel, MessageAt, SameReference, tables_before}
use Rattle.hub_law.specs.Machine.{shared_step}
use Rattle.hub_law.specs.Mark.{Whole}
use Rattle.hub_law.specs.Replies.{act_reply}
use Rattle.hub_law.specs.Told.{Repeated}
use Rattle.hub_core.proofs.Again.{repeated_on, tells}
use Rattle.hub_core.proofs.laws.steps_report_repeated_messages.Goals as goal

pub returns-clause-told : goal.returns-clause-told
returns-clause-told c t u again mark reached =
    let first = again.first in
    let upload = again.comes.upload in
    tells u again.input upload again.place Repeated
    (repeated_on t u again
    (c.repeated_in_runs.ensures.message t first.before first.between first.input again.input first.mark first.place again.place
    first.message first.accepted)) mark
    (c.stops_cut_uploads.ensures.whole u again.input upload again.comes.looked_at)
    (λ k below. c.stops_cut_uploads.ensures.behind u again.input k upload again.comes.looked_at below) reached

pub returns-clause-stays : goal.returns-clause-stays
returns-clause-stays c t u again =
    let first = again.first in
    subst (λ (u : Tables). (comes : MessageAt u again.input again.place first.message)
    → SameReference first.input again.input first.accepted.comes.upload comes.upload
    → tables_before u again.input comes.upload (again.place + 1) ≡ tables_before u again.input comes.upload again.place) first.leads
    (c.repeated_in_runs.ensures.stays t first.before first.between first.input again.input first.mark first.place again.place
    first.message first.accepted) again.comes again.same

pub returns-clause-cancellation : goal.returns-clause-cancellation
returns-clause-cancellation c t u cancel second first =
    subst (λ (u : Tables). AsksCancel u cancel second → shared_step u second Whole ≡ (act_reply Repeated, u)) first.leads
    (λ asks. c.repeated_in_runs.ensures.cancellation t first.before first.between first.input second cancel first.sound first.asks asks
    first.accepted)
