use Rattle.std.proofs.Common.{Option, Some, sym, ap, subst, ◌∙◌}
use Rattle.std.specs.Option.{unwrap_or}
use Rattle.hub_tables.specs.Tables.{Tables}
use Rattle.hub_law.specs.Again.{AsksCancel}
use Rattle.hub_law.specs.Machine.{shared_step}
use Rattle.hub_law.specs.Mark.{Whole}
use Rattle.hub_law.specs.Told.{Repeated}
use Rattle.hub_requests.specs.declared.reply.Reply.{Reply}
use Rattle.hub_core.specs.Laws.{ReportsResult, inputs_around, inputs_to}
use Rattle.hub_core.proofs.Again.{repeated_on, reply_of_run, tells}
use Rattle.hub_core.proofs.laws.hubs_report_repeated_messages.Goals as goal

pub returns-clause-message : goal.returns-clause-message
returns-clause-message c run x reply there =
    let again = x.again in
    let first = again.first in
    let upload = again.comes.upload in
    let at = reply_of_run run.start run.after run.ran.marked (inputs_to first) x.later again.input x.mark run.replies run.ran.is x.are in
    let here = ap (λ (t : Tables). Some (shared_step t again.input x.mark).0) first.leads in
    let is = ap (λ (given : Option Reply). unwrap_or given reply) (sym here ∙ sym at ∙ there) in
    subst (λ (reply : Reply). ReportsResult upload.interchange again.place Repeated reply) is
    (tells x.here again.input upload again.place Repeated
    (repeated_on run.start x.here again
    (c.repeated_in_runs.ensures.message run.start first.before first.between first.input again.input first.mark first.place
    again.place first.message first.accepted)) x.mark
    (c.stops_cut_uploads.ensures.whole x.here again.input upload again.comes.looked_at)
    (λ k below. c.stops_cut_uploads.ensures.behind x.here again.input k upload again.comes.looked_at below) x.reached)

pub returns-clause-cancellation : goal.returns-clause-cancellation
returns-clause-cancellation c run cancel again =
    let first = again.first in
    reply_of_run run.start run.after run.ran.marked (inputs_around first) again.later again.second Whole run.replies run.ran.is again.are
    ∙ ap (λ (r : Reply × Tables). Some r.0)
    (c.repeated_in_runs.ensures.cancellation run.start first.before first.between first.input again.second cancel first.sound first.asks
    (subst (λ (t : Tables). AsksCancel t cancel again.second) (sym first.leads) again.asks) first.accepted)
