use Rattle.std.proofs.Common.{List, length, slice_get, sym, ap, ◌∙◌}
use Rattle.hub_tables.specs.Tables.{Tables, view}
use Rattle.hub_law.specs.Machine.{replies_to, shared_run}
use Rattle.hub_requests.specs.declared.reply.Reply.{Reply}
use Rattle.hub_core.proofs.laws.hubs_isolate_suppliers.Goals as goal

pub returns-clause-seen : goal.returns-clause-seen
returns-clause-seen c gln one other agree =
    sym (ap (λ (r : List Reply × Tables). view gln r.1) one.ran.is)
    ∙ c.runs_alike.ensures.seen gln one.start other.start one.ran.marked other.ran.marked agree
    ∙ ap (λ (r : List Reply × Tables). view gln r.1) other.ran.is

pub returns-clause-told : goal.returns-clause-told
returns-clause-told c gln one other agree =
    sym (ap (λ (r : List Reply × Tables). replies_to gln one.ran.marked r.0) one.ran.is)
    ∙ c.runs_alike.ensures.told gln one.start other.start one.ran.marked other.ran.marked agree
    ∙ ap (λ (r : List Reply × Tables). replies_to gln other.ran.marked r.0) other.ran.is

pub returns-clause-status : goal.returns-clause-status
returns-clause-status c gln one other x y agree =
    sym (ap (λ (r : List Reply × Tables). slice_get r.0 (length x.before)) one.ran.is)
    ∙ ap (λ xs. slice_get (shared_run one.start xs).0 (length x.before)) x.are
    ∙ c.runs_alike.ensures.status gln one.start other.start x.before x.later y.before y.later x.input y.input agree
    ∙ sym (ap (λ ys. slice_get (shared_run other.start ys).0 (length y.before)) y.are)
    ∙ ap (λ (r : List Reply × Tables). slice_get r.0 (length y.before)) other.ran.is
