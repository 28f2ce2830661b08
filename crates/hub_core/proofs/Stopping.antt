-- Proves that an input that is stopped before anything was done does nothing.
use Rattle.std.proofs.Common.{◌≡◌, [], inl, refl, ap}
use Rattle.hub_parties.specs.Rows.{RegisterRows}
use Rattle.hub_store.specs.declared.store.Store.{Ghosts}
use Rattle.hub_law.specs.Replies.{reply}
use Rattle.hub_requests.specs.declared.reply.Outcome.TheVariants.{Stopped}
use Rattle.hub_requests.specs.declared.reply.Reply.{Reply}
use Rattle.hub_requests.specs.declared.request.Input.{Input}
use Rattle.hub_transactions.proofs.Joins.{keeps_all}
use Rattle.hub_core.specs.Broken.{does_input}
use Rattle.hub_core.specs.Hub.{AnswersInput}
use Rattle.hub_core.specs.Laws.{OfTheMachine}
use Rattle.hub_core.proofs.Breaking.{stopped_by, where_some}
use Rattle.hub_core.proofs.Keeping.{join_stopped}
use Rattle.hub_core.proofs.Steps.{unanswered}

pub stopped_at_once : {S : Type 0} (laws : OfTheMachine) (g : Ghosts S) (hub : RegisterRows × S) (input : Input) (given : Reply)
    → given ≡ reply Stopped []
    → AnswersInput g hub hub input given
stopped_at_once laws g hub input given says = record {
  stepped = λ honest here. unanswered laws g hub.1 input given says here.sound;
  held = λ honest here. here;
  clean = λ honest here clean within. clean;
  breaks =
      stopped_by g.plain (does_input hub.0 input) (g.broken hub.1) (g.broken hub.1) given (inl refl, λ p. refl)
      (ap (λ (r : Reply). r.outcome) says);
  joined = λ row is. join_stopped row hub.0 (does_input hub.0 input) given hub.0 [] says refl;
  keeps = keeps_all hub.0 hub.0 refl;
  register = λ other. refl;
  broken = where_some (g.broken hub.1) refl;
  was_honest = λ honest. honest;
}
