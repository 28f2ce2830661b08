use Rattle.hub_http.proofs.answer.ask.Goals as goal

pub returns-clause-stays : goal.returns-clause-stays
returns-clause-stays g c =
    let reply = c.step-reply.ensures in record {
      held = reply.held;
      register = reply.register c.requires;
      was_honest = reply.was_honest;
    }
