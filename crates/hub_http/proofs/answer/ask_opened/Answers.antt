use Rattle.hub_http.proofs.answer.ask_opened.Goals as goal

pub returns-clause-asked : goal.returns-clause-asked
returns-clause-asked g c bytes opens =
    (c.step_opened-reply.result, c.step_opened-reply.ensures.stepped bytes opens, c.reply_answer.ensures)

pub returns-clause-stays : goal.returns-clause-stays
returns-clause-stays g c bytes opens =
    let reply = c.step_opened-reply.ensures in record {
      held = reply.held;
      register = reply.register;
      was_honest = reply.was_honest;
    }
