use Rattle.std.proofs.Common.{◌≡◌, ◌++◌, ap, ◌∙◌, arith}
use Rattle.std.proofs.lemmas.Grind.{common_steps}
use Rattle.hub_transactions.proofs.messages.commit_and_report.Goals as goal

pub returns-clause-reply : goal.returns-clause-reply
returns-clause-reply g c =
    let before = c.args.reply.now.items in
    let written : c.extend_from_slice.new.self.items ≡ before ++ c.in_ok-line.line.items = grind (arith, common_steps) in
    record {
      line = written ∙ ap (λ xs. before ++ xs) c.in_ok-line.ensures;
      stays = tt;
      room = λ was. grind (arith, common_steps);
    }
