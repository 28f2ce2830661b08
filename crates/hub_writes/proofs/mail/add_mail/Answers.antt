use Rattle.std.proofs.Common.{arith, ◌≡◌, subst}
use Rattle.std.proofs.lemmas.Bool.Decides.{nat_tests}
use Rattle.sqlite.specs.Values.{bound}
use Rattle.hub_writes.proofs.Entries.{add_mail, cells, adds_mail}
use Rattle.hub_writes.proofs.Outcomes.{executed, insert_acts}
use Rattle.hub_writes.proofs.Steps.{entry_is_great, refused_before}
use Rattle.hub_writes.proofs.mail.add_mail.Goals as goal
use Rattle.hub_writes.specs.Mail.{IsLowMail}

pub returns-in_default-clause-acts : goal.returns-in_default-clause-acts
returns-in_default-clause-acts g c =
    refused_before _ _ (λ t _. entry_is_great c.args.row.now (grind (arith, nat_tests, c.in_default.ensures.none)) t)

pub returns-clause-acts : goal.returns-clause-acts
returns-clause-acts g c =
    let row = c.args.row.now in
    let did = executed g.S.Store add_mail (cells row) _ _ _ c.execute.result c.execute.ensures.ended
    c.execute.ensures.runs c.execute.ensures.survives
    (subst (λ n. bound c.cells.result ≡ cells (record row { number = n })) c.in-Some.ensures.some c.cells.ensures.cells) in
    insert_acts g.S.Store _ _ _ _ c.execute.result did _
    (adds_mail row (subst (λ n. IsLowMail (record row { number = n })) c.in-Some.ensures.some c.cells.ensures.low)) c.insert_ended.result
    c.insert_ended.ensures
