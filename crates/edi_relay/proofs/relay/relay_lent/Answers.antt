use Rattle.std.proofs.Common.{ℕ, List, Vec, Global}
use Rattle.std.proofs.lemmas.Result.{err_from_is_err_and}
use Rattle.edi_relay.proofs.ReadOn.{fault_relays, envelope_relays, mails_relay}
use Rattle.edi_relay.proofs.relay.relay_lent.Goals as goal

abbrev view : Vec ℕ Global → List ℕ
view out = out.items

pub returns-in_err-relaying-clause-relayed : goal.returns-in_err-relaying-clause-relayed
returns-in_err-relaying-clause-relayed g c = λ all fed.
    let p = err_from_is_err_and c.from_residual.result c.from_residual.ensures.1 in
    rw (p.1, p.2)
    (fault_relays c.args.words.now (g.R.Source.remaining c.args.reader.now) c.args.lender.now c.read.new.lender _ view
    c.in_err-relaying.ensures.told all fed)

pub returns-in_err-out-clause-relayed : goal.returns-in_err-out-clause-relayed
returns-in_err-out-clause-relayed g c = λ all fed.
    let p = err_from_is_err_and c.from_residual-in_err-out.result c.from_residual-in_err-out.ensures.1 in
    let read = c.in_ok-relaying.ensures.told in
    let spelled = read.2 all fed in
    rw (p.1, p.2)
    (envelope_relays c.args.words.now all _ _ view spelled (c.in_err-out.ensures c.args.words.now _ (read.1 all _ fed spelled)))

pub returns-clause-relayed : goal.returns-clause-relayed
returns-clause-relayed g c = λ all fed.
    let read = c.in_ok-relaying.ensures.told in
    let spelled = read.2 all fed in
    mails_relay c.args.words.now all _ c.in_ok-out.out.items spelled
    (c.in_ok-out.ensures c.args.words.now _ (read.1 all _ fed spelled))
