use Rattle.std.proofs.Common.{ℕ, List, Vec, Global}
use Rattle.std.proofs.lemmas.Result.{err_from_is_err_and}
use Rattle.edi_relay.proofs.Taken.{out_of_memory, cut_short, read_away, read_failed}
use Rattle.edi_relay.proofs.run.relay_input.Goals as goal

abbrev view : Vec ℕ Global → List ℕ
view out = out.items

pub returns-in_err-lender : goal.returns-in_err-lender
returns-in_err-lender g c =
    let p = err_from_is_err_and c.from_residual.result c.from_residual.ensures.1 in
    rw (p.1, p.2) (out_of_memory view c.args.words.now (g.R.Source.remaining c.args.input.now) (g.R.Source.failed c.args.input.now))

pub returns-then-failed : goal.returns-then-failed
returns-then-failed g c =
    let told = c.relay_lent-relayed.ensures in
    let new = c.in_ok-lender.ensures in
    cut_short view c.args.words.now (g.R.Source.remaining c.args.input.now) (g.R.Source.failed c.args.input.now) c.in_ok-lender.lender
    c.relay_lent-relayed.new.lender new.begun (λ k. new.fed k) _ _ c.relay_lent-relayed.result told.relayed told.flag told.bound told.ends
    (c.is_failed_read-failed.ensures c.if-failed.true)

pub returns-in-Ok : goal.returns-in-Ok
returns-in-Ok g c =
    let told = c.relay_lent-relayed.ensures in
    let new = c.in_ok-lender.ensures in
    read_away view c.args.words.now (g.R.Source.remaining c.args.input.now) (g.R.Source.failed c.args.input.now) c.in_ok-lender.lender
    c.relay_lent-relayed.new.lender new.begun (λ k. new.fed k) _ _ c.relay_lent-relayed.result told.relayed told.flag told.bound told.ends
    _ _ c.in-Ok.field-0 c.in-Ok.ensures.away c.in-Ok.ensures.kept

pub returns-in-Err : goal.returns-in-Err
returns-in-Err g c =
    let told = c.relay_lent-relayed.ensures in
    let new = c.in_ok-lender.ensures in
    read_failed view c.args.words.now (g.R.Source.remaining c.args.input.now) (g.R.Source.failed c.args.input.now) c.in_ok-lender.lender
    c.relay_lent-relayed.new.lender new.begun (λ k. new.fed k) _ _ c.relay_lent-relayed.result told.relayed told.flag told.bound told.ends
    _ _ c.in-Err.ensures.away c.in-Err.ensures.failed
