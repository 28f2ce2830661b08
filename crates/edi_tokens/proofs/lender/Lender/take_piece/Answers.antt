use Rattle.std.proofs.lemmas.Result.{err_from_is_err_and}
use Rattle.std.proofs.Common.{[], Ok}
use Rattle.edi_segments.specs.Machine.{reading_of}
use Rattle.edi_tokens.proofs.Lent.{run_text}
use Rattle.edi_tokens.proofs.Lending.{took, took_fault, took_some}
use Rattle.edi_tokens.proofs.lender.Lender.take_piece.Goals as goal

pub returns-in_err-count-clause-told : goal.returns-in_err-count-clause-told
returns-in_err-count-clause-told c = λ known all lent fed.
    let p = err_from_is_err_and c.from_residual.result c.from_residual.ensures.1 in
    rw (p.1, p.2) (took_fault known all lent c.args.self.now fed c.in_err-count.field-0.0
    (rw c.as_slice.ensures at c.in_err-count.ensures.err))

pub returns-in_err-count-clause-text : goal.returns-in_err-count-clause-text
returns-in_err-count-clause-text c =
    let p = err_from_is_err_and c.from_residual.result c.from_residual.ensures.1 in
    rw (p.1, p.2)
    (run_text (reading_of [] c.args.self.now.machine) c.as_slice.result.now c.in_err-count.field-0.0 c.in_err-count.ensures.err)

pub returns-clause-told : goal.returns-clause-told
returns-clause-told c = λ known all lent fed.
    took known all lent c.args.self.now fed c.push_all.new.self c.skip.new.self c.in_ok-count.count c.in_ok-count.ended
    (rw c.as_slice.ensures at c.in_ok-count.ensures.within) c.skip.ensures (rw c.as_slice.ensures at c.in_ok-count.ensures.ok)

pub returns-in_err-count-clause-some : goal.returns-in_err-count-clause-some
returns-in_err-count-clause-some c = λ lent came.
    let p = err_from_is_err_and c.from_residual.result c.from_residual.ensures.1 in
    rw (p.1, p.2) (λ _. (
      came.all,
      took_fault came.known came.all lent c.args.self.now came.fed c.in_err-count.field-0.0
          (rw c.as_slice.ensures at c.in_err-count.ensures.err),
    ))

pub returns-clause-some : goal.returns-clause-some
returns-clause-some c = λ lent came.
    took_some lent c.args.self.now came (Ok c.in_ok-count.ended) _ (λ known all lent fed.
    took known all lent c.args.self.now fed c.push_all.new.self c.skip.new.self c.in_ok-count.count c.in_ok-count.ended
    (rw c.as_slice.ensures at c.in_ok-count.ensures.within) c.skip.ensures (rw c.as_slice.ensures at c.in_ok-count.ensures.ok))
