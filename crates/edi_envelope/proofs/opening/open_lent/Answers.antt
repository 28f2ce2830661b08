use Rattle.std.proofs.Common.{None, refl, sym}
use Rattle.std.proofs.lemmas.Result.{err_from_is_err_and}
use Rattle.edi_segments.specs.declared.segment.Tokens.{Tokens}
use Rattle.edi_envelope.proofs.LawLemmas.{few_messages}
use Rattle.edi_envelope.proofs.ReadLemmas.{fault_opens, fault_opens_some, envelope_opens, interchange_opens}
use Rattle.edi_envelope.proofs.opening.open_lent.Goals as goal

pub returns-in_err-opening-clause-interchange : goal.returns-in_err-opening-clause-interchange
returns-in_err-opening-clause-interchange g c = λ all fed.
    let p = err_from_is_err_and c.from_residual.result c.from_residual.ensures.1 in
    rw (p.1, p.2)
    (fault_opens (g.R.Source.remaining c.args.reader.now) c.args.lender.now c.read.new.lender _ c.in_err-opening.ensures.told all fed)

pub returns-in_err-interchange-clause-interchange : goal.returns-in_err-interchange-clause-interchange
returns-in_err-interchange-clause-interchange g c = λ all fed.
    let p = err_from_is_err_and c.from_residual-in_err-interchange.result c.from_residual-in_err-interchange.ensures.1 in
    let read = c.in_ok-opening.ensures.told in
    rw (p.1, p.2) (envelope_opens all _ _ (read.2 all fed) (c.in_err-interchange.ensures _ read.1 (sym c.decimal.ensures)))

pub returns-clause-interchange : goal.returns-clause-interchange
returns-clause-interchange g c = λ all fed.
    let read = c.in_ok-opening.ensures.told in
    interchange_opens all _ c.in_ok-interchange.interchange (read.2 all fed) (c.in_ok-interchange.ensures _ read.1 (sym c.decimal.ensures))

pub returns-clause-few : goal.returns-clause-few
returns-clause-few g c =
    let read = c.in_ok-opening.ensures.told in
    let tokens : Tokens = record {
      service = record { component = 0; element = 0; decimal = c.decimal.result; release = None; terminator = 0 };
      segments = read.0;
    } in
    few_messages tokens c.in_ok-interchange.interchange (c.in_ok-interchange.ensures tokens read.1 refl)

pub returns-in_err-opening-clause-some : goal.returns-in_err-opening-clause-some
returns-in_err-opening-clause-some g c = λ came.
    let p = err_from_is_err_and c.from_residual.result c.from_residual.ensures.1 in
    rw (p.1, p.2) (fault_opens_some c.args.lender.now c.read.new.lender _ c.in_err-opening.ensures.some came)

pub returns-in_err-interchange-clause-some : goal.returns-in_err-interchange-clause-some
returns-in_err-interchange-clause-some g c = λ came.
    let p = err_from_is_err_and c.from_residual-in_err-interchange.result c.from_residual-in_err-interchange.ensures.1 in
    let read = c.in_ok-opening.ensures.some came in
    rw (p.1, p.2) (read.2.0, envelope_opens read.2.0 _ _ read.2.1 (c.in_err-interchange.ensures _ read.1 (sym c.decimal.ensures)))

pub returns-clause-some : goal.returns-clause-some
returns-clause-some g c = λ came.
    let read = c.in_ok-opening.ensures.some came in (
      read.2.0,
      interchange_opens read.2.0 _ c.in_ok-interchange.interchange read.2.1
          (c.in_ok-interchange.ensures _ read.1 (sym c.decimal.ensures)),
    )
