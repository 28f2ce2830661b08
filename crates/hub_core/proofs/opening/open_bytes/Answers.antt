use Rattle.std.proofs.lemmas.Result.{err_from_is_err_and}
use Rattle.hub_core.proofs.Openings.{token_fault, envelope_fault, opened_well}
use Rattle.hub_core.proofs.opening.open_bytes.Goals as goal

pub returns-in_err-tokens : goal.returns-in_err-tokens
returns-in_err-tokens c =
    let p = err_from_is_err_and c.from_residual.result c.from_residual.ensures.1 in
    rw (p.1, p.2) (λ has. token_fault c.args.bytes.now _ has c.in_err-tokens.ensures.exact)

pub returns-in_err-interchange : goal.returns-in_err-interchange
returns-in_err-interchange c =
    let p = err_from_is_err_and c.from_residual-in_err-interchange.result c.from_residual-in_err-interchange.ensures.1 in
    rw (p.1, p.2) (λ has.
    envelope_fault c.args.bytes.now c.in_ok-tokens.tokens _ c.in_ok-tokens.ensures.exact has c.in_err-interchange.ensures.fault)

pub returns : goal.returns
returns c = λ has.
    opened_well c.args.bytes.now c.in_ok-tokens.tokens c.in_ok-interchange.interchange c.in_ok-tokens.ensures.exact
    c.in_ok-interchange.ensures.interchange
