use Rattle.std.proofs.Common.{◌<◌, Ok, ap, ◌∙◌, arith}
use Rattle.hub_http.proofs.Uploads.{cut_read, exactly_read, opens_some, read_at_most, whole_read}
use Rattle.hub_http.proofs.upload.open_body.Goals as goal

pub returns-then-missing-eq0-clause-body : goal.returns-then-missing-eq0-clause-body
returns-then-missing-eq0-clause-body g c =
    whole_read _ _ _ c.in-Ok.lender c.open_lent-upload.new.lender c.args.size c.args.front.now
    c.skip_rest.result c.in-Ok.ensures.begun c.open_lent-upload.ensures.bound
    c.skip_rest.ensures.away c.open_lent-upload.result (c.in-Ok-skip_rest.is ∙ ap (λ n. Ok n) c.if-missing-eq0.true)
    c.open_lent-upload.ensures.interchange c.in-Ok.ensures.fed

pub returns-then-missing-eq0-clause-some : goal.returns-then-missing-eq0-clause-some
returns-then-missing-eq0-clause-some g c =
    opens_some c.args.size c.args.front.now c.in-Ok.lender c.open_lent-upload.result c.in-Ok.ensures.fed c.open_lent-upload.ensures.some

pub returns-then-missing-eq0-clause-whole : goal.returns-then-missing-eq0-clause-whole
returns-then-missing-eq0-clause-whole g c =
    exactly_read _ _ _ c.in-Ok.lender c.open_lent-upload.new.lender c.args.size c.args.front.now
    c.skip_rest.result c.in-Ok.ensures.begun c.open_lent-upload.ensures.bound
    c.skip_rest.ensures.away (c.in-Ok-skip_rest.is ∙ ap (λ n. Ok n) c.if-missing-eq0.true)

pub returns-then-missing-eq0-clause-front : goal.returns-then-missing-eq0-clause-front
returns-then-missing-eq0-clause-front g c =
    read_at_most _ _ _ c.in-Ok.lender c.open_lent-upload.new.lender c.args.size c.args.front.now
    c.skip_rest.result c.in-Ok.ensures.begun c.open_lent-upload.ensures.bound c.skip_rest.ensures.away

pub returns-clause-body : goal.returns-clause-body
returns-clause-body g c =
    let some : 0 < c.in-Ok-skip_rest.missing = omega (arith, c.if-missing-eq0.false) in
    cut_read _ _ _ c.in-Ok.lender c.open_lent-upload.new.lender c.args.size c.args.front.now
    c.skip_rest.result c.in-Ok.ensures.begun c.open_lent-upload.ensures.bound
    c.skip_rest.ensures.away _ c.in-Ok-skip_rest.is some c.open_lent-upload.ensures.ends

pub returns-clause-front : goal.returns-clause-front
returns-clause-front g c =
    read_at_most _ _ _ c.in-Ok.lender c.open_lent-upload.new.lender c.args.size c.args.front.now
    c.skip_rest.result c.in-Ok.ensures.begun c.open_lent-upload.ensures.bound c.skip_rest.ensures.away

pub returns-in_default-skip_rest-clause-front : goal.returns-in_default-skip_rest-clause-front
returns-in_default-skip_rest-clause-front g c =
    read_at_most _ _ _ c.in-Ok.lender c.open_lent-upload.new.lender c.args.size c.args.front.now
    c.skip_rest.result c.in-Ok.ensures.begun c.open_lent-upload.ensures.bound c.skip_rest.ensures.away
