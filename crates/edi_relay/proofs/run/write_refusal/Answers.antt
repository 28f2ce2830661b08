use Rattle.std.proofs.Common.{◌≡◌, ℕ, List, ◌++◌, ◌∙◌, subst}
use Rattle.std.specs.Prelude.{codes}
use Rattle.std.specs.Io.KnownBytes.{Appends}
use Rattle.std.proofs.KnownBytes.{Appends-trans}
use Rattle.std.proofs.lemmas.Result.{on_ok_weaker, on_err_weaker}
use Rattle.edi_base.specs.Buffer.{AppendsFront}
use Rattle.edi_relay.specs.Relay.{code_of}
use Rattle.edi_relay.proofs.Lines.{on_err, front_of_first, front_of_second}
use Rattle.edi_relay.proofs.run.write_refusal.Goals as goal

pub returns-in_err-write_bytes-clause-err : goal.returns-in_err-write_bytes-clause-err
returns-in_err-write_bytes-clause-err g c =
    on_err c.from_residual.result
    (front_of_first (g.E.Sink.contents c.args.err.now) (g.E.Sink.contents c.write_bytes.new.out) (codes "refused ")
    (code_of c.args.fault ++ codes "\n") c.in_err-write_bytes.ensures.err)

pub returns-in_err-write_bytes-2-clause-err : goal.returns-in_err-write_bytes-2-clause-err
returns-in_err-write_bytes-2-clause-err g c =
    let code : c.as_bytes.result.now ≡ code_of c.args.fault = c.as_bytes.ensures.value ∙ c.code.ensures in
    let middle = subst (λ (t : List ℕ).
    AppendsFront (g.E.Sink.contents c.write_bytes.new.out) (g.E.Sink.contents c.write_bytes-2.new.out) t)
    code c.in_err-write_bytes-2.ensures.err in
    on_err c.from_residual-in_err-write_bytes-2.result
    (front_of_second (g.E.Sink.contents c.args.err.now) (g.E.Sink.contents c.write_bytes.new.out)
    (g.E.Sink.contents c.write_bytes-2.new.out) (codes "refused ") (code_of c.args.fault ++ codes "\n")
    c.in_ok-write_bytes.ensures.ok
    (front_of_first (g.E.Sink.contents c.write_bytes.new.out) (g.E.Sink.contents c.write_bytes-2.new.out)
    (code_of c.args.fault) (codes "\n") middle))

pub returns-clause-err : goal.returns-clause-err
returns-clause-err g c =
    let start = g.E.Sink.contents c.args.err.now in
    let first = g.E.Sink.contents c.write_bytes.new.out in
    let second = g.E.Sink.contents c.write_bytes-2.new.out in
    let third = g.E.Sink.contents c.write_bytes-3.new.out in
    let code : c.as_bytes.result.now ≡ code_of c.args.fault = c.as_bytes.ensures.value ∙ c.code.ensures in
    let middle = subst (λ (t : List ℕ). Appends first second t) code c.in_ok-write_bytes-2.ensures.ok in
    on_err_weaker c.write_bytes-3.result
    (λ front. front_of_second start first third (codes "refused ") (code_of c.args.fault ++ codes "\n") c.in_ok-write_bytes.ensures.ok
    (front_of_second first second third (code_of c.args.fault) (codes "\n") middle front))
    c.write_bytes-3.ensures.err

pub returns-clause-ok : goal.returns-clause-ok
returns-clause-ok g c =
    let start = g.E.Sink.contents c.args.err.now in
    let first = g.E.Sink.contents c.write_bytes.new.out in
    let second = g.E.Sink.contents c.write_bytes-2.new.out in
    let third = g.E.Sink.contents c.write_bytes-3.new.out in
    let code : c.as_bytes.result.now ≡ code_of c.args.fault = c.as_bytes.ensures.value ∙ c.code.ensures in
    let middle = subst (λ (t : List ℕ). Appends first second t) code c.in_ok-write_bytes-2.ensures.ok in
    on_ok_weaker c.write_bytes-3.result
    (λ last. Appends-trans start first third (codes "refused ") (code_of c.args.fault ++ codes "\n") c.in_ok-write_bytes.ensures.ok
    (Appends-trans first second third (code_of c.args.fault) (codes "\n") middle last))
    c.write_bytes-3.ensures.ok
