use Rattle.std.proofs.Common.{◌++◌, ap, ◌∙◌}
use Rattle.std.proofs.lemmas.List.{nil_from_length}
use Rattle.edi_base.specs.Buffer.{WritesSome}
use Rattle.edi_tokens.specs.Text.{component_text}
use Rattle.edi_tokens.proofs.Canonical.{component_text-plain, component_text-released}
use Rattle.edi_base.proofs.Going.{goes_put, goes_cut, goes_as, puts_cut}
use Rattle.edi_tokens.proofs.text.put_component.Given as given
use Rattle.edi_tokens.proofs.text.put_component.Goals as goal
use Rattle.edi_tokens.proofs.text.put_component.Goals.{After-split_at}

-- plain bytes are next
plain_next : (g : given.Over) (c : After-split_at g)
    → WritesSome (g.W.Sink.contents c.args.out.now) (g.W.Sink.contents c.loop-byte.out) c.args.buffer.now c.loop-byte.buffer
    (c.split_at.result.0.now ++ component_text c.split_at.result.1.now) (component_text c.args.component.now)
plain_next g c =
    goes_as _ _
    (component_text-plain c.loop-byte.rest.now c.split_at.result.0.now c.split_at.result.1.now c.plain_len.result
    c.split_at.ensures.by_index.0 c.split_at.ensures.front c.plain_len.ensures.plain) c.loop-byte.invariant.bytes

pub returns-in_err-put-clause-bytes : goal.returns-in_err-put-clause-bytes
returns-in_err-put-clause-bytes g c =
    puts_cut c.from_residual.result c.put.new.self c.from_residual.ensures.0
    (goes_cut (component_text c.split_at.result.1.now)
    (plain_next g (goal.at.returns-in_err-put-clause-bytes g c).After-split_at) c.in_err-put.ensures.bytes)

pub returns-in_default-clause-bytes : goal.returns-in_default-clause-bytes
returns-in_default-clause-bytes g c =
    goes_as _ _ (ap component_text (nil_from_length c.split_at.result.1.now c.in_default.ensures.cases))
    (goes_put (plain_next g (goal.at.returns-in_default-clause-bytes g c).After-split_at) c.in_ok-put.ensures.bytes)

pub returns-in_err-put-2-clause-bytes : goal.returns-in_err-put-2-clause-bytes
returns-in_err-put-2-clause-bytes g c =
    let released = component_text-released c.loop-byte.rest.now c.split_at.result.1.now c.in-Some.after.now
    c.plain_len.result c.in-Some.byte.now c.split_at.ensures.back c.in-Some.ensures.cases.0
    c.plain_len.ensures.stop in
    let so_far = goes_put (plain_next g (goal.at.returns-in_err-put-2-clause-bytes g c).After-split_at) c.in_ok-put.ensures.bytes in
    puts_cut c.from_residual-in_err-put-2.result c.put-in-loop-byte.new.self c.from_residual-in_err-put-2.ensures.0
    (goes_cut (component_text c.in-Some.after.now) (goes_as _ _ released so_far) c.in_err-put-2.ensures.bytes)

pub loop-byte-preserved : goal.loop-byte-preserved
loop-byte-preserved g c =
    let released = component_text-released c.loop-byte.rest.now c.split_at.result.1.now c.in-Some.after.now
    c.plain_len.result c.in-Some.byte.now c.split_at.ensures.back c.in-Some.ensures.cases.0
    c.plain_len.ensures.stop in
    let so_far = goes_put (plain_next g (goal.at.loop-byte-preserved g c).After-split_at) c.in_ok-put.ensures.bytes in
    record {
      bytes = goes_put (goes_as _ _ released so_far) c.in_ok-put-2.ensures.bytes;
      flag = c.in_ok-put-2.ensures.flag ∙ c.in_ok-put.ensures.flag ∙ c.loop-byte.invariant.flag;
    }
