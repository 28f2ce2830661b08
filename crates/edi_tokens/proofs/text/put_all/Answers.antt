use Rattle.std.proofs.Common.{[], ◌++◌, sym, rules}
use Rattle.std.proofs.lemmas.List.{append-nil}
use Rattle.edi_base.specs.Buffer.{WritesSome}
use Rattle.edi_tokens.specs.Text.{text}
use Rattle.edi_base.proofs.Going.{goes_none, goes_put, goes_cut, goes_as, puts_cut, puts_last}
use Rattle.edi_tokens.proofs.text.put_all.Given as given
use Rattle.edi_tokens.proofs.text.put_all.Goals as goal
use Rattle.edi_tokens.proofs.text.put_all.Goals.{After-put_text}

pub returns-in_err-put-clause-bytes : goal.returns-in_err-put-clause-bytes
returns-in_err-put-clause-bytes g c =
    puts_cut c.from_residual.result [] c.from_residual.ensures.0
    (goes_cut (text c.args.segments.now)
    (goes_none (g.W.Sink.contents c.args.out.now) [] (c.args.front.now ++ text c.args.segments.now))
    (rw c.new-buffer.ensures at c.in_err-put.ensures.bytes))

-- the text is next, and nothing after it
text_next : (g : given.Over) (c : After-put_text g)
    → WritesSome (g.W.Sink.contents c.args.out.now) (g.W.Sink.contents c.put.new.out) [] c.put.new.self
    (text c.args.segments.now ++ []) (c.args.front.now ++ text c.args.segments.now)
text_next g c =
    goes_as _ _ (sym (append-nil (text c.args.segments.now)))
    (goes_put (goes_none (g.W.Sink.contents c.args.out.now) [] (c.args.front.now ++ text c.args.segments.now))
    (rw c.new-buffer.ensures at c.in_ok-put.ensures.bytes))

pub returns-in_err-put_text-clause-bytes : goal.returns-in_err-put_text-clause-bytes
returns-in_err-put_text-clause-bytes g c =
    puts_cut c.from_residual-in_err-put_text.result [] c.from_residual-in_err-put_text.ensures.0
    (goes_cut [] (text_next g (goal.at.returns-in_err-put_text-clause-bytes g c).After-put_text) c.in_err-put_text.ensures.bytes)

pub returns-clause-bytes : goal.returns-clause-bytes
returns-clause-bytes g c =
    puts_last c.flush.result (g.W.Sink.contents c.flush.new.out) []
    (goes_put (text_next g (goal.at.returns-clause-bytes g c).After-put_text) c.in_ok-put_text.ensures.bytes)
    c.flush.ensures.bytes

pub returns-clause-flag : goal.returns-clause-flag
returns-clause-flag c = search rules
