use Rattle.edi_relay.specs.Run.{refusal}
use Rattle.edi_relay.proofs.Lines.{tells}
use Rattle.edi_relay.proofs.run.tell_refusal.Goals as goal

pub returns : goal.returns
returns g c =
    tells (g.E.Sink.contents c.args.err.now) (g.E.Sink.contents c.write_refusal.new.err) (g.E.Sink.failed c.write_refusal.new.err)
    (refusal c.args.fault) c.write_refusal.result c.write_refusal.ensures.ok c.write_refusal.ensures.err c.write_refusal.ensures.failed
