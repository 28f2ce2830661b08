use Rattle.std.proofs.Common.{refl, inr}
use Rattle.std.proofs.lemmas.Result.{on_ok_weaker}
use Rattle.edi_envelope.specs.declared.check.Place.TheVariants as place
use Rattle.edi_envelope.proofs.GatherLemmas.{keeps_at, trailer_kept}
use Rattle.edi_envelope.proofs.gathering.Gathered.end.Goals as goal

pub returns : goal.returns
returns c = λ lent unz gathers placed.
    on_ok_weaker c.close.result (λ w. trailer_kept place.Trailer lent c.close.new.self unz refl w placed)
    (c.close.ensures lent (keeps_at place.Trailer lent c.args.self.now unz (inr refl) gathers placed))
