use Rattle.std.proofs.Common.{refl}
use Rattle.edi_relay.proofs.Written.{ended_more}
use Rattle.edi_relay.proofs.mails.Mails.end.Goals as goal

pub returns : goal.returns
returns c = λ words mark lent k.
    ended_more words mark lent c.args.self.now _ k c.if-not-self.false refl refl c.in_ok-self.ensures c.in_ok-append_trailer.ensures
