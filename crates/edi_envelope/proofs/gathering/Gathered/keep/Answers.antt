use Rattle.std.proofs.Common.{refl, inl, inr}
use Rattle.edi_envelope.proofs.GatherLemmas.{unh_kept, goes_at, inside_kept, keeps_at, trailer_kept}
use Rattle.edi_envelope.proofs.gathering.Gathered.keep.Goals as goal

pub returns-in_ok-push-in-MessageHeader : goal.returns-in_ok-push-in-MessageHeader
returns-in_ok-push-in-MessageHeader c = λ lent gathers known placed.
    let s = c.args.segment in
    let keeps = keeps_at c.args.place lent c.args.self.now s (inl c.in-MessageHeader.is) gathers placed in
    unh_kept c.args.place lent c.close.new.self _ s c.in-MessageHeader.is
    (c.in_ok-close-in-MessageHeader.ensures lent keeps) placed refl refl
    c.in_ok-push-in-MessageHeader.ensures.items

pub returns-in_ok-push-in-Inside : goal.returns-in_ok-push-in-Inside
returns-in_ok-push-in-Inside c = λ lent gathers known placed.
    let s = c.args.segment in
    inside_kept lent c.args.self.now _ s gathers (goes_at c.args.place lent s c.in-Inside.is placed) refl refl
    c.in_ok-push-in-Inside.ensures.items

pub returns-in_ok-close-in-Trailer : goal.returns-in_ok-close-in-Trailer
returns-in_ok-close-in-Trailer c = λ lent gathers known placed.
    let s = c.args.segment in
    let keeps = keeps_at c.args.place lent c.args.self.now s (inr c.in-Trailer.is) gathers placed in
    trailer_kept c.args.place lent c.close-in-Trailer.new.self s c.in-Trailer.is (c.in_ok-close-in-Trailer.ensures lent keeps) placed
