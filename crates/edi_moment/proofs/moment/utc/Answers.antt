use Rattle.std.proofs.Common.{◌≡◌, ◌≤◌, arith, pos, ◌*ℤ◌, to_z, w64}
use Rattle.std.proofs.lemmas.Int.{ints}
use Rattle.jiff.specs.Words.{civil_nanos}
use Rattle.jiff.proofs.SpanFacts.{signed_arith}
use Rattle.edi_moment.specs.Moment.{last_moment}
use Rattle.edi_moment.proofs.MomentLemmas.{shown_at}
use Rattle.edi_moment.proofs.moment.utc.Goals as goal

pub returns : goal.returns
returns c =
    let same = c.seconds.ensures.value in
    let bound : c.args.moment ≤ last_moment = omega arith in
    let cast : to_z w64 c.seconds.result ≡ pos c.args.moment = omega (arith, ints) in
    let instant = rw cast at (rw c.unwrap-instant.ensures at c.from_second.ensures.value) in
    let nanos : civil_nanos c.to_datetime.result ≡ pos c.args.moment *ℤ pos 1_000_000_000 =
    omega (arith, signed_arith, instant, c.to_datetime.ensures) in
    shown_at c.args.moment c.to_datetime.result bound nanos
