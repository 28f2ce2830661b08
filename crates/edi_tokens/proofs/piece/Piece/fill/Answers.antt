use Rattle.std.proofs.Common.{arith}
use Rattle.edi_tokens.proofs.Pieced.{filled}
use Rattle.edi_tokens.proofs.piece.Piece.fill.Goals as goal

pub returns-clause-bytes : goal.returns-clause-bytes
returns-clause-bytes g c =
    filled _ _ c.read_front.new.bytes c.self.inside.bytes.items c.self.inside.bytes.len c.args.room c.in_ok-count.count
    c.in_ok-count.ensures.bytes (omega (arith, c.read_front.auto.bytes, c.as_mut_slice.ensures.len)) c.self.invariant.2
