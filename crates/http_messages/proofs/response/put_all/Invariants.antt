use Rattle.std.proofs.Common.{◌≡◌, drop}
use Rattle.std.specs.List.{flat_map}
use Rattle.edi_base.specs.Buffer.{WritesSome}
use Rattle.http_messages.proofs.response.put_all.Given as goal

abbrev pub invariant-loop-piece : goal.invariant-loop-piece
invariant-loop-piece g l = record {
  bytes : WritesSome (g.W.Sink.contents l.fn.out) (g.W.Sink.contents l.out) l.fn.waiting l.waiting
      (flat_map (λ piece. piece.now) (drop l.piece-index l.pieces)) (flat_map (λ piece. piece.now) l.pieces);
  flag : g.W.Sink.failed l.out ≡ g.W.Sink.failed l.fn.out;
}
