use Rattle.std.proofs.Common.{drop, ◌+◌, ◌∙◌}
use Rattle.std.specs.List.{flat_map}
use Rattle.edi_base.proofs.Going.{goes_put, goes_cut, goes_as, puts_cut}
use Rattle.http_messages.proofs.Chain.{flat_map-at}
use Rattle.http_messages.proofs.response.put_all.Goals as goal

pub returns-in_err-put-clause-bytes : goal.returns-in_err-put-clause-bytes
returns-in_err-put-clause-bytes g c =
    puts_cut c.from_residual.result c.put.new.self c.from_residual.ensures.0
    (goes_cut (flat_map (λ piece. piece.now) (drop (c.loop-piece.piece-index + 1) c.args.pieces.now))
    (goes_as _ _ (flat_map-at (λ piece. piece.now) c.args.pieces.now c.loop-piece.piece-index _ c.loop-piece-test.true)
    c.loop-piece.invariant.bytes) c.in_err-put.ensures.bytes)

pub loop-piece-preserved : goal.loop-piece-preserved
loop-piece-preserved g c = record {
  bytes = goes_put (goes_as _ _ (flat_map-at (λ piece. piece.now) c.args.pieces.now c.loop-piece.piece-index _ c.loop-piece-test.true)
      c.loop-piece.invariant.bytes) c.in_ok-put.ensures.bytes;
  flag = c.in_ok-put.ensures.flag ∙ c.loop-piece.invariant.flag;
}
