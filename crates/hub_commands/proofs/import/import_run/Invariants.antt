use Rattle.hub_commands.specs.Files.{HasFailed}
use Rattle.std.proofs.Common.{◌≡◌}
use Rattle.hub_core.specs.Hub.{RunsFrom, StaysSound}
use Rattle.hub_core.specs.Steps.{input_of}
use Rattle.hub_requests.specs.declared.request.Request.TheVariants.{Upload}
use Rattle.hub_commands.proofs.SoFar.{ImportSoFar}
use Rattle.hub_commands.proofs.import.import_run.Given as goal

abbrev pub invariant-loop-file : goal.invariant-loop-file
invariant-loop-file g l = record {
  register : l.hub.0 ≡ l.fn.hub.0;
  was_honest : g.S.Store.honest l.hub.1 → g.S.Store.honest l.fn.hub.1;
  held : StaysSound g.S.Store l.fn.hub l.hub;
  so_far : ImportSoFar g.F.Bytes.Source.remaining (HasFailed g.F.Bytes.Source.origin g.F.Bytes.Source.failed)
      (RunsFrom g.S.Store l.fn.hub l.hub)
      (λ bytes. input_of l.moment l.caller l.key (Upload bytes)) (g.F.Files.remaining l.fn.files) (g.F.Files.remaining l.files)
      (g.W.Sink.contents l.fn.out) (g.W.Sink.contents l.out) (g.W.Sink.failed l.fn.out) (g.W.Sink.failed l.out) l.greatest;
}

abbrev pub decreases-loop-file : goal.decreases-loop-file
decreases-loop-file g l = g.F.Files.most l.files
