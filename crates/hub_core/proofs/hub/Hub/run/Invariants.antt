use Rattle.std.proofs.Common.{◌≡◌, ◌≤◌, take, length, vec_len, vec_capacity}
use Rattle.std.specs.List.{AllByRecursion}
use Rattle.hub_requests.specs.declared.request.Input.{Input}
use Rattle.hub_transactions.specs.Joins.{KeepsRows}
use Rattle.hub_core.specs.Broken.{RunBreaks}
use Rattle.hub_core.specs.Steps.{IsNoJoin, SoundWith, RunAndCrash}
use Rattle.hub_core.proofs.hub.Hub.run.Given as goal

abbrev pub invariant-loop-input : goal.invariant-loop-input
invariant-loop-input g l = record {
  count : vec_len l.replies ≡ l.input-index;
  room : length l.inputs ≤ vec_capacity l.replies;
  even : length (take l.input-index l.inputs) ≡ length l.replies.items;
  breaks : RunBreaks g.S.Store.plain l.self.0 (g.S.Store.broken l.fn.self.1) (g.S.Store.broken l.self.1)
      (take l.input-index l.inputs) l.replies.items;
  was_honest : g.S.Store.honest l.self.1 → g.S.Store.honest l.fn.self.1;
  ran : g.S.Store.honest l.self.1 → SoundWith l.fn.self.0 (g.S.Store.content l.fn.self.1)
      → RunAndCrash (g.S.Store.content l.fn.self.1) (g.S.Store.content l.self.1) (g.S.Store.left l.fn.self.1)
      (g.S.Store.left l.self.1) (take l.input-index l.inputs) l.replies.items;
  held : g.S.Store.honest l.self.1 → SoundWith l.fn.self.0 (g.S.Store.content l.fn.self.1)
      → SoundWith l.self.0 (g.S.Store.content l.self.1);
  keeps : KeepsRows l.fn.self.0 l.self.0;
  same : AllByRecursion (λ (input : Input). IsNoJoin input.request) l.inputs → l.self.0 ≡ l.fn.self.0;
}
