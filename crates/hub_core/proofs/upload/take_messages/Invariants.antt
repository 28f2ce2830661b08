use Rattle.std.proofs.Common.{◌≡◌, ◌⊎◌}
use Rattle.std.specs.Option.{IfSome}
use Rattle.hub_tables.specs.Tables.{Tables}
use Rattle.hub_transactions.specs.Messages.{MayStop}
use Rattle.hub_core.specs.Callers.{delivered, KeepsFor, MayDeliver}
use Rattle.hub_core.specs.Uploads.{DoneSoFar}
use Rattle.hub_core.proofs.upload.take_messages.Given as goal

abbrev pub invariant-loop-message : goal.invariant-loop-message
invariant-loop-message g l = record {
  room : MayStop l.reply;
  was_honest : g.S.Store.honest l.store → g.S.Store.honest l.fn.store;
  may : g.S.Store.honest l.store
      → MayDeliver l.upload.register.now l.upload.caller (g.S.Store.content l.fn.store)
      → MayDeliver l.upload.register.now l.upload.caller (g.S.Store.content l.store);
  kept : g.S.Store.honest l.store
      → MayDeliver l.upload.register.now l.upload.caller (g.S.Store.content l.fn.store)
      → KeepsFor l.upload.caller l.orders (g.S.Store.content l.store);
  broken : g.S.Store.broken l.store ≡ g.S.Store.broken l.fn.store;
  unasked : IfSome (g.S.Store.broken l.fn.store) (λ _. (t : Tables)
      → DoneSoFar (delivered l.upload.register.now l.upload.caller) l.upload.moment l.upload.interchange.now t t
      l.message-index l.refused l.reply.items);
  so_far : g.S.Store.honest l.store → MayDeliver l.upload.register.now l.upload.caller (g.S.Store.content l.fn.store)
      → DoneSoFar (delivered l.upload.register.now l.upload.caller) l.upload.moment l.upload.interchange.now
      (g.S.Store.content l.fn.store)
      (g.S.Store.content l.store) l.message-index l.refused l.reply.items;
  left : g.S.Store.honest l.store → MayDeliver l.upload.register.now l.upload.caller (g.S.Store.content l.fn.store) →
      (t : Tables) → g.S.Store.left l.store t
      → (t ≡ g.S.Store.content l.store) ⊎
      ((g.S.Store.content l.store ≡ g.S.Store.content l.fn.store) × g.S.Store.left l.fn.store t);
}
