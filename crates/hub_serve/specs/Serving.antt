-- Defines what serving a number of connections does to a hub.
use Rattle.std.specs.Prelude.{◌≡◌, ℕ, Bool, IsTrue, List, Option}
use Rattle.hub_parties.specs.Rows.{RegisterRows}
use Rattle.hub_store.specs.declared.store.Store.{Ghosts}
use Rattle.hub_http.specs.HubCore.Hub.{RunsFrom}
use Rattle.hub_serve.specs.Broken.{BrokeAtLast, StopsAtOnce, StopsBroken}
use Rattle.hub_serve.specs.Connections.{KnownConnections, known}
use Rattle.hub_serve.specs.Serve.{ServesConnections}
use Rattle.hub_serve.specs.declared.connections.Connections.{Ghosts as ConnectionsOf}
use Rattle.hub_serve.specs.declared.connections.Moments.{Ghosts as MomentsOf}
use Rattle.hub_serve.specs.declared.serve.OnBroken.{OnBroken}

module _ {L Reader Writer M : Type 0} (l : ConnectionsOf L Reader Writer) (m : MomentsOf M) where
  -- what is known of connections and of their moments
  abbrev pub known_of : L × M → KnownConnections
  known_of coming = known (l.coming coming.0) (l.closed coming.0) (m.coming coming.1)

  -- meanwhile neither the connections nor the moments have failed
  abbrev pub GoOn : L × M → L × M → Type 0
  GoOn old new = (l.failed new.0 ≡ l.failed old.0) × (m.failed new.1 ≡ m.failed old.1)

module _ {S L Reader Writer M : Type 0} (g : Ghosts S) (l : ConnectionsOf L Reader Writer) (m : MomentsOf M) where
  -- Up to this number of the connections to come were served for a hub: what was printed, and the exit status.
  abbrev pub ServesHub : OnBroken → RegisterRows × S → RegisterRows × S → L × M → L × M → ℕ →
      Option (List ℕ) → Option (List ℕ) → Bool → Bool → ℕ → Type 0
  ServesHub on_broken old new coming rest =
      ServesConnections (RunsFrom g old new) (StopsAtOnce g on_broken old new) old.0
      (known_of l m coming) (known_of l m rest) (GoOn l m coming rest)
      (IsTrue (l.failed rest.0)) (IsTrue (m.failed rest.1))
      (λ served. StopsBroken on_broken (BrokeAtLast g old new served))
