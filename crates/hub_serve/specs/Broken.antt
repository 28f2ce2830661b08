-- Defines the connection at which a store failed for good.
use Rattle.std.specs.Prelude.{◌≡◌, ◌≢◌, ◌⊎◌, List, [], ◌∷◌, ◌++◌, None}
use Rattle.hub_parties.specs.Rows.{RegisterRows}
use Rattle.hub_store.specs.declared.store.Store.{Ghosts}
use Rattle.hub_http.specs.HubCore.Hub.{RunsFrom, StepsFrom}
use Rattle.hub_serve.specs.One.{DidAsked}
use Rattle.hub_serve.specs.Serve.{Connection, inputs, replies}
use Rattle.hub_serve.specs.declared.serve.OnBroken.{OnBroken}
use Rattle.hub_serve.specs.declared.serve.OnBroken.TheVariants.{Stop}

module _ {S : Type 0} (g : Ghosts S) where
  -- Before the last of these connections the store had not failed for good, unless that is the first: those before it
  -- were a run that left the store unbroken, and the last one's request came after them.
  pub record WasWhole (old new : RegisterRows × S) (served : List Connection) : Type 0 where
    pub earlier : List Connection
    pub last : Connection
    pub are : served ≡ earlier ++ last ∷ []
    pub between : RegisterRows × S
    pub was_honest : g.honest new.1 → g.honest between.1
    pub ran : RunsFrom g old between (inputs earlier) (replies earlier)
    pub not_yet : (earlier ≡ []) ⊎ (g.broken between.1 ≡ None)
    pub did : DidAsked (StepsFrom g between new) (new ≡ between) last.asked

  -- the store has failed for good after the last connection; so it failed at its request, or it had failed before
  -- serving began
  abbrev pub BrokeAtLast : RegisterRows × S → RegisterRows × S → List Connection → Type 0
  BrokeAtLast old new served = WasWhole old new served × (g.broken new.1 ≢ None)

  -- if serving is to stop when the store fails, no connection was served after that one
  abbrev pub StopsAtOnce : OnBroken → RegisterRows × S → RegisterRows × S → List Connection → Type 0
  StopsAtOnce on_broken old new served = on_broken ≡ Stop → (served ≡ []) ⊎ WasWhole old new served

-- serving is to stop when the store fails, and this holds
abbrev pub StopsBroken : OnBroken → Type 0 → Type 0
StopsBroken on_broken Broke = (on_broken ≡ Stop) × Broke
