-- Defines what serving one connection does.
use Rattle.std.specs.Prelude.{◌≡◌, [], ◌∷◌, Option, Some, None, Result, Ok, Err}
use Rattle.hub_requests.specs.declared.reply.Reply.{Reply}
use Rattle.hub_requests.specs.declared.request.Input.{Input}
use Rattle.hub_parties.specs.Rows.{RegisterRows}
use Rattle.hub_serve.specs.Connections.{KnownConnections}
use Rattle.hub_serve.specs.Serve.{Exchange, Connection, IsServed, Passes, input_in}
use Rattle.hub_serve.specs.declared.line.Ending.{Ending}

-- the request was answered, or there was none
abbrev pub DidAsked : (Input → Reply → Type 0) → Type 0 → Option Exchange → Type 0
DidAsked Does Same None = Same
DidAsked Does Same (Some asked) = Does (input_in asked) asked.reply

-- a connection was served and has ended
pub record ServesOne (Does : Input → Reply → Type 0) (Same : Type 0) (register : RegisterRows) (old new : KnownConnections)
    (ending : Ending) : Type 0 where
  pub one : Connection
  pub ends : one.ending ≡ ending
  pub passes : Passes old new (one ∷ [])
  pub is : IsServed register one
  pub did : DidAsked Does Same one.asked

-- the next connection was served; if there is none, nothing was done, none has ended, and the moments still come
abbrev pub ServesNext : {E : Type 0} → (Input → Reply → Type 0) → Type 0 → RegisterRows → KnownConnections → KnownConnections
    → Result Ending E → Type 0
ServesNext Does Same register old new (Ok ending) = ServesOne Does Same register old new ending
ServesNext Does Same register old new (Err none) =
    Same × (new.closed ≡ old.closed) × (new.moments ≡ old.moments)
