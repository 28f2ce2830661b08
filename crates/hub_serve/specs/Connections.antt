-- Defines connections that arrive one after another, and the moments at which they do.
use Rattle.std.specs.Prelude.{◌≡◌, ℕ, Bool, true, false, List, [], ◌∷◌, ◌++◌, Option, Some, None, Result, Ok, Err}
use Rattle.std.specs.Prelude.{IfSome, IsFalse}
use Rattle.hub_serve.specs.declared.connections.NoConnection.{NoConnection}
use Rattle.hub_serve.specs.declared.connections.NoConnection.TheVariants.{Gone, Over}
use Rattle.hub_serve.specs.declared.connections.Sides.{Sides}
use Rattle.hub_serve.specs.declared.line.Ending.{Ending}

-- what the clients of the connections to come will send, if it is known which come
abbrev pub Coming : Type 0
Coming = Option (List (Option (List ℕ)))

-- if it is known what comes, these come first, and then the rest
abbrev pub TakesFirst : {A : Type 0} → Option (List A) → Option (List A) → List A → Type 0
TakesFirst {A} known rest first =
    IfSome known (λ all. (others : List A) × (all ≡ first ++ others) × (rest ≡ Some others))

-- The next connection: its reader gives what its client sends. If its client is gone, nothing is known of it. If no
-- more connections can be taken, all of them still come.
abbrev pub TakesConnection : {R W : Type 0} → (R → Option (List ℕ)) → Coming → Coming → Result (Sides R W) NoConnection → Type 0
TakesConnection remaining known rest (Ok sides) = TakesFirst known rest (remaining sides.reader ∷ [])
TakesConnection remaining known rest (Err Gone) = TakesFirst known rest (None ∷ [])
TakesConnection remaining known rest (Err Over) = rest ≡ known

-- the next moment; if it is not known, all moments still come
abbrev pub TakesMoment : Option (List ℕ) → Option (List ℕ) → Option ℕ → Type 0
TakesMoment known rest (Some moment) = TakesFirst known rest (moment ∷ [])
TakesMoment known rest None = rest ≡ known

-- no more connections can be taken
abbrev pub is_over : {R : Type 0} → Result R NoConnection → Bool
is_over (Ok sides) = false
is_over (Err Gone) = false
is_over (Err Over) = true

-- a new connection: nothing was sent to its client, and no read and no write has failed
pub record IsNew (sent : Option (List ℕ)) (read_failed write_failed : Bool) : Type 0 where
  pub nothing_sent : IfSome sent (λ bytes. bytes ≡ [])
  pub read : IsFalse read_failed
  pub write : IsFalse write_failed

-- A connection that has ended: what was left of what its client sent, and what it was sent, if they are known; whether
-- a read and a write have failed; and how it was reported to have ended.
pub record Closed : Type 0 where
  pub left : Option (List ℕ)
  pub sent : Option (List ℕ)
  pub read_failed : Bool
  pub write_failed : Bool
  pub ending : Ending

abbrev pub closed : Option (List ℕ) → Option (List ℕ) → Bool → Bool → Ending → Closed
closed left sent read_failed write_failed ending =
    record { left = left; sent = sent; read_failed = read_failed; write_failed = write_failed; ending = ending }

-- if it is known how connections ended, these ended after the others
abbrev pub Adds : {A : Type 0} → Option (List A) → Option (List A) → List A → Type 0
Adds {A} old new last = IfSome old (λ all. new ≡ Some (all ++ last))

-- what is known of connections: which still come, how those that ended did, and the moments of those to come
pub record KnownConnections : Type 0 where
  pub coming : Coming
  pub closed : Option (List Closed)
  pub moments : Option (List ℕ)

abbrev pub known : Coming → Option (List Closed) → Option (List ℕ) → KnownConnections
known coming closed moments = record { coming = coming; closed = closed; moments = moments }
