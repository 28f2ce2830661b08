-- Defines the time of one side of a connection: when it began, if it has, how long it lasts, and how its socket is used
-- meanwhile.
use Rattle.std.specs.Prelude.{◌≡◌, ◌⊎◌, ⊤, ℕ, ◌+◌, ◌-◌, ◌<◌, List, [], ◌∷◌, ◌++◌, map, flat_map}
use Rattle.std.specs.Prelude.{Option, Some, IfSome, IsSome, Result, Ok, Err}
use Rattle.std.specs.Option.{unwrap_or}
use Rattle.std.specs.Duration.{as_nanos}
use Rattle.std.specs.Time.{instant_nanos}
use Rattle.std.specs.List.{AllByRecursion}
use Rattle.std.specs.declared.time.Instant.{Instant}
use Rattle.std.specs.declared.time.Duration.{Duration}
use Rattle.hub_serve.specs.Connections.{Adds}
use Rattle.hub_serve.specs.Uses.{Use, Uses, end_sending, read, read_wait, told}

abbrev pub Time : Type 0
Time = Option Instant × Duration

abbrev pub HasBegun : Time → Type 0
HasBegun time = IsSome time.0

-- it lasts as long as before, and if it had begun, its beginning is the same
pub record TimeGoesOn (old new : Time) : Type 0 where
  pub lasts : new.1 ≡ old.1
  pub began : IfSome old.0 (λ begun. new.0 ≡ Some begun)

-- The clock was asked, and this many nanoseconds are left of the time, which began now if it had not before.
pub record TimeLeft (left : ℕ) (old new : Time) (before after : Uses) : Type 0 where
  pub now : Instant
  pub asked : Adds before after (told (instant_nanos now) ∷ [])
  pub begun : Instant
  pub begun_is : begun ≡ unwrap_or old.0 now
  pub goes_on : new ≡ (Some begun, old.1)
  pub left_is : left + (instant_nanos now - instant_nanos begun) ≡ as_nanos old.1
  pub some : 0 < left

-- a call in time: the clock was asked, the call could wait no longer than what was left then, and it was made
pub record InTime (wait : ℕ → Use) (call : Use) (old new : Time) (before after : Uses) : Type 0 where
  pub left : ℕ
  pub asked : Uses
  pub is_left : TimeLeft left old new before asked
  pub made : Adds asked after (wait left ∷ call ∷ [])

-- the clock was asked, and nothing else was done
abbrev pub AsksOnly : Uses → Uses → Type 0
AsksOnly before after = (moments : List ℕ) × Adds before after (map told moments)

-- a call was made in time; if it failed, it may not have been made
abbrev pub IsTimed : {A E : Type 0} → (ℕ → Use) → Use → Time → Time → Uses → Uses → Result A E → Type 0
IsTimed wait call old new before after (Ok done) = InTime wait call old new before after
IsTimed wait call old new before after (Err error) = InTime wait call old new before after ⊎ AsksOnly before after

-- a read at this moment, which could wait at most this many nanoseconds
abbrev pub read_at : ℕ × ℕ → List Use
read_at (now, wait) = told now ∷ read_wait wait ∷ read ∷ []

-- each read could wait for what was left of this many nanoseconds, which began with the first
abbrev pub OnTime : ℕ → List (ℕ × ℕ) → Type 0
OnTime nanos [] = ⊤
OnTime nanos (first ∷ more) =
    AllByRecursion (λ made. made.1 + (made.0 - first.0) ≡ nanos) (first ∷ more)

-- First these uses, then reads that were made on time; after them the clock may have been asked once more.
pub record ReadsOn (nanos : ℕ) (first : List Use) (before after : Uses) : Type 0 where
  pub made : List (ℕ × ℕ)
  pub asked : List ℕ
  pub uses : Adds before after (first ++ (flat_map read_at made ++ map told asked))
  pub on_time : OnTime nanos made

-- the client was told that nothing more is sent, and then the socket was read further
abbrev pub Lingers : ℕ → Uses → Uses → Type 0
Lingers nanos before after = ReadsOn nanos (end_sending ∷ []) before after
