-- Defines what happens to bytes that wait in a buffer before a sink.
use Rattle.std.specs.Prelude.{◌≡◌, ◌⊎◌, ℕ, ◌<◌, ◌+◌, Bool, true, List, [], ◌++◌, length, Option, Result, Ok, Err}
use Rattle.std.specs.Io.KnownBytes.{Appends}

-- of the waiting bytes followed by `whole`, a prefix was written, `left` still waits, and `ahead` is yet to come
pub record WritesSome (old new : Option (List ℕ)) (waiting left ahead whole : List ℕ) : Type 0 where
  pub front : List ℕ
  pub appends : Appends old new front
  pub parts : front ++ (left ++ ahead) ≡ waiting ++ whole

-- at Ok all bytes were written or wait; after a fault a prefix of them was written
abbrev pub Puts : {E : Type 0} → Result (Unit {0}) E → Option (List ℕ) → Option (List ℕ) → List ℕ → List ℕ → List ℕ
    → Type 0
Puts (Ok done) old new waiting left bytes = WritesSome old new waiting left [] bytes
Puts (Err e) old new waiting left bytes = (rest : List ℕ) × WritesSome old new waiting [] rest bytes

-- a sink's `failed` flag: unchanged at Ok, set after a fault
abbrev pub Flags : {E : Type 0} → Result (Unit {0}) E → Bool → Bool → Type 0
Flags (Ok done) old new = new ≡ old
Flags (Err e) old new = new ≡ true

-- the bytes written grow by a prefix of these bytes, if they are known
abbrev pub AppendsFront : Option (List ℕ) → Option (List ℕ) → List ℕ → Type 0
AppendsFront old new bytes = (front rest : List ℕ) × (bytes ≡ front ++ rest) × Appends old new front

-- the most bytes that wait
abbrev pub room : ℕ
room = 1024

-- all waiting bytes still wait, and a prefix of them was written
pub record StillWait (old new : Option (List ℕ)) (waiting left : List ℕ) : Type 0 where
  pub kept : left ≡ waiting
  pub written : AppendsFront old new waiting

-- nothing waits: all waiting bytes were written, and then a prefix of bytes that are too many to wait
pub record NoneWait (old new : Option (List ℕ)) (waiting left bytes : List ℕ) : Type 0 where
  pub none : left ≡ []
  pub too_many : room < length bytes
  pub flushed : Option (List ℕ)
  pub waited : Appends old flushed waiting
  pub written : AppendsFront flushed new bytes

-- what waits after bytes that did not fit after the waiting ones were not all written
pub record WaitsAfterFault (old new : Option (List ℕ)) (waiting left bytes : List ℕ) : Type 0 where
  pub full : room < length waiting + length bytes
  pub waits : StillWait old new waiting left ⊎ NoneWait old new waiting left bytes
