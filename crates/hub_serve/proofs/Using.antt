-- Proves how a socket is used, one use after another.
use Rattle.std.proofs.Common.{◌≡◌, ℕ, ◌+◌, ◌-◌, ◌≤◌, List, [], ◌∷◌, ◌++◌, map, take, Option, Some, None, Result, Ok, Err, inl, inr}
use Rattle.std.proofs.Common.{ap, ◌∙◌, append_assoc, arith, refl, subst, sym}
use Rattle.std.specs.Prelude.{⊤, IsErr, OnErr, flat_map}
use Rattle.std.specs.Duration.{as_nanos}
use Rattle.std.specs.Io.KnownBytes.{Consumes}
use Rattle.std.specs.List.{AllByRecursion}
use Rattle.std.specs.Time.{instant_nanos}
use Rattle.std.specs.declared.time.Duration.{Duration}
use Rattle.std.specs.declared.time.Instant.{Instant}
use Rattle.std.proofs.lemmas.Grind.{flat_map-append}
use Rattle.std.proofs.lemmas.List.{append-nil, length-take}
use Rattle.edi_base.specs.Source.{TakesAtMost}
use Rattle.edi_base.proofs.Taken.{takes_more}
use Rattle.std.specs.Option.{unwrap_or}
use Rattle.hub_serve.specs.Connections.{Adds}
use Rattle.hub_serve.specs.Timed.{AsksOnly, InTime, IsTimed, Lingers, OnTime, ReadsOn, Time, read_at}
use Rattle.hub_serve.specs.Uses.{Use, Uses, end_sending, read, read_wait, told}

-- what always holds holds if a call failed
pub on_err : {A E : Type 0} {P : Type 0} (r : Result A E) → P → OnErr r P
on_err (Ok a) p = tt
on_err (Err e) p = p

pub some_is : {A : Type 0} {x y : List A} → Some x ≡ Some y → x ≡ y
some_is {A} {x} {y} e = ap (λ (o : Option (List A)). unwrap_or o x) e

-- first these uses, and then those
pub adds_then : {A : Type 0} (old between new : Option (List A)) (xs ys : List A) → Adds old between xs → Adds between new ys
    → Adds old new (xs ++ ys)
adds_then None between new xs ys first second = tt
adds_then (Some all) None new xs ys first second = absurd cc
adds_then {A} (Some all) (Some more) new xs ys first second =
    second ∙ ap (λ (l : List A). Some (l ++ ys)) (some_is first) ∙ ap (λ (l : List A). Some l) (append_assoc all xs ys)

-- the clock was asked once
pub asks_once : (before after : Uses) (moment : ℕ) → Adds before after (told moment ∷ []) → AsksOnly before after
asks_once before after moment adds = (moment ∷ [], adds)

-- the clock was asked, and then setting the wait failed
pub timed_not : {A E : Type 0} (wait : ℕ → Use) (call : Use) (old new : Time) (before between after : Uses) (r : Result A E)
    (moment : ℕ) → IsErr r → Adds before between (told moment ∷ []) → Adds between after []
    → IsTimed wait call old new before after r
timed_not wait call old new before between after (Ok a) moment err asked none = absurd cc
timed_not wait call old new before between after (Err e) moment err asked none =
    inr (moment ∷ [], adds_then before between after (told moment ∷ []) [] asked none)

all_append : {A : Type 0} (P : A → Type 0) (xs ys : List A) → AllByRecursion P xs → AllByRecursion P ys
    → AllByRecursion P (xs ++ ys)
all_append P [] ys first second = second
all_append P (x ∷ xs) ys first second = (first.0, all_append P xs ys first.1 second)

-- the reads so far began with the time
abbrev pub BeganWith : Time → List (ℕ × ℕ) → Type 0
BeganWith (None, whole) [] = ⊤
BeganWith (None, whole) (first ∷ more) = ⊥
BeganWith (Some begun, whole) [] = ⊥
BeganWith (Some begun, whole) (first ∷ more) = instant_nanos begun ≡ first.0

-- How far a socket was read and its bytes dropped: how many bytes were taken, up to a limit, and the reads that were
-- made.
pub record Away (limit left : ℕ) (old new : Time) (known rest : Option (List ℕ)) (before after : Uses) : Type 0 where
  pub within : left ≤ limit
  pub lasts : new.1 ≡ old.1
  pub taken : TakesAtMost known rest (limit - left)
  pub made : List (ℕ × ℕ)
  pub uses : Adds before after (flat_map read_at made)
  pub on_time : OnTime (as_nanos old.1) made
  pub began : BeganWith new made

began_more : (old : Time) (made : List (ℕ × ℕ)) (now : Instant) (left : ℕ) → BeganWith old made
    → BeganWith (Some (unwrap_or old.0 now), old.1) (made ++ (instant_nanos now, left) ∷ [])
began_more (None, whole) [] now left began = refl
began_more (None, whole) (first ∷ more) now left began = absurd began
began_more (Some begun, whole) [] now left began = absurd began
began_more (Some begun, whole) (first ∷ more) now left began = began

on_time_more : (nanos : ℕ) (old : Time) (made : List (ℕ × ℕ)) (now : Instant) (left : ℕ) → OnTime nanos made → BeganWith old made
    → left + (instant_nanos now - instant_nanos (unwrap_or old.0 now)) ≡ nanos
    → OnTime nanos (made ++ (instant_nanos now, left) ∷ [])
on_time_more nanos (None, whole) [] now left on_time began is = (is, tt)
on_time_more nanos (None, whole) (first ∷ more) now left on_time began is = absurd began
on_time_more nanos (Some begun, whole) [] now left on_time began is = absurd began
on_time_more nanos (Some begun, whole) (first ∷ more) now left on_time began is =
    all_append (λ made. made.1 + (made.0 - first.0) ≡ nanos) (first ∷ more) ((instant_nanos now, left) ∷ []) on_time
    (subst (λ m. left + (instant_nanos now - m) ≡ nanos) began is, tt)

module _ (limit left : ℕ) (old between new : Time) (known some rest : Option (List ℕ)) (before then after : Uses)
    (away : Away limit left old between known some before then) where
  -- reads, and then the clock was asked
  pub reads_asked : AsksOnly then after → ReadsOn (as_nanos old.1) [] before after
  reads_asked asks = record {
    made = away.made;
    asked = asks.0;
    uses = adds_then before then after (flat_map read_at away.made) (map told asks.0) away.uses asks.1;
    on_time = away.on_time;
  }

  module _ (timed : InTime (λ wait. read_wait wait) read between new then after) where
    abbrev now : Instant
    now = timed.is_left.now

    uses_more : Adds before after (flat_map read_at (away.made ++ (instant_nanos now, timed.left) ∷ []))
    uses_more =
        let one : Adds then after (read_at (instant_nanos now, timed.left)) =
        adds_then then timed.asked after (told (instant_nanos now) ∷ []) (read_wait timed.left ∷ read ∷ []) timed.is_left.asked
        timed.made in
        rw (flat_map-append read_at away.made ((instant_nanos now, timed.left) ∷ []))
        (adds_then before then after (flat_map read_at away.made) (read_at (instant_nanos now, timed.left)) away.uses one)

    left_so : timed.left + (instant_nanos now - instant_nanos (unwrap_or between.0 now)) ≡ as_nanos old.1
    left_so =
        subst (λ (begun : Instant). timed.left + (instant_nanos now - instant_nanos begun) ≡ as_nanos old.1) timed.is_left.begun_is
        (timed.is_left.left_is ∙ ap as_nanos away.lasts)

    on_time_then : OnTime (as_nanos old.1) (away.made ++ (instant_nanos now, timed.left) ∷ [])
    on_time_then = on_time_more (as_nanos old.1) between away.made now timed.left away.on_time away.began left_so

    -- one more read, after which the clock was not asked
    pub reads_more : ReadsOn (as_nanos old.1) [] before after
    reads_more = record {
      made = away.made ++ (instant_nanos now, timed.left) ∷ [];
      asked = [];
      uses = rw (append-nil (flat_map read_at (away.made ++ (instant_nanos now, timed.left) ∷ []))) uses_more;
      on_time = on_time_then;
    }

    -- and it took as many bytes as it returned
    pub away_more : (buffer : List ℕ) (count : ℕ) → Consumes some rest (take count buffer) → count ≤ left
        → Away limit (left - count) old new known rest before after
    away_more buffer count takes fits =
        let short = length-take count buffer in
        let within = away.within in
        let taken = away.taken.within in
        let so : new ≡ (Some (unwrap_or between.0 now), between.1) =
        timed.is_left.goes_on ∙ ap (λ (begun : Instant). (Some begun, between.1)) timed.is_left.begun_is in
        record {
          within = omega (arith, within);
          lasts = ap (λ (t : Time). t.1) so ∙ away.lasts;
          taken =
              takes_more known some rest away.taken.front count (limit - (left - count)) away.taken.taken
              (record { front = take count buffer; taken = takes; within = omega (arith, short) }) (omega (arith, within, taken, fits));
          made = away.made ++ (instant_nanos now, timed.left) ∷ [];
          uses = uses_more;
          on_time = on_time_then;
          began =
              subst (λ (t : Time). BeganWith t (away.made ++ (instant_nanos now, timed.left) ∷ [])) (sym so)
              (began_more between away.made now timed.left away.began);
        }

  -- a read, whatever its result
  pub reads_so : {A E : Type 0} (r : Result A E) → IsTimed (λ wait. read_wait wait) read between new then after r
      → ReadsOn (as_nanos old.1) [] before after
  reads_so (Ok a) timed = reads_more timed
  reads_so (Err e) (inl timed) = reads_more timed
  reads_so (Err e) (inr asks) = reads_asked asks

-- the client was told that nothing more is sent, and nothing was read
pub lingers_not : (nanos : ℕ) (before after : Uses) → Adds before after (end_sending ∷ []) → Lingers nanos before after
lingers_not nanos before after told_so = record { made = []; asked = []; uses = told_so; on_time = tt }

-- the client was told that nothing more is sent, and then bytes were read for at most this time
pub lingers : {T : Type 0} (uses : T → Uses) (nanos : ℕ) (before : Uses) (ended end last : T) (whole : Duration) (side : T × Time)
    → Adds before (uses ended) (end_sending ∷ [])
    → side ≡ (ended, (None, whole))
    → as_nanos whole ≡ nanos
    → ReadsOn (as_nanos side.1.1) [] (uses side.0) (uses end)
    → last ≡ end
    → Lingers nanos before (uses last)
lingers {T} uses nanos before ended end last whole side told_so side_is lasts reads last_is =
    let from_ended : ReadsOn (as_nanos whole) [] (uses ended) (uses end) =
    subst (λ (s : T × Time). ReadsOn (as_nanos s.1.1) [] (uses s.0) (uses end)) side_is reads in
    let on : ReadsOn nanos [] (uses ended) (uses end) = subst (λ n. ReadsOn n [] (uses ended) (uses end)) lasts from_ended in
    subst (λ (t : T). Lingers nanos before (uses t)) (sym last_is)
    (record {
      made = on.made;
      asked = on.asked;
      uses = adds_then before (uses ended) (uses end) (end_sending ∷ []) (flat_map read_at on.made ++ map told on.asked) told_so on.uses;
      on_time = on.on_time;
    })
