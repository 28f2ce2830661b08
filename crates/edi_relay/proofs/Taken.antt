-- What a run of `relay` took of its reader, and what it did with it.
use Rattle.std.proofs.Common.{◌≡◌, ◌≢◌, ℕ, ◌+◌, Bool, true, List, [], ◌++◌}
use Rattle.std.proofs.Common.{length, take, Option, Some, None, Result, Ok, Err, inl, inr}
use Rattle.std.proofs.Common.{refl, sym, ap, subst, ◌∙◌, arith, append-nil}
use Rattle.std.specs.Prelude.{◌⊎◌, IfSome, nat_lt, if◌then◌else◌}
use Rattle.std.specs.Io.KnownBytes.{Appends, Consumes, IsAtEnd}
use Rattle.std.proofs.lemmas.Bool.{cases_lt, lt-ltb}
use Rattle.std.proofs.lemmas.List.{length-take, take_all, take_at}
use Rattle.edi_base.specs.Buffer.{AppendsFront}
use Rattle.edi_base.specs.Source.{TakesAtMost}
use Rattle.edi_tokens.specs.declared.lender.Lender.{Lender}
use Rattle.edi_segments.specs.Spelling.{text_limit}
use Rattle.edi_segments.specs.declared.fault.TokenFault.{TokenFault}
use Rattle.edi_segments.specs.declared.fault.TokenFault.TheVariants as token
use Rattle.edi_segments.specs.declared.fault.TokenFault.TheVariants.{TooLong, ServiceString, Byte, Cut, Tag, LongSegment, Read}
use Rattle.edi_segments.specs.Reading.{run, start, finish, tokens_of, ◌>>=◌}
use Rattle.edi_segments.proofs.Runs.{take-take_le}
use Rattle.edi_tokens.specs.Lender.{AtEnd, Fed, HasReadNothing, TakesOf, room_of, stopped}
use Rattle.edi_tokens.proofs.Lending.{takes_then}
use Rattle.edi_relay.specs.declared.relay.RelayWords.{RelayWords}
use Rattle.edi_relay.specs.declared.relay.RelayFault.{RelayFault}
use Rattle.edi_relay.specs.declared.relay.RelayFault.TheVariants.{Token, Envelope, Memory}
use Rattle.edi_relay.specs.Relay.{relayed, tokens_mailed, Relays, RelaysRead, without_read}
use Rattle.edi_relay.specs.Relaying.{RelayFaultHasCause}
use Rattle.edi_relay.proofs.ReadOn.{never_read}
use Rattle.edi_relay.specs.Run.{read_limit, Delivers, DeliversFront, IfToEnd, IsRefused, Ran}

-- ---- reading one byte more than the longest text gives the same as reading all

same_length : (k : List ℕ) → nat_lt text_limit (length (take read_limit k)) ≡ nat_lt text_limit (length k)
same_length k =
    elim (cases_lt text_limit (length k)) [
      | inl long ↦
          lt-ltb text_limit (length (take read_limit k)) (omega (arith, length-take read_limit k, long))
          ∙ sym (lt-ltb text_limit (length k) long)
      | inr within ↦ ap (λ (l : List ℕ). nat_lt text_limit (length l)) (take_all read_limit k (omega (arith, within)))
    ]

same_text : (k : List ℕ) → tokens_of (take read_limit k) ≡ tokens_of k
same_text k =
    let front : take text_limit (take read_limit k) ≡ take text_limit k = take-take_le text_limit read_limit k (omega arith) in
    ap (λ (t : List ℕ). run start t >>= λ r. if nat_lt text_limit (length (take read_limit k)) then Err TooLong else finish r) front
    ∙ ap (λ (b : Bool). run start (take text_limit k) >>= λ r. if b then Err TooLong else finish r) (same_length k)

-- ---- what was relayed

pub known_relayed : (P : Result (List ℕ) RelayFault → Type 0) (words : RelayWords) (known : Option (List ℕ)) (lender : Lender)
    → ((k : List ℕ) → Fed (Some k) k [] lender)
    → ((all : List ℕ) → Fed known all [] lender → P (relayed all words))
    → IfSome known (λ k. P (relayed (take read_limit k) words))
known_relayed P words None lender fed told = tt
known_relayed P words (Some k) lender fed told =
    subst (λ r. P (tokens_mailed words r)) (sym (same_text k)) (told k (fed k))

pub taken_at_most : (old new : Option (List ℕ)) (left : ℕ) → TakesOf old new read_limit left → TakesAtMost old new read_limit
taken_at_most old new left t = record { front = t.front; taken = t.consumed; within = omega (arith, t.counted) }

front_is : (old new : Option (List ℕ)) (front : List ℕ) (missing : ℕ) → Consumes old new front → length front + missing ≡ read_limit
    → IsAtEnd new ⊎ (missing ≡ 0)
    → IfSome old (λ k. Consumes old new (take read_limit k))
front_is None new front missing taken count end = tt
front_is (Some k) None front missing taken count end = absurd taken
front_is (Some k) (Some rest) front missing taken count (inl none) =
    let all : k ≡ front = taken ∙ ap (λ l. front ++ l) none ∙ append-nil front in
    let whole : take read_limit k ≡ k = take_all read_limit k (omega (arith, ap (λ l. length l) all, count)) in
    taken ∙ ap (λ l. l ++ rest) (sym (whole ∙ all))
front_is (Some k) (Some rest) front missing taken count (inr full) =
    let n : length front ≡ read_limit = omega (arith, count, full) in
    let whole : take read_limit k ≡ front = ap (take read_limit) taken ∙ take_at front rest read_limit n in
    taken ∙ ap (λ l. l ++ rest) (sym whole)

pub stands_at : (old new : Option (List ℕ)) (missing : ℕ) → TakesOf old new read_limit missing → IsAtEnd new ⊎ (missing ≡ 0)
    → IfSome old (λ k. Consumes old new (take read_limit k))
stands_at old new missing t end = front_is old new t.front missing t.consumed t.counted end

pub to_end : {X F : Type 0} (r : Result X RelayFault) → F → IfToEnd r F
to_end (Ok x) f = f
to_end (Err (Token TooLong)) f = f
to_end (Err (Token ServiceString)) f = f
to_end (Err (Token Byte)) f = f
to_end (Err (Token Cut)) f = f
to_end (Err (Token Tag)) f = f
to_end (Err (Token LongSegment)) f = f
to_end (Err (Token Read)) f = tt
to_end (Err (Token token.Memory)) f = f
to_end (Err (Envelope fault)) f = f
to_end (Err Memory) f = tt

-- ---- what was read and relayed

nothing_known : {P : List ℕ → Type 0} (known : Option (List ℕ)) → ((k : List ℕ) → P k) → IfSome known P
nothing_known None h = tt
nothing_known (Some k) h = h k

nothing_taken : (known : Option (List ℕ)) → Consumes known known []
nothing_taken None = tt
nothing_taken (Some k) = refl

module _ {X : Type 0} (view : X → List ℕ) (words : RelayWords) (before : Option (List ℕ)) (was : Bool) where
  pub out_of_memory : Ran view words before before was was (Err Memory)
  out_of_memory = record {
    relayed_as = nothing_known before (λ k. tt);
    flag = refl;
    taken = record { front = []; taken = nothing_taken before; within = omega arith };
    stands = tt;
  }

  module _ (old new : Lender) (begun : HasReadNothing old (text_limit + 1)) (fed : (k : List ℕ) → Fed (Some k) k [] old)
      (between : Option (List ℕ)) (flag : Bool) (r : Result X RelayFault)
      (told : (all : List ℕ) → Fed before all [] old → RelaysRead view r (relayed all words))
      (flagged : stopped old ≡ None → RelayFaultHasCause r was flag)
      (bound : TakesOf before between (room_of old) (room_of new))
      (ends : AtEnd before old → AtEnd between new) where
    relays : IfSome before (λ k. RelaysRead view r (relayed (take read_limit k) words))
    relays = known_relayed (λ x. RelaysRead view r x) words before old fed told

    bound_at : TakesOf before between read_limit (room_of new)
    bound_at = subst (λ (n : ℕ). TakesOf before between n (room_of new)) begun.room_is bound

    pub cut_short : r ≡ Err (Token Read) → Ran view words before between was flag r
    cut_short is = record {
      relayed_as = relays;
      flag = flagged begun.going;
      taken = taken_at_most before between (room_of new) bound_at;
      stands =
          subst (λ (q : Result X RelayFault). IfToEnd q (IfSome before (λ k. Consumes before between (take read_limit k)))) (sym is) tt;
    }

    module _ (after : Option (List ℕ)) (failed : Bool) where
      pub read_away : (missing : ℕ)
          → TakesOf between after (room_of new) missing × (AtEnd between new → IsAtEnd after ⊎ (missing ≡ 0))
          → failed ≡ flag
          → Ran view words before after was failed r
      read_away missing away kept =
          let all = takes_then before between after read_limit (room_of new) missing bound_at away.0 in
          record {
            relayed_as = relays;
            flag = subst (λ (b : Bool). RelayFaultHasCause r was b) (sym kept) (flagged begun.going);
            taken = taken_at_most before after missing all;
            stands = to_end r (stands_at before after missing all (away.1 (ends (begun.ends before))));
          }

      pub read_failed : (left : ℕ) × TakesOf between after (room_of new) left → failed ≡ true
          → Ran view words before after was failed (Err (Token Read))
      read_failed away up = record {
        relayed_as = nothing_known before (λ k. tt);
        flag = up;
        taken = taken_at_most before after away.0 (takes_then before between after read_limit (room_of new) away.0 bound_at away.1);
        stands = tt;
      }

-- ---- what a run did

pub is_delivered : (known : Option (List ℕ)) (words : RelayWords) (old new : Option (List ℕ)) (mail : List ℕ)
    → IfSome known (λ k. relayed (take read_limit k) words ≡ Ok mail)
    → Appends old new mail
    → Delivers known words old new
is_delivered None words old new mail mailed written = tt
is_delivered (Some k) words old new mail mailed written = (mail, mailed, written)

pub is_front_delivered : (known : Option (List ℕ)) (words : RelayWords) (old new : Option (List ℕ)) (mail : List ℕ)
    → IfSome known (λ k. relayed (take read_limit k) words ≡ Ok mail)
    → AppendsFront old new mail
    → DeliversFront known words old new
is_front_delivered None words old new mail mailed written = tt
is_front_delivered (Some k) words old new mail mailed written = (mail, mailed, written)

known_fault : {X : Type 0} (view : X → List ℕ) (fault : RelayFault) (given : Result (List ℕ) RelayFault) → fault ≢ Memory
    → Relays view (Err fault) given
    → given ≡ Err fault
known_fault view (Token fault) given some h = h
known_fault view (Envelope fault) given some h = h
known_fault view Memory given some h = absurd (some refl)

fault_is : {X : Type 0} (view : X → List ℕ) (fault : RelayFault) (given : Result (List ℕ) RelayFault) → without_read fault ≡ fault
    → fault ≢ Memory
    → RelaysRead view (Err fault) given
    → given ≡ Err fault
fault_is view fault given read some h =
    known_fault view fault given some (subst (λ f. Relays view (Err f) given) read (never_read fault given view h))

pub is_refused : {X : Type 0} (view : X → List ℕ) (known : Option (List ℕ)) (words : RelayWords) (fault : RelayFault)
    → without_read fault ≡ fault
    → fault ≢ Memory
    → IfSome known (λ k. RelaysRead view (Err fault) (relayed (take read_limit k) words))
    → IsRefused known words fault
is_refused view None words fault read memory h = tt
is_refused view (Some k) words fault read memory h = fault_is view fault (relayed (take read_limit k) words) read memory h

pub was_to_end : (X : Type 0) {F : Type 0} (fault : TokenFault) → fault ≢ Read → IfToEnd {X = X} (Err (Token fault)) F → F
was_to_end X TooLong h f = f
was_to_end X ServiceString h f = f
was_to_end X Byte h f = f
was_to_end X Cut h f = f
was_to_end X Tag h f = f
was_to_end X LongSegment h f = f
was_to_end X Read h f = absurd (h refl)
was_to_end X token.Memory h f = f

-- no flag goes up but at a failed read
pub same_flag : (X : Type 0) (fault : TokenFault) (old new : Bool) → fault ≢ Read → RelayFaultHasCause {X = X} (Err (Token fault)) old new
    → new ≡ old
same_flag X TooLong old new h f = f
same_flag X ServiceString old new h f = f
same_flag X Byte old new h f = f
same_flag X Cut old new h f = f
same_flag X Tag old new h f = f
same_flag X LongSegment old new h f = f
same_flag X Read old new h f = absurd (h refl)
same_flag X token.Memory old new h f = absurd f
