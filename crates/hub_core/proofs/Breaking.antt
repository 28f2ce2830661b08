-- Proves when a store is broken, after one request and after a run.
use Rattle.std.proofs.Common.{◌≡◌, ◌⊎◌, inl, inr, ℕ, Bool, IsTrue, List, [], ◌∷◌, ◌++◌, length, Option, Some, None, Result, Ok, Err}
use Rattle.std.proofs.Common.{IfOk, OnErr, IsSome, refl, sym, subst, ap, ◌∙◌, arith}
use Rattle.std.specs.Option.{IfSome}
use Rattle.hub_parties.specs.Rows.{RegisterRows}
use Rattle.hub_store.specs.Calls.{fault_of}
use Rattle.hub_store.specs.declared.fault.LastingFault.{LastingFault}
use Rattle.hub_store.specs.declared.fault.LastingFault.TheVariants as lasting
use Rattle.hub_store.specs.declared.fault.StoreFault.{StoreFault}
use Rattle.hub_store.specs.declared.fault.StoreFault.TheVariants.{Memory, Disk, Unclean, Version}
use Rattle.hub_law.specs.Opening.{Opened, interchange_in}
use Rattle.hub_law.specs.Replies.{reply}
use Rattle.hub_law.specs.Requests.{uploaded}
use Rattle.hub_requests.specs.declared.reply.Outcome.TheVariants.{Stopped}
use Rattle.hub_requests.specs.declared.reply.Reply.{Reply}
use Rattle.hub_requests.specs.declared.request.Input.{Input}
use Rattle.hub_requests.specs.declared.request.Request.TheVariants.{Upload}
use Rattle.hub_transactions.specs.Acts.{BreaksBy, FailsWith, no_answer}
use Rattle.hub_core.specs.Broken.{OfNoRow, StoppedUnless, Breaks, BreaksAsked, AllStopped, StoppedSinceOne, RunBreaks, does_input}
use Rattle.hub_core.specs.Callers.{delivered, addressed_by, request_of}
use Rattle.hub_core.specs.Steps.{Does}
use Rattle.hub_register.specs.declared.caller.Caller.{Caller}
use Rattle.hub_register.specs.declared.caller.Caller.TheVariants.{Retailer, Supplier}
use Rattle.hub_core.proofs.Callers.{KnownCaller, step_is}

pub where_some : {P : Type 0} (o : Option LastingFault) → P → IfSome o (λ _. P)
where_some None p = tt
where_some (Some x) p = p

pub where_both : {P Q R : Type 0} (o : Option LastingFault) → IfSome o (λ _. P) → IfSome o (λ _. Q) → (P → Q → R) → IfSome o (λ _. R)
where_both None p q both = tt
where_both (Some x) p q both = both p q

-- a fault breaks a store that was not broken, or leaves it as it was
lasts : (cause : Type 0) (broken : LastingFault) (new : Option LastingFault) (fault : StoreFault)
    → (fault ≡ Memory) ⊎ (fault ≡ fault_of broken)
    → BreaksBy cause (Some broken) new fault
    → new ≡ Some broken
lasts cause broken new Memory same after = after
lasts cause lasting.Disk new Disk same after = after
lasts cause lasting.Unclean new Disk same after = elim same [ inl e ↦ absurd (cc) | inr e ↦ absurd (cc) ]
lasts cause lasting.Disk new Unclean same after = elim same [ inl e ↦ absurd (cc) | inr e ↦ absurd (cc) ]
lasts cause lasting.Unclean new Unclean same after = elim after [ inl e ↦ e | inr e ↦ e.0 ]
lasts cause broken new Version same after = absurd after

pub failed : {X : Type 0} (plain : Bool) (cause : Type 0) (may : X → Type 0) (old new : Option LastingFault) (fault : StoreFault)
    → FailsWith plain cause may old new (Err fault)
    → ((new ≡ old) ⊎ (old ≡ None)) × (IsTrue plain → new ≡ old)
failed plain cause may None new fault fails = (inr refl, λ p. (fails.only_memory p).0)
failed plain cause may (Some broken) new fault fails =
    (inl (lasts cause broken new fault fails.again fails.after), λ p. (fails.only_memory p).0)

module _ (plain : Bool) (does : Does) (old : Option LastingFault) where
  -- the request needed nothing of the store
  pub unasked : (reply : Reply) → OfNoRow does reply → Breaks plain does old old reply
  unasked reply is = record { after = inl refl; again = where_some old (inr is); over_plain = λ p. refl }

  -- the request made a call that a broken store never answers
  pub by_call : (cause : Type 0) (new : Option LastingFault) (result : Result Reply StoreFault)
      → FailsWith plain cause no_answer old new result
      → BreaksAsked plain does old new result
  by_call cause new (Ok reply) fails = record {
    after = inl fails.after;
    again = where_both old fails.again fails.again (λ no _. absurd no);
    over_plain = λ p. (fails.only_memory p).0;
  }
  by_call cause new (Err fault) fails = failed plain cause no_answer old new fault fails

  -- the request made a call that a broken store answers only if no row is in the answer
  pub by_answer : (cause : Type 0) (new : Option LastingFault) (result : Result Reply StoreFault)
      → FailsWith plain cause (OfNoRow does) old new result
      → BreaksAsked plain does old new result
  by_answer cause new (Ok reply) fails = record {
    after = inl fails.after;
    again = where_both old fails.again fails.again (λ of_none _. inr of_none);
    over_plain = λ p. (fails.only_memory p).0;
  }
  by_answer cause new (Err fault) fails = failed plain cause (OfNoRow does) old new fault fails

  -- the request was stopped
  pub stopped_by : (new : Option LastingFault) (reply : Reply)
      → ((new ≡ old) ⊎ (old ≡ None)) × (IsTrue plain → new ≡ old)
      → reply.outcome ≡ Stopped
      → Breaks plain does old new reply
  stopped_by new reply left told = record {
    after = elim left.0 [ inl e ↦ inl e | inr none ↦ inr (none, told) ];
    again = where_some old (inl told);
    over_plain = left.1;
  }

  -- the reply to a request that was tried
  pub replied_breaks : (new : Option LastingFault) (answered : Result Reply StoreFault) (body : List ℕ) (given : Reply)
      → IfOk answered (λ told. given ≡ told)
      → OnErr answered (given ≡ reply Stopped body)
      → BreaksAsked plain does old new answered
      → Breaks plain does old new given
  replied_breaks new (Ok told) body given ok err breaks = subst (λ (r : Reply). Breaks plain does old new r) (sym ok) breaks
  replied_breaks new (Err fault) body given ok err breaks = stopped_by new given breaks (ap (λ (r : Reply). r.outcome) err)

-- each caller
pub breaks_as : (plain : Bool) (register : RegisterRows) (input : Input) (old new : Option LastingFault) (caller : Caller)
    (result : Result Reply StoreFault)
    → KnownCaller register input caller
    → BreaksAsked plain (request_of register caller input.moment input.request) old new result
    → BreaksAsked plain (does_input register input) old new result
breaks_as plain register input old new caller result known breaks =
    subst (λ (does : Does). BreaksAsked plain does old new result) (λ i mark t. step_is register input caller known mark t i) breaks

-- an upload of bytes, by what opening them gave
pub opened_breaks : (plain : Bool) (register : RegisterRows) (caller : Caller) (moment : ℕ) (bytes : List ℕ) (upload : Opened)
    (old new : Option LastingFault) (result : Result Reply StoreFault)
    → interchange_in bytes ≡ upload
    → BreaksAsked plain (λ mark t. uploaded (delivered register caller) moment mark (addressed_by register caller upload) t) old new result
    → BreaksAsked plain (request_of register caller moment (Upload bytes)) old new result
opened_breaks plain register Retailer moment bytes upload old new result is breaks =
    subst (λ (opened : Opened). BreaksAsked plain
    (λ mark t. uploaded (delivered register Retailer) moment mark (addressed_by register Retailer opened) t) old new result) (sym is) breaks
opened_breaks plain register (Supplier s) moment bytes upload old new result is breaks =
    subst (λ (opened : Opened). BreaksAsked plain
    (λ mark t. uploaded (delivered register (Supplier s)) moment mark (addressed_by register (Supplier s) opened) t) old new result)
    (sym is) breaks

-- A register that changed while the store was not broken: what holds over a broken store holds under the register after
-- the change.
module _ (plain : Bool) (before after : RegisterRows) (inputs : List Input) (replies : List Reply) (input : Input) (reply : Reply) where
  pub moved : (old middle : Option LastingFault)
      → IfSome middle (λ _. after ≡ before)
      → RunBreaks plain before old middle inputs replies
      → RunBreaks plain after old middle inputs replies
  moved old (Some fault) same run =
      subst (λ (r : RegisterRows). RunBreaks plain r old (Some fault) inputs replies) (sym same) run
  moved None None same run = record { after = inl refl; again = tt; over_plain = λ p. refl }
  moved (Some fault) None same run = elim run.after [ inl e ↦ absurd (cc) | inr e ↦ absurd (cc) ]

  pub moved_one : (middle new : Option LastingFault)
      → IfSome middle (λ _. after ≡ before)
      → Breaks plain (does_input before input) middle new reply
      → Breaks plain (does_input after input) middle new reply
  moved_one (Some fault) new same one =
      subst (λ (r : RegisterRows). Breaks plain (does_input r input) (Some fault) new reply) (sym same) one
  moved_one None new same one = record { after = one.after; again = tt; over_plain = one.over_plain }

-- A run.
module _ (register : RegisterRows) where
  all_more : (inputs : List Input) (replies : List Reply) (input : Input) (reply : Reply)
      → AllStopped register inputs replies
      → StoppedUnless (does_input register input) reply
      → AllStopped register (inputs ++ input ∷ []) (replies ++ reply ∷ [])
  all_more [] [] input reply all one = (one, tt)
  all_more [] (r ∷ replies) input reply all one = absurd all
  all_more (x ∷ inputs) [] input reply all one = absurd all
  all_more (x ∷ inputs) (r ∷ replies) input reply all one = (all.0, all_more inputs replies input reply all.1 one)

  since_more : (inputs : List Input) (replies : List Reply) (input : Input) (reply : Reply)
      → StoppedSinceOne register inputs replies
      → StoppedUnless (does_input register input) reply
      → StoppedSinceOne register (inputs ++ input ∷ []) (replies ++ reply ∷ [])
  since_more [] replies input reply since one = absurd since
  since_more (x ∷ inputs) [] input reply since one = absurd since
  since_more (x ∷ inputs) (r ∷ replies) input reply since one = elim since [
    | inl e ↦ inl (e.0, all_more inputs replies input reply e.1 one)
    | inr e ↦ inr (since_more inputs replies input reply e one)
  ]

  since_last : (inputs : List Input) (replies : List Reply) (input : Input) (reply : Reply)
      → length inputs ≡ length replies
      → reply.outcome ≡ Stopped
      → StoppedSinceOne register (inputs ++ input ∷ []) (replies ++ reply ∷ [])
  since_last [] [] input reply even told = inl (told, tt)
  since_last [] (r ∷ replies) input reply even told = absurd (omega arith)
  since_last (x ∷ inputs) [] input reply even told = absurd (omega arith)
  since_last (x ∷ inputs) (r ∷ replies) input reply even told = inr (since_last inputs replies input reply (omega arith) told)

  pub run_none : (plain : Bool) (old : Option LastingFault) → RunBreaks plain register old old [] []
  run_none plain old = record { after = inl refl; again = where_some old tt; over_plain = λ p. refl }

  module _ (plain : Bool) (inputs : List Input) (replies : List Reply) (input : Input) (reply : Reply)
      (even : length inputs ≡ length replies) where
    -- the inputs after the first, over a store that was broken
    over_broken : (old new : Option LastingFault) (fault : LastingFault)
        → RunBreaks plain register old (Some fault) inputs replies
        → Breaks plain (does_input register input) (Some fault) new reply
        → new ≡ Some fault
        → RunBreaks plain register old new (inputs ++ input ∷ []) (replies ++ reply ∷ [])
    over_broken old new fault run one lasts = record {
      after = elim run.after [
        | inl e ↦ inl (lasts ∙ e)
        | inr e ↦ inr (
          e.0,
          (
            subst (λ (o : Option LastingFault). IsSome o) (sym lasts) e.1.0,
            since_more inputs replies input reply e.1.1 one.again,
          ),
        )
      ];
      again = where_both old run.again run.again (λ all _. all_more inputs replies input reply all one.again);
      over_plain = λ p. lasts ∙ run.over_plain p;
    }

    -- the inputs after the first, over a store that was not broken
    over_whole : (old new : Option LastingFault)
        → RunBreaks plain register old None inputs replies
        → Breaks plain (does_input register input) None new reply
        → RunBreaks plain register old new (inputs ++ input ∷ []) (replies ++ reply ∷ [])
    over_whole (Some fault) new run one = elim run.after [ inl e ↦ absurd (cc) | inr e ↦ absurd (cc) ]
    over_whole None None run one = record { after = inl refl; again = tt; over_plain = λ p. refl }
    over_whole None (Some fault) run one = record {
      after = elim one.after [
        | inl e ↦ absurd (cc)
        | inr e ↦ inr (refl, (refl, since_last inputs replies input reply even e.1))
      ];
      again = tt;
      over_plain = one.over_plain;
    }

    pub run_more : (old middle new : Option LastingFault)
        → RunBreaks plain register old middle inputs replies
        → Breaks plain (does_input register input) middle new reply
        → RunBreaks plain register old new (inputs ++ input ∷ []) (replies ++ reply ∷ [])
    run_more old None new run one = over_whole old new run one
    run_more old (Some fault) new run one =
        over_broken old new fault run one (elim one.after [ inl e ↦ e | inr e ↦ let no : Some fault ≡ None = e.0 in absurd (cc) ])
