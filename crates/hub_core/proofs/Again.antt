-- Proves what a run of a hub replies to a message that comes again.
use Rattle.std.proofs.Common.{◌≡◌, inl, inr, ℕ, zero, suc, ◌<◌, ◌≤◌, nat_lt, Bool, true, false, List, [], ◌∷◌, ◌++◌, length}
use Rattle.std.proofs.Common.{slice_get, take, if◌then◌else◌, Some, refl, sym, ap, subst, ◌∙◌, arith}
use Rattle.std.proofs.lemmas.Bool.Decides.{nat_tests}
use Rattle.std.proofs.lemmas.List.{length-map}
use Rattle.hub_tables.specs.Tables.{Tables}
use Rattle.hub_law.specs.Again.{MessageAt, Reaches, SameReference, told_at}
use Rattle.hub_law.specs.Machine.{Inputs, shared_step, shared_run}
use Rattle.hub_law.specs.Mark.{Mark, Whole, StoppedEmpty, StoppedBare, StoppedAfter}
use Rattle.hub_law.specs.Messages.{incoming, messages_at}
use Rattle.hub_law.specs.Replies.{whole_reply}
use Rattle.hub_law.specs.Requests.{replied_by}
use Rattle.hub_law.specs.Stops.{Upload, all_acts, first_acts, reply_behind}
use Rattle.hub_law.specs.Told.{Told, Repeated, Act, in_row}
use Rattle.hub_law.proofs.Agreeing.{reply_at}
use Rattle.hub_requests.specs.declared.reply.Reply.{Reply}
use Rattle.hub_requests.specs.declared.request.Input.{Input}
use Rattle.hub_core.specs.Laws.{ComesAgain, ReportsResult, inputs_to}

-- the reply at a position of a run
pub reply_of_run : (t after : Tables) (marked before later : Inputs) (input : Input) (mark : Mark)
    (replies : List Reply)
    → shared_run t marked ≡ (replies, after)
    → marked ≡ before ++ (input, mark) ∷ later
    → slice_get replies (length before) ≡ Some (shared_step (shared_run t before).1 input mark).0
reply_of_run t after marked before later input mark replies is e =
    sym (ap (λ (r : List Reply × Tables). slice_get r.0 (length before)) is)
    ∙ ap (λ xs. slice_get (shared_run t xs).0 (length before)) e
    ∙ reply_at t before input mark later

-- a message that comes again is repeated on the tables to which it comes
pub repeated_on : (t u : Tables) (again : ComesAgain t u)
    → ((comes : MessageAt (shared_run t (inputs_to again.first)).1 again.input again.place again.first.message)
    → SameReference again.first.input again.input again.first.accepted.comes.upload comes.upload
    → told_at (shared_run t (inputs_to again.first)).1 again.input comes.upload again.place ≡ Some Repeated)
    → told_at u again.input again.comes.upload again.place ≡ Some Repeated
repeated_on t u again repeats =
    subst (λ (u : Tables). (comes : MessageAt u again.input again.place again.first.message)
    → SameReference again.first.input again.input again.first.accepted.comes.upload comes.upload
    → told_at u again.input comes.upload again.place ≡ Some Repeated) again.first.leads repeats again.comes again.same

no_more : {X : Type 0} (k : ℕ) (xs : List X) → length (take k xs) ≤ k
no_more zero xs = omega arith
no_more (suc k) [] = omega arith
no_more (suc k) (x ∷ xs) = let less = no_more k xs in omega arith

under : {X : Type 0} (k : ℕ) (xs : List X) (place : ℕ) → place < length (take k xs) → place < k
under k xs place below = let less = no_more k xs in omega arith

-- each message has a result
row_length : {X : Type 0} (step : X → Act) (xs : List X) (t : Tables) → length (in_row step xs t).0 ≡ length xs
row_length step [] t = refl
row_length step (x ∷ xs) t = ap suc (row_length step xs (step x t).1)

told_each : (upload : Upload) (moment : ℕ) (t : Tables) → length (all_acts upload moment t).0 ≡ length upload.interchange.messages
told_each upload moment t =
    row_length upload.act (messages_at moment upload.interchange) t
    ∙ length-map upload.interchange.messages (λ message. (message, incoming moment upload.interchange message))

-- what the reply to an upload says of a message that it reaches
module _ (t : Tables) (input : Input) (upload : Upload) (place : ℕ) (what : Told)
    (there : slice_get (all_acts upload input.moment t).0 place ≡ Some what) where
  tells_cut : (k : ℕ) (below : Bool) → nat_lt k (length upload.interchange.messages) ≡ below
      → (k < length upload.interchange.messages
      → shared_step t input (StoppedAfter k)
      ≡ (reply_behind k upload.interchange (all_acts upload input.moment t).0, (first_acts k upload input.moment t).1))
      → place < length (take (if below then k else 0) (messages_at input.moment upload.interchange))
      → ReportsResult upload.interchange place what (shared_step t input (StoppedAfter k)).0
  tells_cut k true e cut reached = record {
    told = (all_acts upload input.moment t).0;
    each = told_each upload input.moment t;
    there = there;
    is =
        inr (
          k,
          under k (messages_at input.moment upload.interchange) place reached,
          ap (λ (r : Reply × Tables). r.0) (cut (grind (arith, nat_tests))),
        );
  }
  tells_cut k false e cut reached = absurd (omega arith)

  pub tells : (mark : Mark)
      → shared_step t input Whole ≡ replied_by (whole_reply upload.interchange) (all_acts upload input.moment t)
      → ((k : ℕ)
      → k < length upload.interchange.messages
      → shared_step t input (StoppedAfter k)
      ≡ (reply_behind k upload.interchange (all_acts upload input.moment t).0, (first_acts k upload input.moment t).1))
      → Reaches mark input upload place → ReportsResult upload.interchange place what (shared_step t input mark).0
  tells Whole whole cut reached = record {
    told = (all_acts upload input.moment t).0;
    each = told_each upload input.moment t;
    there = there;
    is = inl (ap (λ (r : Reply × Tables). r.0) whole);
  }
  tells StoppedEmpty whole cut reached = absurd (omega arith)
  tells StoppedBare whole cut reached = absurd (omega arith)
  tells (StoppedAfter k) whole cut reached = tells_cut k (nat_lt k (length upload.interchange.messages)) refl (cut k) reached
