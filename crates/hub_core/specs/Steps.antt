-- Defines what a request, a step and a run of a hub do, and what a crash leaves after them.
use Rattle.std.specs.Prelude.{◌≡◌, ◌≢◌, ◌⊎◌, ◌↔◌, ◌+◌, ⊤, ℕ, List, [], ◌∷◌, ◌++◌, length, map, slice_get}
use Rattle.std.specs.Prelude.{Option, Some, None, Result, IfOk, OnErr}
use Rattle.std.specs.List.{AllByRecursion}
use Rattle.hub_parties.specs.Rows.{RegisterRows}
use Rattle.hub_parties.specs.declared.row.SupplierRow.{SupplierRow}
use Rattle.hub_tables.specs.Register.{register_of, parties_in}
use Rattle.hub_tables.specs.Tables.{Tables, view}
use Rattle.hub_store.specs.declared.fault.StoreFault.{StoreFault}
use Rattle.hub_store.specs.declared.store.Store.{Ghosts}
use Rattle.hub_rules.specs.Laws.{SoundHub}
use Rattle.hub_rules.specs.Sound.{Balanced}
use Rattle.hub_law.specs.Alone.{items, items_of_input}
use Rattle.hub_law.specs.Laws.{IsOther, AsksStatus, alone, own_report}
use Rattle.hub_law.specs.Machine.{Inputs, shared_step, shared_run, replies_to}
use Rattle.hub_law.specs.Mark.{Mark, Whole, StoppedBare, acts_done}
use Rattle.hub_law.specs.Stops.{Upload, upload_of}
use Rattle.hub_requests.specs.declared.reply.Outcome.TheVariants.{Stopped}
use Rattle.hub_requests.specs.declared.reply.Reply.{Reply}
use Rattle.hub_requests.specs.declared.request.Input.{Input}
use Rattle.hub_requests.specs.declared.request.Request.{Request}
use Rattle.hub_requests.specs.declared.request.Request.TheVariants.{Join}
use Rattle.hub_transactions.specs.Joins.{MovesBy}

-- the tables are a sound start, and the hub's register is the one that they hold
pub record SoundWith (register : RegisterRows) (t : Tables) : Type 0 where
  pub sound : SoundHub t
  pub held : register ≡ register_of t

-- the request is not a join
abbrev pub IsNoJoin : Request → Type 0
IsNoJoin request = (row : SupplierRow) → request ≢ Join row

-- what a request does, whole or stopped in each way
abbrev pub Does : Type 0
Does = Mark → Tables → Reply × Tables

-- A join, over any tables: the reply is the one under this register, or says that the join was stopped; and the
-- register accepts the supplier's row exactly if the reply says that the join is accepted.
pub record JoinAnswered (row : SupplierRow) (old new : RegisterRows) (does : Does) (reply : Reply) : Type 0 where
  pub told : (reply.outcome ≡ Stopped) ⊎ ((t : Tables) → (does Whole t).0 ≡ reply)
  pub moves : MovesBy row old new reply

-- the number of acts of a request: one for each message of an upload, and one for any other request
abbrev pub acts_of : Option Upload → ℕ
acts_of (Some upload) = length upload.interchange.messages
acts_of None = 1

-- the tables are those after one more act
pub record OneMore (count : ℕ) (does : Does) (t : Tables) (mark : Mark) (u : Tables) : Type 0 where
  pub more : Mark
  pub one : acts_done more count ≡ acts_done mark count + 1
  pub is : (does more t).1 ≡ u

-- What a crash leaves after a request with this number of acts: the tables after the acts that are done; if they
-- changed nothing, what it could leave before; or the tables after one more whole act, at which the request was
-- stopped.
abbrev pub CrashLeaves : ℕ → Does → Tables → Mark → Tables → (Tables → Type 0) → Tables → Type 0
CrashLeaves count does t mark after before u = (u ≡ after) ⊎ (((after ≡ t) × before u) ⊎ OneMore count does t mark u)

-- a request was answered, as a whole or up to where it was stopped
pub record IsAnswered {S : Type 0} (g : Ghosts S) (old new : S) (count : ℕ) (does : Does) (reply : Reply) : Type 0 where
  pub mark : Mark
  pub is : does mark (g.content old) ≡ (reply, g.content new)
  pub leaves : (u : Tables) → g.left new u → CrashLeaves count does (g.content old) mark (g.content new) (g.left old) u

-- a request did nothing: a crash leaves what it could leave before, or the tables after the request's one act
pub record Undone {S : Type 0} (g : Ghosts S) (old new : S) (count : ℕ) (does : Does) : Type 0 where
  pub same : g.content new ≡ g.content old
  pub leaves : (u : Tables) → g.left new u → g.left old u ⊎ OneMore count does (g.content old) StoppedBare u

-- A request over a store: at Ok it is answered, and after a fault nothing is done.
pub record AnsweredOrUndone {S : Type 0} (g : Ghosts S) (old new : S) (count : ℕ) (does : Does) (result : Result Reply StoreFault)
    : Type 0 where
  pub answered : g.honest new → IfOk result (λ reply. IsAnswered g old new count does reply)
  pub undone : g.honest new → OnErr result (Undone g old new count does)

-- an input, from its parts
abbrev pub input_of : ℕ → List ℕ → List ℕ → Request → Input
input_of moment caller key request = record { moment = moment; caller = caller; key = key; request = request }

-- A GLN sees after a step what it would see with its items alone, and if it is the caller, it gets the reply that it
-- would get alone. If the retailer asks for its status, the reply is the text of what it sees, or unknown before it is
-- registered.
pub record SeenAlone (gln : List ℕ) (t after : Tables) (input : Input) (mark : Mark) (reply : Reply) : Type 0 where
  pub seen : view gln after ≡ (alone gln (items_of_input gln t input mark) t).1
  pub told : input.caller ≡ gln → (alone gln (items_of_input gln t input mark) t).0 ≡ reply ∷ []
  pub status : AsksStatus gln t input → mark ≡ Whole → reply ≡ own_report gln (view gln t)

-- what a crash leaves after an input
abbrev pub LeavesOf : Tables → Input → Mark → Tables → (Tables → Type 0) → Tables → Type 0
LeavesOf t input = CrashLeaves (acts_of (upload_of (register_of t) input)) (λ mark t. shared_step t input mark) t

-- on every order line, the ordered quantity is the sum of the open, refused, cancelled and despatched ones
abbrev pub LinesBalance : Tables → Type 0
LinesBalance t = AllByRecursion (λ line. Balanced (view line.supplier t) line) t.lines

-- A step: the shared machine's, as a whole or up to where it was stopped, which the reply says. A sound start stays
-- sound, so lines balance, and each GLN but the retailer's, registered or not, sees and is told what it would be alone.
-- A crash leaves the acts that are done, or one more, or, if nothing changed, what it could leave before; and only
-- sound tables if it could leave only such before.
pub record Stepped (t after : Tables) (before left : Tables → Type 0) (input : Input) (reply : Reply) : Type 0 where
  pub mark : Mark
  pub is : shared_step t input mark ≡ (reply, after)
  pub stop : (reply.outcome ≡ Stopped) ↔ (mark ≢ Whole)
  pub sound : SoundHub after
  pub parties : parties_in after ≡ parties_in t
  pub balance : LinesBalance after
  pub alone : (gln : List ℕ) → IsOther gln t → SeenAlone gln t after input mark reply
  pub leaves : (u : Tables) → left u → LeavesOf t input mark after before u
  pub leaves_sound : ((u : Tables) → before u → SoundHub u) → (u : Tables) → left u → SoundHub u

-- What a GLN sees after a run, all replies to it, and its status if the retailer asks for it at some position, which is
-- the text of what it sees there.
pub record RunAlone (gln : List ℕ) (t after : Tables) (inputs : Inputs) (replies : List Reply) : Type 0 where
  pub seen : view gln after ≡ (alone gln (items gln t inputs) t).1
  pub told : replies_to gln inputs replies ≡ (alone gln (items gln t inputs) t).0
  pub status : (earlier later : Inputs) (input : Input) → inputs ≡ earlier ++ (input, Whole) ∷ later
      → AsksStatus gln t input → slice_get replies (length earlier) ≡
      Some (own_report gln (alone gln (items gln t earlier) t).1)

-- each input was stopped exactly where the reply to it says so
abbrev pub StopsTold : Inputs → List Reply → Type 0
StopsTold [] [] = ⊤
StopsTold [] (reply ∷ replies) = ⊥
StopsTold ((input, mark) ∷ inputs) [] = ⊥
StopsTold ((input, mark) ∷ inputs) (reply ∷ replies) =
    ((reply.outcome ≡ Stopped) ↔ (mark ≢ Whole)) × StopsTold inputs replies

-- An input of a run was stopped, and the tables are those after one more act of it; the later inputs changed nothing.
pub record StoppedSince (t after : Tables) (inputs : Inputs) (u : Tables) : Type 0 where
  pub earlier : Inputs
  pub input : Input
  pub mark : Mark
  pub later : Inputs
  pub are : inputs ≡ earlier ++ (input, mark) ∷ later
  pub more :
      OneMore (acts_of (upload_of (register_of (shared_run t earlier).1) input)) (λ mark t. shared_step t input mark)
      (shared_run t earlier).1 mark u
  pub since : (shared_run t (earlier ++ (input, mark) ∷ [])).1 ≡ after

-- What a crash leaves after a run: the tables after all acts that are done; if they changed nothing, what it could
-- leave before; or the tables after one more whole act.
abbrev pub RunLeaves : Tables → Inputs → Tables → (Tables → Type 0) → Tables → Type 0
RunLeaves t inputs after before u = (u ≡ after) ⊎ (((after ≡ t) × before u) ⊎ StoppedSince t after inputs u)

-- A run: the shared machine's over the inputs, each as a whole or up to where it was stopped, which its reply says. A
-- sound start stays sound, so lines balance, and each GLN but the retailer's sees and is told what it would be alone.
pub record RunBy (t after : Tables) (inputs : List Input) (replies : List Reply) : Type 0 where
  pub marked : Inputs
  pub are : map (λ x. x.0) marked ≡ inputs
  pub is : shared_run t marked ≡ (replies, after)
  pub stops : StopsTold marked replies
  pub sound : SoundHub after
  pub parties : parties_in after ≡ parties_in t
  pub balance : LinesBalance after
  pub alone : (gln : List ℕ) → IsOther gln t → RunAlone gln t after marked replies

-- A run over a store: a crash leaves the acts that are done, or one more, or, if nothing changed, what it could leave
-- before; and only sound tables if it could leave only such before.
pub record RunAndCrash (t after : Tables) (before left : Tables → Type 0) (inputs : List Input) (replies : List Reply)
    : Type 0 where
  pub run : RunBy t after inputs replies
  pub leaves : (u : Tables) → left u → RunLeaves t run.marked after before u
  pub leaves_sound : ((u : Tables) → before u → SoundHub u) → (u : Tables) → left u → SoundHub u
