-- Defines what one supplier sees and which replies it gets, whatever the others do.
use Rattle.std.specs.Prelude.{◌≡◌, ◌≢◌, ◌⊎◌, ℕ, List, [], ◌∷◌, ◌++◌, length, slice_get, Option, Some}
use Rattle.std.specs.List.{AllByRecursion}
use Rattle.hub_parties.specs.Rows.{role_of}
use Rattle.hub_parties.specs.declared.role.Role.TheVariants.{Retailer}
use Rattle.hub_parties.specs.declared.row.SupplierRow.{SupplierRow}
use Rattle.hub_tables.specs.Register.{register_of, parties_in, row_at}
use Rattle.hub_tables.specs.Sets.{Rising, SameRows}
use Rattle.hub_tables.specs.Tables.{Tables, view}
use Rattle.hub_rules.specs.Laws.{SoundHub}
use Rattle.hub_rules.specs.Sound.{Sound}
use Rattle.hub_law.specs.Alone.{Item, items_of_input, items, fold}
use Rattle.hub_law.specs.Machine.{Inputs, shared_step, shared_run, replies_to}
use Rattle.hub_law.specs.Mark.{Mark, Whole}
use Rattle.hub_law.specs.Requests.{report}
use Rattle.hub_requests.specs.declared.reply.Reply.{Reply}
use Rattle.hub_requests.specs.declared.request.Input.{Input}
use Rattle.hub_requests.specs.declared.request.Request.TheVariants.{StatusOf, Join}

-- the replies to the items of a GLN and the rows that they leave, if the tables had only that GLN's rows
abbrev pub alone : List ℕ → List Item → Tables → List Reply × Tables
alone gln items t = fold (parties_in t) gln items (view gln t)

-- After a step, the GLN sees exactly what its items alone would leave; and if it is the caller, it gets the reply that
-- it would get alone.
pub record StepIsOwn (gln : List ℕ) (t : Tables) (input : Input) (mark : Mark) : Type 0 where
  pub seen : view gln (shared_step t input mark).1 ≡ (alone gln (items_of_input gln t input mark) t).1
  pub told : input.caller ≡ gln →
      (alone gln (items_of_input gln t input mark) t).0 ≡ (shared_step t input mark).0 ∷ []

-- like `StepIsOwn`, for a whole run
pub record RunIsOwn (gln : List ℕ) (t : Tables) (inputs : Inputs) : Type 0 where
  pub seen : view gln (shared_run t inputs).1 ≡ (alone gln (items gln t inputs) t).1
  pub told : replies_to gln inputs (shared_run t inputs).0 ≡ (alone gln (items gln t inputs) t).0

-- the GLN is a supplier's, or no one's yet: it is not the retailer's
abbrev pub IsOther : List ℕ → Tables → Type 0
IsOther gln t = gln ≢ (parties_in t).retailer

-- the retailer, with its key, asks for the status of a GLN
pub record AsksStatus (gln : List ℕ) (t : Tables) (input : Input) : Type 0 where
  pub retailers : role_of (register_of t) input.caller input.key ≡ Some Retailer
  pub asks : input.request ≡ StatusOf gln

-- the status of a GLN, from its own rows: unknown before it has its register row
abbrev pub own_report : List ℕ → Tables → Reply
own_report gln state = report (row_at gln state) state

-- the reply to an input that is not stopped and has some inputs before it and others after it
abbrev pub reply_between : Tables → Inputs → Input → Inputs → Option Reply
reply_between t before input later =
    slice_get (shared_run t (before ++ (input, Whole) ∷ later)).0 (length before)

-- Two runs on sound tables agree on a GLN that is not the retailer's: on the GLNs of hub and retailer, on the rows of
-- the GLN at the start (including its register row, or that it has none), and on its items.
pub record Agree (gln : List ℕ) (t u : Tables) (xs ys : Inputs) : Type 0 where
  pub here : SoundHub t
  pub there : SoundHub u
  pub other : IsOther gln t
  pub parties : parties_in t ≡ parties_in u
  pub rows : SameRows (view gln t) (view gln u)
  pub items : items gln t xs ≡ items gln u ys

-- The retailer asks for the status of the GLN in each of two runs that agree on it, whatever follows, and the two runs
-- have equally many of its items before the request.
pub record AgreeBefore (gln : List ℕ) (t u : Tables) (xs xs_later ys ys_later : Inputs) (x y : Input) : Type 0 where
  pub agree : Agree gln t u (xs ++ (x, Whole) ∷ xs_later) (ys ++ (y, Whole) ∷ ys_later)
  pub as_many : length (items gln t xs) ≡ length (items gln u ys)
  pub asks : AsksStatus gln t x
  pub asks_too : AsksStatus gln u y

-- no input asks to register the GLN
abbrev pub NobodyLetsIn : List ℕ → Inputs → Type 0
NobodyLetsIn gln inputs =
    AllByRecursion (λ (x : Input × Mark). (row : SupplierRow) → x.0.request ≡ Join row → row.gln ≢ gln) inputs

-- A caller other than the GLN asks to register a supplier other than the GLN. And the GLN has its row already, or no
-- one asks to register it later: whether it may join would depend on who joined before.
pub record StandsApart (gln : List ℕ) (t : Tables) (input : Input) (row : SupplierRow) (later : Inputs) : Type 0 where
  pub asks : input.request ≡ Join row
  pub caller : input.caller ≢ gln
  pub other : row.gln ≢ gln
  pub settled : ((s : SupplierRow) × (row_at gln t ≡ Some s)) ⊎ NobodyLetsIn gln later

-- the tables are sound, and the keys of each kind rise
pub record StaySound (suppliers : List SupplierRow) (t : Tables) : Type 0 where
  pub sound : Sound suppliers t
  pub rising : Rising t
