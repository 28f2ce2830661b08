-- Defines acts: what one message, one cancellation or one join does to the tables, and its result.
use Rattle.std.specs.Prelude.{ℕ, Bool, true, false, List, [], ◌∷◌, Result, Ok, Err}
use Rattle.edi_messages.specs.Fault as message_faults
use Rattle.edi_messages.specs.declared.fault.MessageFault.{MessageFault}
use Rattle.hub_tables.specs.Change.{apply_all}
use Rattle.hub_tables.specs.Tables.{Tables}
use Rattle.hub_rules.specs.Code as rules
use Rattle.hub_rules.specs.declared.verdict.Verdict.{Verdict}
use Rattle.hub_rules.specs.declared.verdict.Verdict.TheVariants.{Accept, Refuse}
use Rattle.hub_law.specs.InTurn.{single, followed_by}

-- accepted, repeated, or refused with a code
pub data Told : Type 0 where
  Accepted : Told
  Repeated : Told
  Refused : List ℕ → Told

abbrev pub is_refused : Told → Bool
is_refused Accepted = false
is_refused Repeated = false
is_refused (Refused code) = true

-- a verdict without changes is a repetition
abbrev pub told : Verdict → Told
told (Accept []) = Repeated
told (Accept (change ∷ changes)) = Accepted
told (Refuse code) = Refused (rules.code_text code)

abbrev pub changed : Verdict → Tables → Tables
changed (Accept changes) t = apply_all changes t
changed (Refuse code) t = t

abbrev pub Act : Type 0
Act = Tables → Told × Tables

abbrev pub act : Verdict → Act
act verdict t = (told verdict, changed verdict t)

-- refused with the fault if the message cannot be read, else what the rules decide for what was read
abbrev pub read_act : {X : Type 0} → Result X MessageFault → (X → Verdict) → Act
read_act (Err fault) judge t = (Refused (message_faults.code_text fault), t)
read_act (Ok message) judge t = act (judge message) t

-- acts one after another, with the result of each
abbrev pub in_row : {X : Type 0} → (X → Act) → List X → Tables → List Told × Tables
in_row step [] t = ([], t)
in_row step (x ∷ xs) t = followed_by (single (step x t)) (in_row step xs)
