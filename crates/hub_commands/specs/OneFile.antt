-- What one file of an import does.
use Rattle.std.specs.Prelude.{◌≡◌, ◌≢◌, ◌⊎◌, ℕ, Bool, List, [], Option, Result, Ok, Err}
use Rattle.edi_base.specs.declared.source.ReadFault.{ReadFault}
use Rattle.edi_base.specs.declared.source.ReadFault.TheVariants.{Read, Memory}
use Rattle.hub_core.specs.HubLaw.Replies.{stopped_line}
use Rattle.hub_requests.specs.declared.reply.Outcome.TheVariants.{Stopped}
use Rattle.hub_requests.specs.declared.reply.Reply.{Reply}
use Rattle.hub_commands.specs.Import.{Looked, Answered, Unread, Unnamed, NoMemory, Unprinted, ComesOf, ImportGoesOn, ImportEnds}
use Rattle.hub_commands.specs.Import.{WasGiven, unread_line, text_of, file_status}
use Rattle.hub_commands.specs.Output.{Written, Lost}
use Rattle.hub_commands.specs.Replies.{status_of}
use Rattle.hub_commands.specs.declared.files.NextFile.{NextFile}

-- what one file did to the hub: a step if it was uploaded, else nothing
abbrev pub FileDone : (List ℕ → Reply → Type 0) → Type 0 → Looked → Type 0
FileDone Steps Stays (Answered name bytes reply) = Steps bytes reply
FileDone Steps Stays (Unread name) = Stays
FileDone Steps Stays Unnamed = Stays
FileDone Steps Stays (NoMemory name) = Stays
FileDone Steps Stays (Unprinted name) = Stays

-- the status of a file after which the import goes on, or its end
abbrev pub Comes : {E : Type 0} → Option (List ℕ) → Option (List ℕ) → Bool → Bool → Looked → Result ℕ E → Type 0
Comes old new failed after one (Ok status) =
    ImportGoesOn one × Written old new failed after (text_of one) × (status ≡ file_status one)
Comes old new failed after one (Err ended) = ImportEnds old new failed after [] one

-- one file that was given
pub record LooksAt {B E : Type 0} (remaining : B → Option (List ℕ)) (broken : B → Type 0)
    (Steps : List ℕ → Reply → Type 0) (Stays : Type 0) (file : NextFile B) (old new : Option (List ℕ))
    (failed after : Bool) (result : Result ℕ E) : Type 0 where
  pub one : Looked
  pub is : ComesOf remaining broken file one
  pub given : WasGiven one
  pub did : FileDone Steps Stays one
  pub comes : Comes old new failed after one result

-- the status of a reply that was printed and was not stopped, or the end of the import
abbrev pub ReplyComes : {E : Type 0} → Option (List ℕ) → Option (List ℕ) → Bool → Bool → Reply → Result ℕ E → Type 0
ReplyComes old new failed after reply (Ok status) =
    (reply.outcome ≢ Stopped) × Written old new failed after reply.body × (status ≡ status_of reply)
ReplyComes old new failed after reply (Err ended) =
    ((reply.outcome ≡ Stopped) × Written old new failed after reply.body) ⊎ Lost old new after reply.body

-- the status of a file that cannot be read, or the end of the import if memory runs out for its bytes
abbrev pub FaultComes : {E : Type 0} → Option (List ℕ) → Option (List ℕ) → Bool → Bool → ReadFault → Result ℕ E → Type 0
FaultComes old new failed after Read (Ok status) = Written old new failed after unread_line × (status ≡ 3)
FaultComes old new failed after Read (Err ended) = Lost old new after unread_line
FaultComes old new failed after Memory (Ok status) = ⊥
FaultComes old new failed after Memory (Err ended) =
    Written old new failed after stopped_line ⊎ Lost old new after stopped_line
