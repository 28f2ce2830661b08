-- Defines what the messages of an upload do, one after another.
use Rattle.std.specs.Prelude.{◌≡◌, ℕ, Bool, List, length, take, Ok}
use Rattle.std.specs.List.{list_any}
use Rattle.edi_envelope.specs.declared.interchange.Interchange.{Interchange}
use Rattle.edi_envelope.specs.declared.interchange.RawMessage.{RawMessage}
use Rattle.hub_tables.specs.Tables.{Tables}
use Rattle.hub_rules.specs.declared.incoming.IncomingMessage.{IncomingMessage}
use Rattle.hub_law.specs.Messages.{incoming, messages_at}
use Rattle.hub_law.specs.Replies.{reply_lines}
use Rattle.hub_law.specs.Told.{Told, Act, is_refused, in_row}
use Rattle.hub_core.specs.Callers.{MayDeliver, delivered, does_opened}
use Rattle.hub_core.specs.Steps.{Does}
use Rattle.hub_core.specs.declared.upload.OpenedUpload.{OpenedUpload}

-- For an upload whose messages are handled: whether its caller may send them over these tables, the act of each, and
-- what the upload does, whole or stopped in each way.
abbrev pub MayTake : OpenedUpload → Tables → Type 0
MayTake upload = MayDeliver upload.register.now upload.caller

abbrev pub act_in : OpenedUpload → RawMessage → Act
act_in upload message =
    delivered upload.register.now upload.caller (message, incoming upload.moment upload.interchange.now message)

abbrev pub does_upload : OpenedUpload → Does
does_upload upload = does_opened upload.register.now upload.caller upload.moment (Ok upload.interchange.now)

-- the first messages are done, and the lines report them
pub record DoneSoFar (deliver : RawMessage × IncomingMessage → Act) (moment : ℕ) (interchange : Interchange)
    (t now : Tables) (count : ℕ) (refused : Bool) (body : List ℕ) : Type 0 where
  pub told : List Told
  pub counts : length told ≡ count
  pub is : in_row deliver (take count (messages_at moment interchange)) t ≡ (told, now)
  pub refusals : refused ≡ list_any is_refused told
  pub lines : body ≡ reply_lines interchange told
