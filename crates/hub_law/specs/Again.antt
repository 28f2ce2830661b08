-- Defines what happens when a message or a cancellation is sent again in a run.
use Rattle.std.specs.Prelude.{◌≡◌, ℕ, ◌<◌, List, length, slice_get, Option, Some, Ok}
use Rattle.edi_envelope.specs.declared.interchange.RawMessage.{RawMessage}
use Rattle.hub_parties.specs.Rows.{role_of}
use Rattle.hub_parties.specs.declared.role.Role.TheVariants.{Retailer}
use Rattle.hub_parties.specs.declared.row.SupplierRow.{SupplierRow}
use Rattle.hub_tables.specs.Register.{register_of}
use Rattle.hub_tables.specs.Tables.{Tables}
use Rattle.hub_rules.specs.Sound.{Sound}
use Rattle.hub_rules.specs.declared.cancel.Cancel.{Cancel}
use Rattle.hub_rules.specs.Laws.{SoundHub}
use Rattle.hub_law.specs.Mark.{Mark}
use Rattle.hub_law.specs.Remembered.{StaysRemembered}
use Rattle.hub_law.specs.Requests.{looked_at}
use Rattle.hub_law.specs.Stops.{Upload, upload_of, all_acts, first_acts}
use Rattle.hub_law.specs.Told.{Told, Accepted}
use Rattle.hub_requests.specs.declared.request.Input.{Input}
use Rattle.hub_requests.specs.declared.request.Request.TheVariants as requests

-- the input is an upload whose messages are handled, and this is its message at a place counted from 0
pub record MessageAt (t : Tables) (input : Input) (place : ℕ) (message : RawMessage) : Type 0 where
  pub upload : Upload
  pub looked_at : upload_of (register_of t) input ≡ Some upload
  pub there : slice_get upload.interchange.messages place ≡ Some message

-- the upload was not stopped before the message at this place was done
abbrev pub Reaches : Mark → Input → Upload → ℕ → Type 0
Reaches mark input upload place = place < length (looked_at input.moment mark (Ok upload.interchange))

-- the tables just before the message at a place of an upload is done, if the upload starts on `t`
abbrev pub tables_before : Tables → Input → Upload → ℕ → Tables
tables_before t input upload place = (first_acts place upload input.moment t).1

-- the result of the message at a place
abbrev pub told_at : Tables → Input → Upload → ℕ → Option Told
told_at t input upload place = slice_get (all_acts upload input.moment t).0 place

-- The message at a place of an upload that starts on sound tables is accepted, and the upload is not stopped before it
-- is done.
pub record AcceptedAt (t : Tables) (input : Input) (mark : Mark) (place : ℕ) (message : RawMessage) : Type 0 where
  pub start : SoundHub t
  pub comes : MessageAt t input place message
  pub reached : Reaches mark input comes.upload place
  pub accepted : told_at t input comes.upload place ≡ Some Accepted

-- both inputs have the same caller and the same control reference
pub record SameReference (first second : Input) (one other : Upload) : Type 0 where
  pub caller : second.caller ≡ first.caller
  pub control : other.interchange.head.reference ≡ one.interchange.head.reference

-- The message was accepted, and it is sent again on sound tables that still remember all that was remembered after it.
pub record AcceptedBefore (after : Told × Tables) (suppliers : List SupplierRow) (u : Tables) : Type 0 where
  pub accepted : after.0 ≡ Accepted
  pub remembered : StaysRemembered after.1 u
  pub sound : Sound suppliers u

-- the retailer, with its key, asks for the cancellation
pub record AsksCancel (t : Tables) (c : Cancel) (input : Input) : Type 0 where
  pub retailers : role_of (register_of t) input.caller input.key ≡ Some Retailer
  pub asks : input.request ≡ requests.Cancel c
