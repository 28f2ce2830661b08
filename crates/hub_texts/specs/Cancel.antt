-- Defines how the body of a cancellation is read.
use Rattle.std.specs.Prelude.{ℕ, ◌==◌, Bool, not, ◌&&◌, if◌then◌else◌, List, [], ◌∷◌, Option, Some, None}
use Rattle.std.specs.List.{slice_split}
use Rattle.edi_base.specs.Limits.{are_digits, number_of}
use Rattle.edi_envelope.specs.Limits.{is_reference}
use Rattle.edi_messages.specs.Values.{is_document_number}
use Rattle.gs1_ids.specs.Gln.{is_gln}
use Rattle.hub_law.specs.HubRules.declared.cancel.Cancel.{Cancel}

-- LF, which ends a line
abbrev pub is_end : ℕ → Bool
is_end byte = byte == 0x0A

-- the number that 1 to `most` digits write, unless it is zero; leading zeros are allowed
abbrev pub positive : ℕ → List ℕ → Option ℕ
positive most digits = if are_digits 1 most digits && not (number_of digits == 0) then Some (number_of digits) else None

-- the cancellation with these fields, if they are valid: the supplier is a GLN, the cancellation's own reference has 1
-- to 14 bytes and the order number 1 to 35, each of 0x20 to 0x7E, and both the line number and the quantity are given
abbrev pub cancel_with : List ℕ → List ℕ → List ℕ → Option ℕ → Option ℕ → Option Cancel
cancel_with supplier reference order (Some line) (Some quantity) =
    if is_gln supplier && (is_reference reference && is_document_number order) then Some (record {
      supplier = supplier;
      reference = reference;
      order = order;
      line = line;
      quantity = quantity;
    })
    else None
cancel_with supplier reference order _ _ = None

-- exactly five lines, each ended by LF; line numbers have 1 to 6 digits, quantities 1 to 9
abbrev pub cancel_in : List (List ℕ) → Option Cancel
cancel_in (supplier ∷ reference ∷ order ∷ line ∷ quantity ∷ [] ∷ []) =
    cancel_with supplier reference order (positive 6 line) (positive 9 quantity)
cancel_in _ = None

-- the cancellation that a body contains, from the parts between its line ends
abbrev pub cancel_of : List ℕ → Option Cancel
cancel_of body = cancel_in (slice_split is_end body)
