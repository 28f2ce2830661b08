-- Defines how the bytes of an upload are opened: as an interchange for this hub, or with the code of a fault of the
-- text or the envelope.
use Rattle.std.specs.Prelude.{ℕ, not, List, if◌then◌else◌, codes, Result, Ok, Err}
use Rattle.std.specs.List.{list_any}
use Rattle.edi_envelope.specs.Opened.{opened, code_text}
use Rattle.edi_envelope.specs.declared.fault.OpenFault.{OpenFault}
use Rattle.edi_envelope.specs.declared.interchange.Interchange.{Interchange}
use Rattle.hub_tables.specs.Rows.{same}

-- an interchange, or the code of its fault
abbrev pub Opened : Type 0
Opened = Result Interchange (List ℕ)

-- reduces a fault to its code
abbrev pub told_as : Result Interchange OpenFault → Opened
told_as (Ok interchange) = Ok interchange
told_as (Err fault) = Err (code_text fault)

unfoldable pub interchange_in : List ℕ → Opened
interchange_in bytes = told_as (opened bytes)

-- E08: the sender is not the caller; E09: the recipient is not one of `recipients`
abbrev pub addressed : List ℕ → List (List ℕ) → Opened → Opened
addressed caller recipients (Err code) = Err code
addressed caller recipients (Ok interchange) =
    if not (same interchange.head.sender caller) then Err (codes "E08")
    else (if list_any (same interchange.head.recipient) recipients then Ok interchange
    else Err (codes "E09"))
