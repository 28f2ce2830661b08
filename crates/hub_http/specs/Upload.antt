-- Defines what the body of an upload opens as.
use Rattle.std.specs.Prelude.{◌≡◌, ℕ, List, Option, Some, None, Result}
use Rattle.edi_envelope.specs.declared.fault.OpenFault.{OpenFault}
use Rattle.edi_envelope.specs.declared.interchange.Interchange.{Interchange}
use Rattle.edi_envelope.specs.Opened.{opened, Opens}

-- what the body opens as, or none if it breaks off
abbrev pub IsUpload : Option (Result Interchange OpenFault) → Option (List ℕ) → Type 0
IsUpload (Some upload) body = (bytes : List ℕ) × (body ≡ Some bytes) × Opens upload (opened bytes)
IsUpload None body = body ≡ None
