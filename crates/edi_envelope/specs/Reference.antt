-- References of one length, as they are kept and compared.
use Rattle.std.specs.Prelude.{ℕ, ◌-◌, List, ◌++◌, length, replicate, if◌then◌else◌}
use Rattle.edi_envelope.specs.Limits.{is_reference}

-- a reference, filled up to 14 bytes with zero bytes, which no reference has; zero bytes alone for anything else
abbrev pub filled_reference : List ℕ → List ℕ
filled_reference text = if is_reference text then text ++ replicate (14 - length text) 0 else replicate 14 0
