-- Defines what a write does to a sink's `failed` flag, and what is printed if it fails.
use Rattle.std.specs.Prelude.{ℕ, Bool, true, ◌==◌, ◌&&◌, not, List, length, codes, Result, Ok, Err}

-- the write returned an error, or accepted none of some bytes
abbrev pub write_failed : {E : Type 0} → Result ℕ E → List ℕ → Bool
write_failed (Ok n) bytes = n == 0 && not (length bytes == 0)
write_failed (Err e) bytes = true

abbrev pub write_fault_text : List ℕ
write_fault_text = codes "write"
