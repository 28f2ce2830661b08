-- Defines what `check` prints for the text of a register, and `init` for a founding.
use Rattle.std.specs.Prelude.{◌≡◌, ◌⊎◌, ℕ, ◌≤◌, Bool, List, ◌++◌, length, codes, IsUtf8, Option, Result, Ok, Err}
use Rattle.std.specs.Fmt.{decimal}
use Rattle.std.specs.Io.KnownBytes.{Appends, Keeps}
use Rattle.edi_base.specs.declared.source.ReadFault.{ReadFault}
use Rattle.edi_base.specs.declared.source.ReadFault.TheVariants as read
use Rattle.edi_segments.specs.Spelling.{text_limit}
use Rattle.hub_commands.specs.Output.{ReportsFile, ReportsMemory}
use Rattle.hub_commands.specs.declared.check.RegisterTextFault.{RegisterTextFault}
use Rattle.hub_commands.specs.declared.check.RegisterTextFault.TheVariants.{File, Memory}
use Rattle.hub_parties.specs.Rows.{RegisterRows}
use Rattle.hub_register.specs.Text.{fault_text}
use Rattle.hub_register.specs.declared.fault.RegisterFault.{RegisterFault}

-- the line of a register, by its number of suppliers
abbrev pub ok_line : ℕ → List ℕ
ok_line count = codes "ok " ++ (decimal count ++ codes " suppliers\n")

-- the line of a fault, by its name
abbrev pub fault_line : List ℕ → List ℕ
fault_line fault = codes "fault " ++ (fault ++ codes "\n")

-- the line, by the register or the fault of the text
abbrev pub check_line : Result RegisterRows RegisterFault → List ℕ
check_line (Ok rows) = ok_line (length rows.suppliers)
check_line (Err fault) = fault_line (fault_text fault)

-- the exit status
abbrev pub check_status : Result RegisterRows RegisterFault → ℕ
check_status (Ok rows) = 0
check_status (Err fault) = 1

-- bytes that are the text of a register: it is no longer than that of an interchange
pub record IsRegisterText (bytes : List ℕ) : Type 0 where
  pub fits : length bytes ≤ text_limit
  pub utf8 : IsUtf8 bytes

-- what a failed read of a text is reported as
abbrev pub told_read_fault : ReadFault → RegisterTextFault
told_read_fault read.Read = File
told_read_fault read.Memory = Memory

-- what is printed if a text was not read
abbrev pub text_fault_line : RegisterTextFault → List ℕ
text_fault_line File = codes "file"
text_fault_line Memory = codes "memory"

-- The line was printed, with its own exit status, and nothing on the error output; or a write failed, and the error
-- output says `file`, with status 3.
abbrev pub PrintsReport : Option (List ℕ) → Option (List ℕ) → Bool → Bool → Option (List ℕ) → Option (List ℕ) → Bool →
    List ℕ → ℕ → ℕ → Type 0
PrintsReport old new was failed err_old err_new err_failed line status result =
    ((result ≡ status) × (failed ≡ was) × Appends old new line × Keeps err_old err_new)
    ⊎ ((result ≡ 3) × ReportsFile old new failed err_old err_new err_failed line)

-- why a line was not printed: a write failed, or memory ran out
abbrev pub FailsToPrint : Option (List ℕ) → Option (List ℕ) → Bool → Option (List ℕ) → Option (List ℕ) → Bool →
    List ℕ → Type 0
FailsToPrint old new failed err_old err_new err_failed line =
    ReportsFile old new failed err_old err_new err_failed line ⊎ ReportsMemory old new err_old err_new err_failed
