-- What is printed of a database.
use Rattle.std.specs.Prelude.{ℕ, ◌+◌, ◌-◌, ◌/◌, ◌%◌, ◌==◌, nat_lt, Bool, ◌&&◌, not, List, [], ◌∷◌, ◌++◌, codes, if◌then◌else◌}
use Rattle.std.specs.Fmt.{decimal}
use Rattle.std.specs.List.{flat_map}
use Rattle.hub_audit.specs.declared.audit.Audit.{Audit}
use Rattle.hub_audit.specs.declared.audit.Audit.TheVariants.{Sound, Unclean, Unsound, Earlier}
use Rattle.hub_sound.specs.declared.finding.Finding.{Finding}
use Rattle.hub_sound.specs.declared.finding.KeyCell.{KeyCell}
use Rattle.hub_sound.specs.declared.finding.KeyCell.TheVariants.{Bytes, Number, Other}
use Rattle.hub_sound.specs.declared.finding.RowKind.{RowKind}
use Rattle.hub_sound.specs.declared.finding.RowKind.TheVariants as kinds
use Rattle.hub_verify.specs.declared.counts.Counts.{Counts}

-- 0 to 9, A to F
abbrev pub hex_digit : ℕ → ℕ
hex_digit n = if nat_lt n 10 then 48 + n else 65 + (n - 10)

-- visible, and not the percent sign
abbrev pub is_plain : ℕ → Bool
is_plain byte = nat_lt 32 byte && (nat_lt byte 127 && not (byte == 37))

-- itself, or the percent sign and two digits
unfoldable pub byte_text : ℕ → List ℕ
byte_text byte = if is_plain byte then byte ∷ [] else 37 ∷ hex_digit (byte / 16) ∷ hex_digit (byte % 16) ∷ []

-- an empty text is shown too
unfoldable pub text_of : List ℕ → List ℕ
text_of [] = codes "%"
text_of (byte ∷ bytes) = flat_map byte_text (byte ∷ bytes)

abbrev pub number_text : ℕ → List ℕ
number_text n = decimal n

-- a column of a key, after a blank
unfoldable pub cell_text : KeyCell → List ℕ
cell_text (Bytes bytes) = codes " " ++ text_of bytes
cell_text (Number n) = codes " " ++ number_text n
cell_text Other = codes " " ++ codes "%?"

-- the names of the tables
abbrev pub kind_word : RowKind → List ℕ
kind_word kinds.Hub = codes "hub"
kind_word kinds.Supplier = codes "supplier"
kind_word kinds.Prefix = codes "prefix"
kind_word kinds.Order = codes "order"
kind_word kinds.Line = codes "line"
kind_word kinds.Advice = codes "advice"
kind_word kinds.Pallet = codes "pallet"
kind_word kinds.Content = codes "content"
kind_word kinds.Receipt = codes "receipt"
kind_word kinds.Remembered = codes "remembered"
kind_word kinds.Mail = codes "mail"

-- a row, after a word
unfoldable pub finding_line : List ℕ → Finding → List ℕ
finding_line word found = word ++ (kind_word found.kind ++ (flat_map cell_text found.key ++ codes "\n"))

unfoldable pub number_line : List ℕ → ℕ → List ℕ
number_line name n = name ++ (number_text n ++ codes "\n")

unfoldable pub goods_lines : Counts → List ℕ
goods_lines counts =
    number_line (codes "suppliers ") counts.suppliers
    ++ (number_line (codes "orders ") counts.orders
    ++ (number_line (codes "order lines ") counts.lines
    ++ (number_line (codes "open lines ") counts.open_lines
    ++ (number_line (codes "pallets ") counts.pallets
    ++ number_line (codes "received pallets ") counts.received_pallets))))

unfoldable pub message_lines : Counts → List ℕ
message_lines counts =
    number_line (codes "mailbox entries ") counts.entries
    ++ (number_line (codes "entries not taken ") counts.untaken_entries
    ++ number_line (codes "remembered messages ") counts.remembered)

unfoldable pub sound_lines : Counts → ℕ → List ℕ
sound_lines counts size =
    codes "ok\n" ++ (goods_lines counts ++ (message_lines counts
    ++ (number_line (codes "file size ") size ++ codes "schema 3\n")))

abbrev pub report_text : Audit → ℕ → List ℕ
report_text (Sound counts) size = sound_lines counts size
report_text (Unclean found) size = finding_line (codes "unclean ") found
report_text (Unsound found) size = finding_line (codes "unsound ") found
report_text (Earlier number) size = number_line (codes "schema ") number

abbrev pub report_status : Audit → ℕ
report_status (Sound counts) = 0
report_status (Unclean found) = 1
report_status (Unsound found) = 1
report_status (Earlier number) = 1
