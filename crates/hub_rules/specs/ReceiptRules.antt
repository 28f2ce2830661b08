-- The rules of RECADV (B14, B15, and B16 of MailboxRules).
use Rattle.std.specs.Prelude.{ℕ, Bool, true, false, not, ◌&&◌, List, [], ◌∷◌, ◌++◌, length, map, filter, sum_by}
use Rattle.edi_documents.specs.EdiGoods.declared.receipt.Receipt.{Receipt}
use Rattle.edi_documents.specs.EdiGoods.declared.receipt.ReceiptLine.{ReceiptLine}
use Rattle.edi_documents.specs.EdiGoods.declared.receipt.ReceiptUnit.{ReceiptUnit}
use Rattle.hub_tables.specs.Cases.{arrival_number}
use Rattle.hub_tables.specs.Rows.{same}
use Rattle.hub_tables.specs.State.{pallet_of, is_announced}
use Rattle.hub_tables.specs.declared.cases.Arrival.{Arrival}
use Rattle.hub_tables.specs.declared.cases.Arrival.TheVariants.{Received, Replaced}
use Rattle.hub_tables.specs.declared.cases.MailKind.TheVariants as kinds
use Rattle.hub_tables.specs.declared.change.Change.{Change}
use Rattle.hub_tables.specs.declared.change.Change.TheVariants.{SetPallet, AddReceipt, ClearReceipts}
use Rattle.hub_rules.specs.Judging.{Judge, gives, refuse_if, given, in_turn, in_order}
use Rattle.hub_rules.specs.MailboxRules.{is_full, new_mail}
use Rattle.hub_rules.specs.declared.code.Code.TheVariants.{NoPallet, PalletReceived, MailboxFull}
use Rattle.hub_rules.specs.declared.incoming.IncomingMessage.{IncomingMessage}
use Rattle.hub_rules.specs.declared.verdict.Verdict.TheVariants.{Accept}

-- the articles of the lines, each once, in the order in which they first appear
abbrev pub gtins : List ReceiptLine → List (List ℕ)
gtins [] = []
gtins (line ∷ lines) = line.gtin ∷ filter (λ gtin. not (same gtin line.gtin)) (gtins lines)

-- the total of one quantity over the lines of an article
abbrev pub total : (ReceiptLine → ℕ) → List ℕ → List ReceiptLine → ℕ
total kind gtin lines = sum_by kind (filter (λ line. same line.gtin gtin) lines)

-- the receipt of one article on a pallet
abbrev pub new_receipt : List ℕ → List ReceiptLine → List ℕ → Change
new_receipt sscc lines gtin = AddReceipt (record {
  sscc = sscc;
  gtin = gtin;
  accepted = total (λ line. line.accepted) gtin lines;
  returned = total (λ line. line.returned) gtin lines;
  destroyed = total (λ line. line.destroyed) gtin lines;
})

-- what happens to a pallet: an advice that replaces deletes the pallet's earlier receipts
abbrev pub arrival_by : Bool → Arrival
arrival_by true = Replaced
arrival_by false = Received

abbrev pub cleared : Bool → List ℕ → List Change
cleared true sscc = ClearReceipts sscc ∷ []
cleared false sscc = []

-- a unit: B14, and B15 unless the advice replaces; then the pallet is received, with the totals of each article
abbrev pub judge_received : Bool → ReceiptUnit → Judge
judge_received replaces unit state =
    given (pallet_of state unit.sscc) NoPallet (λ pallet.
    refuse_if (not replaces && not (is_announced pallet)) PalletReceived (
    Accept (SetPallet (record pallet { received = arrival_number (arrival_by replaces) })
    ∷ cleared replaces unit.sscc ++ map (new_receipt unit.sscc unit.lines) (gtins unit.lines))))

-- B16; then the mailbox entry and the units
abbrev pub judge_new_receipt : List ℕ → IncomingMessage → List ℕ → Receipt → Judge
judge_new_receipt supplier incoming body receipt state =
    refuse_if (is_full (length state.mail)) MailboxFull (
    in_turn (gives (new_mail supplier state incoming kinds.Receipt receipt.number body ∷ []))
    (in_order (judge_received receipt.replaces) receipt.units) state)
