-- Writes the lines of despatch advices and receiving advices.
use Rattle.std.specs.Prelude.{ℕ, Bool, true, false, List, [], ◌++◌, codes}
use Rattle.std.specs.List.{flat_map}
use Rattle.std.specs.Fmt.{decimal}
use Rattle.edi_goods.specs.declared.despatch.Despatch.{Despatch}
use Rattle.edi_goods.specs.declared.despatch.DespatchLine.{DespatchLine}
use Rattle.edi_goods.specs.declared.despatch.Unit.{Unit as DespatchUnit}
use Rattle.edi_goods.specs.declared.receipt.Receipt.{Receipt}
use Rattle.edi_goods.specs.declared.receipt.ReceiptLine.{ReceiptLine}
use Rattle.edi_goods.specs.declared.receipt.ReceiptUnit.{ReceiptUnit}
use Rattle.edi_show.specs.Lines.{line, head_lines, buyer_text, line_text}

-- a line of a unit up to the order, whose number is free text
abbrev pub despatch_line_start : DespatchLine → List ℕ
despatch_line_start l =
    codes "    item "
    ++ (l.gtin ++ (codes " despatched " ++ (decimal l.quantity
    ++ (codes " line " ++ (line_text l.order_line ++ codes " order ")))))

unfoldable pub despatch_line : DespatchLine → List ℕ
despatch_line l = line (despatch_line_start l) l.order

unfoldable pub unit_lines : DespatchUnit → List ℕ
unit_lines unit = line (codes "  unit ") unit.sscc ++ flat_map despatch_line unit.lines

unfoldable pub despatch_lines : Despatch → List ℕ
despatch_lines despatch =
    head_lines (codes "  despatch ") despatch.number (buyer_text despatch.buyer) despatch.supplier
    ++ flat_map unit_lines despatch.units

unfoldable pub receipt_line : ReceiptLine → List ℕ
receipt_line l =
    codes "    item "
    ++ (l.gtin ++ (codes " accepted " ++ (decimal l.accepted ++ (codes " returned " ++ (decimal l.returned
    ++ (codes " destroyed " ++ (decimal l.destroyed ++ codes "\n")))))))

unfoldable pub receipt_unit_lines : ReceiptUnit → List ℕ
receipt_unit_lines unit = line (codes "  unit ") unit.sscc ++ flat_map receipt_line unit.lines

-- of an advice that takes the place of what was received
abbrev pub function_text : Bool → List ℕ
function_text true = codes "  replaces what was received\n"
function_text false = []

unfoldable pub receipt_lines : Receipt → List ℕ
receipt_lines receipt =
    head_lines (codes "  receipt ") receipt.number (buyer_text receipt.buyer) receipt.supplier
    ++ (function_text receipt.replaces ++ flat_map receipt_unit_lines receipt.units)
