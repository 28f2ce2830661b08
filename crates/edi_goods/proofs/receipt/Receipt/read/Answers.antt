use Rattle.std.proofs.Common.{rules, List, map, ap, ◌∙◌}
use Rattle.std.specs.List.{list_all}
use Rattle.edi_base.specs.Seen.{has_twice}
use Rattle.edi_goods.specs.Receipt as spec
use Rattle.edi_goods.specs.Units.{read_units}
use Rattle.edi_goods.specs.declared.receipt.ReceiptUnit.{ReceiptUnit}
use Rattle.edi_goods.proofs.Read.{receipt_units_apart, receipt_units_sums, receipt_when}
use Rattle.edi_goods.proofs.receipt.Receipt.read.Goals as goal

pub returns-clause-apart : goal.returns-clause-apart
returns-clause-apart c =
    ap (λ (units : List ReceiptUnit). has_twice (map (λ unit. unit.sscc) units)) c.in_ok-units.ensures.said
    ∙ receipt_units_apart c.args.message.now.segments c.in_ok-units.ensures.units

pub returns-clause-sums : goal.returns-clause-sums
returns-clause-sums c =
    ap (list_all (λ (unit : ReceiptUnit). spec.has_sums unit.lines)) c.in_ok-units.ensures.said
    ∙ receipt_units_sums (read_units c.args.message.now.segments) c.in_ok-units.ensures.quantities

pub returns-clause-ok : goal.returns-clause-ok
returns-clause-ok c = receipt_when c.args.message.now _ c.in_ok-parties.ensures.ok c.in_ok-units.ensures.ok (search rules)
