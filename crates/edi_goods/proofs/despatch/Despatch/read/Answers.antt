use Rattle.std.proofs.Common.{rules, List, map, ap, ◌∙◌}
use Rattle.edi_base.specs.Seen.{has_twice}
use Rattle.edi_goods.specs.Despatch as spec
use Rattle.edi_goods.specs.declared.despatch.Unit.{Unit as DespatchUnit}
use Rattle.edi_goods.proofs.Read.{despatch_units_apart, despatch_when}
use Rattle.edi_goods.proofs.despatch.Despatch.read.Goals as goal

pub returns-clause-apart : goal.returns-clause-apart
returns-clause-apart c =
    let segments = c.args.message.now.segments in
    ap (λ (units : List DespatchUnit). has_twice (map (λ unit. unit.sscc) units)) c.in_ok-units.ensures.said
    ∙ despatch_units_apart (spec.header_order segments) segments c.in_ok-units.ensures.units

pub returns-clause-ok : goal.returns-clause-ok
returns-clause-ok c = despatch_when c.args.message.now _ c.in_ok-parties.ensures.ok c.in_ok-units.ensures.ok (search rules)
