use Rattle.std.proofs.Common.{◌≡◌, [], ◌∷◌, ◌++◌, sym, subst, ap, ◌∙◌}
use Rattle.std.specs.Option.{IfSome, IfNone}
use Rattle.hub_order_lines.specs.Book.{Orders}
use Rattle.hub_rules.specs.Judging.{joined}
use Rattle.hub_rules.specs.declared.verdict.Verdict.{Verdict}
use Rattle.hub_rules.specs.declared.verdict.Verdict.TheVariants.{Refuse}
use Rattle.hub_judges.specs.FromFacts.{lines_from, new_pallet, unit_checks}
use Rattle.hub_judges.proofs.Despatched.{joined_grouped}
use Rattle.hub_judges.proofs.despatch.load_unit.Goals as goal
use Rattle.hub_judges.proofs.despatch.load_unit.Goals.{In_ok-fault}

-- the unit from its checks on
abbrev whole : (c : In_ok-fault) → (Orders → Verdict) → Verdict
whole c next =
    joined c.args.changes.now (unit_checks c.args.row.now c.args.unit.now.sscc c.args.used (joined
    (new_pallet c.args.row.now c.args.advice.now c.args.unit.now.sscc ∷ [])
    (lines_from c.args.unit.now.sscc 0 c.args.unit.now.lines c.args.book.now next)))

-- the unit passes its checks, and its lines follow
passed : (c : In_ok-fault) (next : Orders → Verdict) → whole c next
    ≡ joined c.append.new.changes (lines_from c.args.unit.now.sscc 0 c.args.unit.now.lines c.args.book.now next)
passed c next =
    let unit = c.args.unit.now in
    let added = new_pallet c.args.row.now c.args.advice.now unit.sscc ∷ [] in
    let lines : Verdict = lines_from unit.sscc 0 unit.lines c.args.book.now next in
    ap (joined c.args.changes.now) (c.in_default.ensures.none (joined added lines))
    ∙ sym (joined_grouped c.args.changes.now added lines)
    ∙ ap (λ changes. joined changes lines)
    (sym (c.in_ok-append.ensures ∙ ap (λ change. c.args.changes.now ++ change ∷ []) c.in_ok-pallet.ensures))

pub returns-clause-refused : goal.returns-clause-refused
returns-clause-refused c =
    let here = (goal.at.returns-clause-refused c).In_ok-fault in
    subst (λ (start : (Orders → Verdict) → Verdict). IfSome c.in_ok-fault.fault (λ code. (next : Orders → Verdict)
    → start next ≡ Refuse code)) (λ i next. sym (passed here next) i) c.in_ok-fault.ensures.refused

pub returns-clause-loaded : goal.returns-clause-loaded
returns-clause-loaded c =
    let here = (goal.at.returns-clause-loaded c).In_ok-fault in
    subst (λ (start : (Orders → Verdict) → Verdict). IfNone c.in_ok-fault.fault ((next : Orders → Verdict)
    → start next ≡ joined c.load.new.changes (next c.load.new.book))) (λ i next. sym (passed here next) i)
    c.in_ok-fault.ensures.loaded
