use Rattle.std.proofs.Common.{◌≡◌, ℕ, List, ◌+◌, ◌∷◌, drop, sym, subst, ap, ap₂, ◌∙◌, refl}
use Rattle.std.specs.Option.{IfSome, IfNone}
use Rattle.std.proofs.lemmas.List.{drop_more}
use Rattle.edi_goods.specs.declared.despatch.DespatchLine.{DespatchLine}
use Rattle.hub_order_lines.specs.Book.{Orders}
use Rattle.hub_rules.specs.Judging.{joined}
use Rattle.hub_rules.specs.declared.verdict.Verdict.{Verdict}
use Rattle.hub_rules.specs.declared.verdict.Verdict.TheVariants.{Refuse}
use Rattle.hub_judges.specs.FromFacts.{lines_from}
use Rattle.hub_judges.proofs.despatch.load.Goals as goal
use Rattle.hub_judges.proofs.despatch.load.Goals.{In_ok-code}

-- the lines up to this one, which is the next to be judged
reached : (c : In_ok-code) (next : Orders → Verdict)
    → joined c.args.changes.now (lines_from c.args.unit.now.sscc 0 c.args.unit.now.lines c.args.book.now next)
    ≡ joined c.loop-index.changes (lines_from c.args.unit.now.sscc c.loop-index.index (c.index-lines-index.result
    ∷ drop (c.loop-index.index + 1) c.args.unit.now.lines) c.loop-index.book next)
reached c next =
    let i = c.loop-index.index in
    let ahead = ap (drop i) (sym c.as_slice-lines.ensures)
    ∙ drop_more c.as_slice-lines.result.now i c.index-lines-index.result c.loop-index-test.true
    ∙ ap₂ (λ one xs. one ∷ drop (i + 1) xs) (sym c.index-lines-index.is) c.as_slice-lines.ensures in
    c.loop-index.invariant next
    ∙ ap (λ said. joined c.loop-index.changes (lines_from c.args.unit.now.sscc i said c.loop-index.book next)) ahead

pub loop-index-preserved : goal.loop-index-preserved
loop-index-preserved c = λ next.
    let unit = c.args.unit.now in
    let i = c.loop-index.index in
    let said = c.index-lines-index.result in
    let here = (goal.at.loop-index-preserved c).In_ok-code in
    reached here next
    ∙ subst (λ fault. IfNone fault ((n : ℕ) (rest : List DespatchLine) (next : Orders → Verdict) → n + 1 ≡ i + 1 →
    joined c.loop-index.changes (lines_from unit.sscc n (said ∷ rest) c.loop-index.book next)
    ≡ joined c.load_line.new.changes (lines_from unit.sscc (n + 1) rest c.load_line.new.book next)))
    c.in_default.is c.in_ok-code.ensures.loaded i (drop (i + 1) unit.lines) next refl

pub returns-in-Some-clause-refused : goal.returns-in-Some-clause-refused
returns-in-Some-clause-refused c = λ next.
    let unit = c.args.unit.now in
    let i = c.loop-index.index in
    let said = c.index-lines-index.result in
    let here = (goal.at.returns-in-Some-clause-refused c).In_ok-code in
    reached here next
    ∙ subst (λ fault. IfSome fault (λ code. (n : ℕ) (rest : List DespatchLine) (next : Orders → Verdict) →
    joined c.loop-index.changes (lines_from unit.sscc n (said ∷ rest) c.loop-index.book next)
    ≡ Refuse code)) c.in-Some.is c.in_ok-code.ensures.refused i (drop (i + 1) unit.lines) next
