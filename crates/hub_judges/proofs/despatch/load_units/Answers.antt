use Rattle.std.proofs.Common.{◌≡◌, ℕ, ◌||◌, List, Bool, [], ◌∷◌, sym, subst, ap, ◌∙◌}
use Rattle.std.specs.Iterator.Adapters.{zip_first, zip_second}
use Rattle.std.specs.Option.{IfSome, IfNone}
use Rattle.std.specs.Slice.Iter.{iter_rest}
use Rattle.std.proofs.lemmas.List.{append-nil}
use Rattle.std.proofs.lemmas.Slice.Zip.{Zip-more, either_empty_from_Zip}
use Rattle.edi_base.specs.Seen.{is_among}
use Rattle.hub_order_lines.specs.Book.{Orders}
use Rattle.hub_rules.specs.Judging.{joined}
use Rattle.hub_rules.specs.declared.verdict.Verdict.{Verdict}
use Rattle.hub_rules.specs.declared.verdict.Verdict.TheVariants.{Accept, Refuse}
use Rattle.hub_judges.specs.FromFacts.{new_pallet, no_sscc, lines_from, unit_checks, units_from}
use Rattle.hub_judges.proofs.Despatched.{unit_next, units_end}
use Rattle.hub_judges.proofs.despatch.load_units.Goals as goal
use Rattle.hub_judges.proofs.despatch.load_units.Goals.{In_ok-fault, then-is_used, else-is_used}

-- this unit from its checks on
abbrev here : (c : In_ok-fault) → (Orders → Verdict) → Verdict
here c next =
    joined c.loop-unit.changes (unit_checks c.args.row.now c.in-Some.unit.now.sscc c.if-is_used.was_used (joined
    (new_pallet c.args.row.now c.as_slice-number.result.now c.in-Some.unit.now.sscc ∷ [])
    (lines_from c.in-Some.unit.now.sscc 0 c.in-Some.unit.now.lines c.loop-unit.book next)))

-- the units after this one
abbrev after : (c : In_ok-fault) → Orders → Verdict
after c left =
    units_from c.args.row.now c.args.despatch.now.number (λ sscc. is_among sscc c.has_come.new.seen)
    (iter_rest (zip_first c.next.new.self)) (iter_rest (zip_second c.next.new.self)) left

-- the units up to this one, which is the next to be judged
reached : (c : In_ok-fault)
    → joined c.args.changes.now (units_from c.args.row.now c.args.despatch.now.number no_sscc
    c.args.despatch.now.units c.args.used.now c.args.book.now)
    ≡ here c (after c)
reached c =
    let unit = c.in-Some.unit.now in
    let came : List ℕ → Bool = λ sscc. is_among sscc c.loop-unit.seen in
    let later : List ℕ → Bool = λ sscc. is_among sscc c.has_come.new.seen in
    let ahead = Zip-more c.loop-unit.unit-iterator c.next.new.self _ (c.in-Some.unit, c.in-Some.is_used) c.in-Some.is
    c.next.ensures.steps in
    let taken : c.if-is_used.was_used ≡ (c.in-Some.is_used.now || came unit.sscc) =
    elim c.if-is_used.branch [
      | then-is_used w ↦ w.was_used-is ∙ w.if-is_used.true ∙ sym (ap (λ v. v || came unit.sscc) w.if-is_used.true)
      | else-is_used w ↦
          w.was_used-is ∙ c.in_ok-came.ensures.came ∙ sym (ap (λ v. v || came unit.sscc) w.if-is_used.false)
    ] in
    c.loop-unit.invariant
    ∙ unit_next c.args.row.now c.args.despatch.now.number came later _ _ _ _ c.loop-unit.book unit
    c.in-Some.is_used.now c.if-is_used.was_used c.as_slice-number.result.now c.loop-unit.changes
    ahead.0 ahead.1 taken c.in_ok-came.ensures.seen c.as_slice-number.ensures

pub returns-in-Some-2-clause-refused : goal.returns-in-Some-2-clause-refused
returns-in-Some-2-clause-refused c =
    let c_here = (goal.at.returns-in-Some-2-clause-refused c).In_ok-fault in
    reached c_here
    ∙ subst (λ fault. IfSome fault (λ code. (next : Orders → Verdict) → here c_here next ≡ Refuse code))
    c.in-Some-2.is c.in_ok-fault.ensures.refused (after c_here)

pub loop-unit-preserved : goal.loop-unit-preserved
loop-unit-preserved c =
    let c_here = (goal.at.loop-unit-preserved c).In_ok-fault in
    reached c_here
    ∙ subst (λ fault. IfNone fault ((next : Orders → Verdict)
    → here c_here next ≡ joined c.load_unit.new.changes (next c.load_unit.new.book)))
    c.in_default.is c.in_ok-fault.ensures.loaded (after c_here)

pub returns-clause-loaded : goal.returns-clause-loaded
returns-clause-loaded c =
    let seen : List ℕ → Bool = λ sscc. is_among sscc c.loop-unit.seen in
    let ended = either_empty_from_Zip c.loop-unit.unit-iterator c.next.new.self _ c.in-None.is c.next.ensures.steps in
    c.loop-unit.invariant
    ∙ ap (joined c.loop-unit.changes) (units_end c.args.row.now c.args.despatch.now.number seen _ _
    c.loop-unit.book ended)
    ∙ ap Accept (append-nil c.loop-unit.changes)
