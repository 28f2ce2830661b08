use Rattle.std.proofs.Common.{◌≡◌, ℕ, ◌||◌, ◌&&◌, not, false, List, ◌∷◌, Bool, sym, subst, ap, ◌∙◌}
use Rattle.std.specs.Iterator.Adapters.{zip_second}
use Rattle.std.specs.List.{AllByRecursion}
use Rattle.std.specs.Slice.Iter.{iter_rest}
use Rattle.std.proofs.lemmas.List.{append-nil}
use Rattle.std.proofs.lemmas.Slice.Zip.{Zip-more, either_empty_from_Zip}
use Rattle.edi_base.specs.Seen.{is_among}
use Rattle.hub_tables.specs.State.{is_announced}
use Rattle.hub_rules.specs.Judging.{joined}
use Rattle.hub_rules.specs.declared.verdict.Verdict.TheVariants.{Accept}
use Rattle.hub_judges.specs.Totals.{RowsHold}
use Rattle.hub_judges.proofs.Received.{unit_received, receipts_end}
use Rattle.hub_judges.proofs.receipt.judge_units.Goals as goal

pub loop-unit-preserved : goal.loop-unit-preserved
loop-unit-preserved c =
    let unit = c.in-Some.unit.now in
    let row = c.in-Some-pallet.pallet in
    let came : List ℕ → Bool = λ sscc. is_among sscc c.loop-unit.seen in
    let later : List ℕ → Bool = λ sscc. is_among sscc c.has_come.new.seen in
    let ahead = Zip-more c.loop-unit.unit-iterator c.next.new.self _ (c.in-Some.unit, c.in-Some.pallet) c.in-Some.is c.next.ensures.steps in
    let passes : (not c.args.replaces && (came unit.sscc || not (is_announced row))) ≡ false =
    ap (λ v. not c.args.replaces && (v || not (is_announced row))) (sym c.in_ok-came.ensures.came)
    ∙ sym c.is_received_twice.ensures
    ∙ c.if-is_received_twice.false in
    record {
      changes = c.loop-unit.invariant.changes
          ∙ unit_received c.args.replaces came later _ _ _ _ unit row c.loop-unit.changes c.receive.new.changes ahead.0
          (ahead.1 ∙ ap (λ one. one ∷ iter_rest (zip_second c.next.new.self)) c.in-Some-pallet.is) passes
          c.in_ok-came.ensures.seen c.in_ok-receive.ensures;
      hold = (subst (AllByRecursion (λ unit. RowsHold unit.lines)) ahead.0 c.loop-unit.invariant.hold).1;
    }

pub returns : goal.returns
returns c =
    let seen : List ℕ → Bool = λ sscc. is_among sscc c.loop-unit.seen in
    let ended = either_empty_from_Zip c.loop-unit.unit-iterator c.next.new.self _ c.in-None.is c.next.ensures.steps in
    sym (c.loop-unit.invariant.changes
    ∙ ap (joined c.loop-unit.changes) (receipts_end c.args.replaces seen _ _ ended)
    ∙ ap Accept (append-nil c.loop-unit.changes))
