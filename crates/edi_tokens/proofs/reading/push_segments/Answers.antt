use Rattle.std.proofs.Common.{◌≡◌, ℕ, ◌-◌, Bool, true, List, [], ◌∷◌, ◌++◌, length, take, drop, Ok, ap, subst, ◌∙◌, arith}
use Rattle.std.proofs.lemmas.List.{take_all, length-drop}
use Rattle.std.proofs.lemmas.Result.{err_from_is_err_and}
use Rattle.edi_segments.specs.declared.segment.Segment.{Segment}
use Rattle.edi_segments.specs.Reading.{run}
use Rattle.edi_segments.specs.Machine.{reading_of, after}
use Rattle.edi_tokens.proofs.Segments.{stops_in, all_in, one_in}
use Rattle.edi_tokens.proofs.reading.push_segments.Goals as goal

pub returns-in_err-count : goal.returns-in_err-count
returns-in_err-count c =
    let p = err_from_is_err_and c.from_residual.result c.from_residual.ensures.1 in
    rw (p.1, p.2)
    (stops_in c.loop-count.segments.items c.loop-count.machine c.push_all.new.self c.loop-count.rest.now _ c.loop-count.invariant
    c.in_err-count.field-0.0 c.in_err-count.ensures.err)

pub returns-then-not-ended : goal.returns-then-not-ended
returns-then-not-ended c =
    all_in c.loop-count.segments.items c.loop-count.machine c.push_all.new.self c.loop-count.rest.now _ c.loop-count.invariant
    c.in_ok-count.count (c.in_ok-count.ensures.whole c.if-not-ended.true)
    (subst (λ (b : Bool). run (reading_of [] c.loop-count.machine) (take c.in_ok-count.count c.loop-count.rest.now)
    ≡ Ok (after [] b c.push_all.new.self))
    c.if-not-ended.true c.in_ok-count.ensures.ok)

pub loop-count-preserved : goal.loop-count-preserved
loop-count-preserved c =
    let rest = c.loop-count.rest.now in
    let count = c.in_ok-count.count in
    let after_it : List ℕ = drop count rest in
    let same : take (length rest - count) after_it ≡ after_it =
    take_all (length rest - count) after_it (omega (arith, length-drop count rest)) in
    let grown : c.push.new.self.items ≡ c.loop-count.segments.items ++ c.in_ok-to_segment.field-0 ∷ [] = c.in_ok-push.ensures.items in
    let item = c.in_ok-to_segment.ensures ∙ c.lent_segment.ensures in
    let one = one_in c.loop-count.segments.items c.loop-count.machine c.push_all.new.self rest _ c.loop-count.invariant count
    (subst (λ (b : Bool). run (reading_of [] c.loop-count.machine) (take count rest) ≡ Ok (after [] b c.push_all.new.self))
    c.if-not-ended.false c.in_ok-count.ensures.ok) in
    ap (λ (l : List Segment). run (reading_of l c.push_all.new.self) (take (length rest - count) after_it))
    (grown ∙ ap (λ (x : Segment). c.loop-count.segments.items ++ x ∷ []) item)
    ∙ ap (run (after c.loop-count.segments.items true c.push_all.new.self)) same ∙ one
