use Rattle.std.proofs.Common.{◌≡◌, ◌+◌, [], refl, sym, subst, ap, ◌∙◌, ⊎_elim, arith, rules}
use Rattle.std.proofs.lemmas.Bool.{cases_lt, true≢false}
use Rattle.std.proofs.lemmas.List.{drop_all}
use Rattle.gs1_ids.specs.Overlap.{OverlapAt, IsFirstOverlap, first_overlap_of}
use Rattle.gs1_ids.specs.Prefix.{overlap}
use Rattle.gs1_ids.proofs.FirstPairs.{search_behind, found_behind, none_behind, moved_by, moved_by-0, found_next, found_later}
use Rattle.gs1_ids.proofs.Overlaps.{free_if_none, none_if_free}
use Rattle.gs1_ids.proofs.overlap.first_overlap.Goals as goal
use Rattle.gs1_ids.proofs.overlap.first_overlap.Goals.{In-Some}

here : (c : In-Some) → IsFirstOverlap c.args.prefixes.now c.loop-first.first (c.loop-first.first + 1 + c.in-Some.offset)
here c =
    let ps = c.args.prefixes.now in
    let i = c.loop-first.first in
    let e = search_behind overlap [] ps i _ _ c.loop-first-test.true c.index-prefixes-first.is c.find_overlap.ensures in
    let found = found_behind overlap [] ps i c.in-Some.offset (sym e ∙ c.in-Some.is) in
    record {
      here = found.0;
      least_first = λ k l o. ⊎_elim (λ passed. absurd (c.loop-first.invariant.none k l passed o)) (λ h. h) (cases_lt k i);
      least_second = found.1;
    }

pub returns-in-Some-clause-least : goal.returns-in-Some-clause-least
returns-in-Some-clause-least c = here c

pub returns-in-Some-clause-free : goal.returns-in-Some-clause-free
returns-in-Some-clause-free c =
    (λ e. absurd (true≢false e), λ free. absurd (none_if_free c.args.prefixes.now free _ _ (here c).here))

pub returns-in-Some-clause-value : goal.returns-in-Some-clause-value
returns-in-Some-clause-value c =
    let ps = c.args.prefixes.now in
    let i = c.loop-first.first in
    let e = search_behind overlap [] ps i _ _ c.loop-first-test.true c.index-prefixes-first.is c.find_overlap.ensures in
    sym (c.loop-first.invariant.left ∙ found_next overlap [] ps i c.loop-first-test.true c.in-Some.offset (sym e ∙ c.in-Some.is))

pub loop-first-init : goal.loop-first-init
loop-first-init c = record { none = λ i j h o. absurd (omega arith); left = sym (moved_by-0 (first_overlap_of c.args.prefixes.now)) }

pub loop-first-preserved : goal.loop-first-preserved
loop-first-preserved c =
    let ps = c.args.prefixes.now in
    let first = c.loop-first.first in
    let e = search_behind overlap [] ps first _ _ c.loop-first-test.true c.index-prefixes-first.is c.find_overlap.ensures in
    record {
      none =
          λ i j h o.
          ⊎_elim (λ passed. c.loop-first.invariant.none i j passed o) (λ past. let last : i ≡ first = omega arith in
          none_behind overlap [] ps first (sym e ∙ c.in_default.is) j (subst (λ n. OverlapAt ps n j) last o)) (cases_lt i first);
      left = c.loop-first.invariant.left ∙ found_later overlap [] ps first c.loop-first-test.true (sym e ∙ c.in_default.is);
    }

pub returns-clause-value : goal.returns-clause-value
returns-clause-value c =
    let ps = c.args.prefixes.now in
    sym (c.loop-first.invariant.left
    ∙ ap (λ rest. moved_by c.loop-first.first (first_overlap_of rest)) (drop_all c.loop-first.first ps (omega arith)))

pub returns-clause-free : goal.returns-clause-free
returns-clause-free c =
    let ps = c.args.prefixes.now in
    (λ _. free_if_none ps (λ i j o. c.loop-first.invariant.none i j (omega arith) o), λ _. refl)

pub returns-clause-least : goal.returns-clause-least
returns-clause-least c = search rules
