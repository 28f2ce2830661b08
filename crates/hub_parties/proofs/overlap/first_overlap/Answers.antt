use Rattle.std.proofs.Common.{◌≡◌, ◌+◌, Some, None, [], refl, sym, ap, ◌∙◌, arith}
use Rattle.std.proofs.lemmas.Bool.{true≢false}
use Rattle.std.proofs.lemmas.List.{drop_all}
use Rattle.gs1_ids.specs.Overlap.{overlap_some, first_overlap_between}
use Rattle.gs1_ids.proofs.FirstPairs.{moved_by, search_behind, found_behind, found_next}
use Rattle.gs1_ids.proofs.Overlaps.{free_if_none_between, none_between_if_free}
use Rattle.hub_parties.proofs.overlap.first_overlap.Goals as goal

pub returns-in-Some-clause-free : goal.returns-in-Some-clause-free
returns-in-Some-clause-free c =
    let suppliers = c.args.suppliers.now in
    let first = c.loop-first.first in
    let within = c.loop-first-test.true in
    let e = search_behind overlap_some [] suppliers first _ _ within c.index-suppliers-first.is c.find_overlap.ensures in
    let found : first_overlap_between suppliers ≡ Some (first, first + 1 + c.in-Some.offset) =
    c.loop-first.invariant ∙ found_next overlap_some [] suppliers first within c.in-Some.offset (sym e ∙ c.in-Some.is) in
    (λ h. absurd (true≢false h), λ free. let none = none_between_if_free suppliers free in cc)

pub returns-in-Some-clause-within : goal.returns-in-Some-clause-within
returns-in-Some-clause-within c =
    let suppliers = c.args.suppliers.now in
    let first = c.loop-first.first in
    let within = c.loop-first-test.true in
    let e = search_behind overlap_some [] suppliers first _ _ within c.index-suppliers-first.is c.find_overlap.ensures in
    let found = (found_behind overlap_some [] suppliers first c.in-Some.offset (sym e ∙ c.in-Some.is)).0 in
    (found.before, found.within)

pub returns-clause-free : goal.returns-clause-free
returns-clause-free c =
    let suppliers = c.args.suppliers.now in
    let first = c.loop-first.first in
    let none : first_overlap_between suppliers ≡ None =
    c.loop-first.invariant ∙ ap (λ rest. moved_by first (first_overlap_between rest)) (drop_all first suppliers (omega arith)) in
    (λ _. free_if_none_between suppliers none, λ _. refl)
