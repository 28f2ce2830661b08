use Rattle.std.proofs.Common.{rules, of_calls}
use Rattle.std.proofs.lemmas.Fn.{always_returns_same}
use Rattle.hub_founding.proofs.Keys.{place, found_at, not_found}
use Rattle.hub_founding.proofs.gathered.place_of.Goals as goal

pub returns-clause-some : goal.returns-clause-some
returns-clause-some c =
    found_at c.args.supplier.now c.args.keys.now c.binary_search_by.result c.ok.result c.ok.ensures.value c.binary_search_by.ensures.bound
    (c.binary_search_by.ensures.position (place c.args.supplier.now) (search (rules, of_calls, always_returns_same)))

pub returns-clause-none : goal.returns-clause-none
returns-clause-none c =
    not_found c.args.supplier.now c.args.keys.now c.binary_search_by.result c.ok.result c.ok.ensures.value
    (c.binary_search_by.ensures.position (place c.args.supplier.now) (search (rules, of_calls, always_returns_same)))
