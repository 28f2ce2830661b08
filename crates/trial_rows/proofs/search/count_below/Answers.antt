use Rattle.std.proofs.Common.{rules, of_calls}
use Rattle.std.specs.Ordering.{is_lt}
use Rattle.std.proofs.lemmas.Fn.{always_returns_same}
use Rattle.trial_rows.proofs.Searching.{from_point, parted, below_first}
use Rattle.trial_rows.proofs.search.count_below.Goals as goal

pub returns-clause-count : goal.returns-clause-count
returns-clause-count g c =
    let rows = c.args.rows.now in
    let place = g.K.SearchKey.place c.args.key.now in
    let point = c.partition_point.ensures.partitioned (λ row. is_lt (place row)) (search (rules, of_calls, always_returns_same))
    (below_first place rows (parted place g.T.Row.compared (g.met.K.SearchKey.kept c.args.key.now) rows c.requires)) in
    from_point (λ row. is_lt (place row)) rows c.partition_point.result c.partition_point.ensures.bound point
