use Rattle.std.proofs.Common.{◌≡◌, ◌∙◌, ◌<◌, take, length, ap, subst, rules}
use Rattle.std.specs.Prelude.{min}
use Rattle.std.specs.List.{prefix_len}
use Rattle.std.specs.Ordering.{is_le}
use Rattle.std.proofs.lemmas.List.{take_min}
use Rattle.trial_rows.proofs.Searching.{front_within}
use Rattle.trial_rows.proofs.search.count_within.Goals as goal

pub returns-then-count-lt-NEAR-clause-count : goal.returns-then-count-lt-NEAR-clause-count
returns-then-count-lt-NEAR-clause-count g c =
    let rows = c.args.rows.now in
    let passes = λ (row : g.row.T.Denot). is_le (g.K.SearchKey.place c.args.key.now row) in
    let least : c.min.result ≡ min 16 (length rows) = search rules in
    let front = ap (λ n. take n rows) least ∙ take_min 16 rows in
    let count = c.count_among-count.ensures.count ∙ ap (prefix_len passes) front in
    let few : c.count_among-count.result < 16 = search rules in
    count ∙ front_within passes 16 rows (subst (λ n. n < 16) count few)
