use Rattle.std.proofs.Common.{◌∙◌, sym, ap, subst, take, drop, filter}
use Rattle.std.specs.List.{prefix_len}
use Rattle.std.specs.Ordering.{is_le}
use Rattle.hub_parties.specs.KeyOrder.{Rises}
use Rattle.trial_rows.proofs.Searching.{parted, at_place, rest_is, rises_drop}
use Rattle.trial_rows.proofs.search.rows_at.Goals as goal

pub count_within-count-requires : goal.count_within-count-requires
count_within-count-requires g c =
    let start = c.count_below-start.result in
    let rows = c.args.rows.now in
    subst (Rises g.T.Row.compared) (sym (rest_is start rows)) (rises_drop g.T.Row.compared start rows c.requires)

pub returns : goal.returns
returns g c =
    let rows = c.args.rows.now in
    let start = c.count_below-start.result in
    let place = g.K.SearchKey.place c.args.key.now in
    let rest = rest_is start rows in
    let count = c.count_within-count.ensures.count ∙ ap (prefix_len (λ row. is_le (place row))) rest in
    ap (take c.count_within-count.result) rest ∙ ap (λ n. take n (drop start rows)) count
    ∙ ap (λ n. take (prefix_len (λ row. is_le (place row)) (drop n rows)) (drop n rows)) c.count_below-start.ensures.count
    ∙ sym (at_place place rows (parted place g.T.Row.compared (g.met.K.SearchKey.kept c.args.key.now) rows c.requires))
    ∙ (λ i. filter (λ row. g.met.K.SearchKey.exact c.args.key.now row i) rows)
