use Rattle.std.proofs.Common.{◌≡◌, ◌∙◌, not, filter, slice_get, Some, None, sym, subst, ap, if◌then◌else◌, rules}
use Rattle.std.specs.List.{list_any}
use Rattle.std.specs.Ordering.{is_eq}
use Rattle.hub_parties.specs.KeyOrder.{put, replace}
use Rattle.trial_lists.specs.Index.{IsIndex}
use Rattle.trial_lists.proofs.Filters.{none_first}
use Rattle.trial_lists.proofs.Indexing.{key_is_new, set_kept}
use Rattle.hub_tables.proofs.Setting.{replace_none}
use Rattle.trial_lists.proofs.index.set_indexed.Goals as goal

pub returns-in_default-clause-items : goal.returns-in_default-clause-items
returns-in_default-clause-items g c =
    let rows = c.args.rows.now.items in
    let row = c.args.row in
    let none : slice_get c.rows_at.result.now 0 ≡ None = search rules in
    let found = c.rows_at.ensures ∙ ap (filter (λ old. is_eq (g.T.Row.compared old row))) c.as_slice.ensures.value in
    let none_there = none_first (λ old. is_eq (g.T.Row.compared old row)) rows (ap (λ xs. slice_get xs 0) (sym found) ∙ none) in
    replace_none g.met.T.Row.total row (g.T.Settable.alike row) (g.met.T.Settable.same_key row) rows none_there

pub returns-clause-index : goal.returns-clause-index
returns-clause-index g c =
    let rows = c.args.rows.now.items in
    let index = c.args.index.now.items in
    let row = c.args.row in
    let old = c.in-Some.old.now in
    let T = g.T.IndexedRow in
    let K = g.K.Row in
    let met = g.met.T.IndexedRow in
    let there : slice_get c.rows_at.result.now 0 ≡ Some old = search rules in
    let found = c.rows_at.ensures ∙ ap (filter (λ x. is_eq (g.T.Row.compared x row))) c.as_slice.ensures.value in
    let first = ap (λ xs. slice_get xs 0) (sym found) ∙ there in
    let new = key_is_new g.met.T.Row.total g.met.K.Row.total T.supplier T.key T.listed met.tied met.in_order
    row old index rows c.requires.index c.requires.rises first in
    let kept = set_kept g.met.T.Row.total g.met.K.Row.total T.supplier T.key T.listed met.tied met.in_order
    row old index rows c.requires.index c.requires.rises first in
    let dropped = c.drop_row.ensures.items ∙ ap (λ key. filter (λ k. not (is_eq (K.compared k key))) index) c.index_key.ensures in
    let listed = c.list_key.ensures.items (ap (list_any (λ k. is_eq (K.compared k (T.key row)))) dropped ∙ new)
    ∙ ap (λ keys. if T.listed row then put K.compared (T.key row) keys else keys) dropped in
    let set_in = c.set_row.ensures.items ∙ (λ i. replace (λ x. sym (g.met.T.Settable.same_key row x) i) row rows) in
    subst (IsIndex K.compared T.supplier T.key T.listed c.list_key.new.index.items) (sym set_in)
    (subst (λ keys. IsIndex K.compared T.supplier T.key T.listed keys (replace (λ x. is_eq (g.T.Row.compared x row)) row rows))
    (sym listed) kept)
