use Rattle.std.proofs.Common.{◌≡◌, ◌∙◌, true, false, sym, subst, rules}
use Rattle.std.specs.List.{list_any}
use Rattle.std.specs.Ordering.{is_eq}
use Rattle.hub_parties.specs.KeyOrder.{put}
use Rattle.trial_lists.specs.Index.{IsIndex}
use Rattle.trial_lists.proofs.Indexing.{not_listed, put_kept}
use Rattle.hub_tables.proofs.Setting.{not_put}
use Rattle.trial_lists.proofs.index.put_indexed.Goals as goal

pub returns-then-is_there-clause-items : goal.returns-then-is_there-clause-items
returns-then-is_there-clause-items g c h =
    let rows = c.args.rows.now.items in
    let yes : c.has_key-is_there.result ≡ true = search rules in
    let there : list_any (λ old. is_eq (g.T.Row.compared old c.args.row)) rows ≡ true = rw c.as_slice.ensures.value at
    (sym c.has_key-is_there.ensures ∙ yes) in
    absurd (not_put g.met.T.Row.total c.args.row rows c.requires.rises there h)

pub returns-clause-index : goal.returns-clause-index
returns-clause-index g c =
    let rows = c.args.rows.now.items in
    let index = c.args.index.now.items in
    let row = c.args.row in
    let T = g.T.IndexedRow in
    let met = g.met.T.IndexedRow in
    let no : c.has_key-is_there.result ≡ false = search rules in
    let new : list_any (λ old. is_eq (g.T.Row.compared old row)) rows ≡ false = rw c.as_slice.ensures.value at
    (sym c.has_key-is_there.ensures ∙ no) in
    let key_new = not_listed g.met.T.Row.total g.met.K.Row.total T.supplier T.key T.listed met.tied met.in_order
    row index rows c.requires.index new in
    let kept = put_kept g.met.T.Row.total g.met.K.Row.total T.supplier T.key T.listed met.tied met.in_order
    row index rows c.requires.index c.requires.rises new in
    let listed = c.list_key.ensures.items key_new in
    let put_in = c.put_row.ensures.new new in
    subst (IsIndex g.K.Row.compared T.supplier T.key T.listed c.list_key.new.index.items) (sym put_in)
    (subst (λ keys. IsIndex g.K.Row.compared T.supplier T.key T.listed keys (put g.T.Row.compared row rows)) (sym listed) kept)
