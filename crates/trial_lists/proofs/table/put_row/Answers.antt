use Rattle.std.proofs.Common.{◌≡◌, ◌∙◌, true, false, sym, ap, subst, rules}
use Rattle.std.specs.List.{insert, list_any}
use Rattle.std.specs.Ordering.{is_eq}
use Rattle.hub_parties.specs.KeyOrder.{put, Rises}
use Rattle.hub_tables.proofs.Setting.{rises_put, put_is_insert, not_put}
use Rattle.trial_lists.proofs.table.put_row.Goals as goal

pub returns-then-not-is_there-clause-items : goal.returns-then-not-is_there-clause-items
returns-then-not-is_there-clause-items g c h =
    let rows = c.args.rows.now.items in
    let no : c.has_key-is_there.result ≡ false = search rules in
    let new : list_any (λ old. is_eq (g.T.Row.compared old c.args.row)) rows ≡ false = rw c.as_slice-old.ensures.value at
    (sym c.has_key-is_there.ensures ∙ no) in
    c.insert_at.ensures.items ∙ ap (λ n. insert rows n c.args.row) (rw c.as_slice-old.ensures.value at c.count_below-at.ensures.count)
    ∙ sym (put_is_insert g.met.T.Row.total c.args.row rows new)

pub returns-then-not-is_there-clause-new : goal.returns-then-not-is_there-clause-new
returns-then-not-is_there-clause-new g c new =
    let rows = c.args.rows.now.items in
    c.insert_at.ensures.items ∙ ap (λ n. insert rows n c.args.row) (rw c.as_slice-old.ensures.value at c.count_below-at.ensures.count)
    ∙ sym (put_is_insert g.met.T.Row.total c.args.row rows new)

pub returns-then-not-is_there-clause-rises : goal.returns-then-not-is_there-clause-rises
returns-then-not-is_there-clause-rises g c =
    let rows = c.args.rows.now.items in
    let no : c.has_key-is_there.result ≡ false = search rules in
    let new : list_any (λ old. is_eq (g.T.Row.compared old c.args.row)) rows ≡ false = rw c.as_slice-old.ensures.value at
    (sym c.has_key-is_there.ensures ∙ no) in
    let is : c.insert_at.new.rows.items ≡ put g.T.Row.compared c.args.row rows =
    c.insert_at.ensures.items ∙ ap (λ n. insert rows n c.args.row) (rw c.as_slice-old.ensures.value at c.count_below-at.ensures.count)
    ∙ sym (put_is_insert g.met.T.Row.total c.args.row rows new) in
    subst (Rises g.T.Row.compared) (sym is) (rises_put g.met.T.Row.total c.args.row rows c.requires.rises new)

pub returns-else-not-is_there-clause-items : goal.returns-else-not-is_there-clause-items
returns-else-not-is_there-clause-items g c h =
    let rows = c.args.rows.now.items in
    let yes : c.has_key-is_there.result ≡ true = search rules in
    let there : list_any (λ old. is_eq (g.T.Row.compared old c.args.row)) rows ≡ true = rw c.as_slice-old.ensures.value at
    (sym c.has_key-is_there.ensures ∙ yes) in
    absurd (not_put g.met.T.Row.total c.args.row rows c.requires.rises there h)

pub returns-else-not-is_there-clause-new : goal.returns-else-not-is_there-clause-new
returns-else-not-is_there-clause-new g c new =
    let rows = c.args.rows.now.items in
    let yes : c.has_key-is_there.result ≡ true = search rules in
    let there : list_any (λ old. is_eq (g.T.Row.compared old c.args.row)) rows ≡ true = rw c.as_slice-old.ensures.value at
    (sym c.has_key-is_there.ensures ∙ yes) in
    let no : false ≡ true = sym new ∙ there in
    absurd (cc (no))
