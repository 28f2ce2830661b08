use Rattle.std.proofs.Common.{◌≡◌, ◌∙◌, ◌<◌, true, false, length, sym, ap, subst, rules, arith}
use Rattle.std.specs.List.{list_any, prefix_len}
use Rattle.std.specs.Prelude.{slice_set}
use Rattle.std.specs.Ordering.{is_lt, is_eq}
use Rattle.hub_parties.specs.KeyOrder.{Rises}
use Rattle.hub_tables.proofs.Setting.{found_within, replace_none, replace_found, rises_set}
use Rattle.trial_lists.proofs.table.set_row.Goals as goal

pub index_mut-requires : goal.index_mut-requires
index_mut-requires g c =
    let rows = c.args.rows.now.items in
    let yes : c.has_key-is_there.result ≡ true = search rules in
    let there : list_any (λ old. is_eq (g.T.Row.compared old c.args.row)) rows ≡ true = rw c.as_slice-old.ensures.value at
    (sym c.has_key-is_there.ensures ∙ yes) in
    let at : c.count_below-at.result ≡ prefix_len (λ old. is_lt
    (g.T.Row.compared old c.args.row)) rows = rw c.as_slice-old.ensures.value at c.count_below-at.ensures.count in
    let within = found_within g.met.T.Row.total c.args.row rows c.requires there in
    let len : c.count_below-at.result < length rows = omega (arith, at, within) in
    search rules

pub returns-then-is_there-clause-items : goal.returns-then-is_there-clause-items
returns-then-is_there-clause-items g c =
    let rows = c.args.rows.now.items in
    let row = c.args.row in
    let yes : c.has_key-is_there.result ≡ true = search rules in
    let there : list_any (λ old. is_eq (g.T.Row.compared old row)) rows ≡ true = rw c.as_slice-old.ensures.value at
    (sym c.has_key-is_there.ensures ∙ yes) in
    let at : c.count_below-at.result ≡ prefix_len (λ old. is_lt
    (g.T.Row.compared old row)) rows = rw c.as_slice-old.ensures.value at c.count_below-at.ensures.count in
    ap (λ n. slice_set rows n row) at ∙ replace_found g.met.T.Row.total row (g.T.Settable.alike row)
    (g.met.T.Settable.same_key row) rows c.requires there

pub returns-then-is_there-clause-rises : goal.returns-then-is_there-clause-rises
returns-then-is_there-clause-rises g c =
    let rows = c.args.rows.now.items in
    let row = c.args.row in
    let yes : c.has_key-is_there.result ≡ true = search rules in
    let there : list_any (λ old. is_eq (g.T.Row.compared old row)) rows ≡ true = rw c.as_slice-old.ensures.value at
    (sym c.has_key-is_there.ensures ∙ yes) in
    let at : c.count_below-at.result ≡ prefix_len (λ old. is_lt
    (g.T.Row.compared old row)) rows = rw c.as_slice-old.ensures.value at c.count_below-at.ensures.count in
    let is = ap (λ n. slice_set rows n row) at ∙ replace_found g.met.T.Row.total row (g.T.Settable.alike row)
    (g.met.T.Settable.same_key row) rows c.requires there in
    subst (Rises g.T.Row.compared) (sym is) (rises_set g.met.T.Row.total row (g.T.Settable.alike row)
    (g.met.T.Settable.same_key row) rows c.requires)

pub returns-else-is_there-clause-items : goal.returns-else-is_there-clause-items
returns-else-is_there-clause-items g c =
    let rows = c.args.rows.now.items in
    let row = c.args.row in
    let no : c.has_key-is_there.result ≡ false = search rules in
    let none : list_any (λ old. is_eq (g.T.Row.compared old row)) rows ≡ false = rw c.as_slice-old.ensures.value at
    (sym c.has_key-is_there.ensures ∙ no) in
    replace_none g.met.T.Row.total row (g.T.Settable.alike row) (g.met.T.Settable.same_key row) rows none
