use Rattle.std.proofs.Common.{◌≡◌, ap₂, sym, subst₂, ◌∙◌}
use Rattle.hub_tables.specs.Change.{apply_all}
use Rattle.hub_tables.specs.Register.{founded}
use Rattle.hub_tables.specs.Sets.{Fit}
use Rattle.hub_tables.specs.Tables.{empty}
use Rattle.hub_tables.proofs.Founding.{founded_fits}
use Rattle.trial_lists.specs.Lists.{tables_in}
use Rattle.trial_lists.proofs.vec_store.VecStore.new.Goals as goal

pub returns : goal.returns
returns c =
    let register = c.args.register.now in
    let none : tables_in c.take_room.new.lists ≡ empty = c.in_ok-take_room.ensures.same ∙ c.no_rows-lists.ensures.none in
    let made : apply_all c.in_ok-changes.changes.items (tables_in c.take_room.new.lists) ≡ founded register =
    ap₂ apply_all c.in_ok-changes.ensures.changes none in
    let fits : Fit c.in_ok-changes.changes.items (tables_in c.take_room.new.lists) =
    subst₂ Fit (sym c.in_ok-changes.ensures.changes) (sym none) (founded_fits register c.in_ok-changes.ensures.register) in
    c.apply_each.ensures.tables fits ∙ made
