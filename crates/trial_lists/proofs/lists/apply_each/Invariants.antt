use Rattle.std.proofs.Common.{◌≡◌, length}
use Rattle.std.specs.Vec.Iter.{into_iter_items}
use Rattle.hub_tables.specs.Change.{apply_all}
use Rattle.hub_tables.specs.Sets.{Fit}
use Rattle.trial_lists.specs.Lists.{tables_in, AreInOrder, Room}
use Rattle.trial_lists.proofs.lists.apply_each.Given as goal

-- if all changes fit, the remaining ones lead to the same tables
abbrev pub invariant-loop-change : goal.invariant-loop-change
invariant-loop-change l = record {
  kept : AreInOrder l.lists;
  left : Fit l.fn.changes.items (tables_in l.fn.lists) →
      Fit (into_iter_items l.change-iterator) (tables_in l.lists)
      × (apply_all (into_iter_items l.change-iterator) (tables_in l.lists) ≡ apply_all l.fn.changes.items (tables_in l.fn.lists));
  room : Room (length (into_iter_items l.change-iterator)) l.lists;
}
