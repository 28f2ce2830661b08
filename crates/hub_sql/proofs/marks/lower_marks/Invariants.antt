use Rattle.std.proofs.Common.{◌≡◌, ◌≤◌, ℕ, List, drop}
use Rattle.std.specs.BTreeMap.{btree_map_len}
use Rattle.hub_sql.specs.Marks.{mark_after_all, mark_of}
use Rattle.hub_sql.proofs.marks.lower_marks.Given as goal

-- the remaining changes lower the marks so far to those that all changes lead to
abbrev pub invariant-loop-change : goal.invariant-loop-change
invariant-loop-change l = record {
  few : btree_map_len l.marks ≤ btree_map_len l.fn.marks;
  lowers : (supplier : List ℕ) → mark_after_all supplier l.changes (mark_of l.fn.marks supplier)
      ≡ mark_after_all supplier (drop l.change-index l.changes) (mark_of l.marks supplier);
}
