use Rattle.std.proofs.Common.{◌≡◌, [], map}
use Rattle.std.specs.BTreeMap.{keys, values}
use Rattle.std.specs.List.{list_all}
use Rattle.std.specs.Vec.Iter.{into_iter_items}
use Rattle.hub_register.specs.InOrder.{put_all}
use Rattle.hub_register.specs.Kept.{is_valid}
use Rattle.hub_register.proofs.rows.by_gln.Given as goal

-- the rows so far, each valid and under its GLN; the others are still to be inserted
abbrev pub invariant-loop-row : goal.invariant-loop-row
invariant-loop-row l = record {
  rows : put_all l.fn.rows.items [] ≡ put_all (into_iter_items l.row-iterator) (values l.suppliers);
  at_gln : keys l.suppliers ≡ map (λ row. row.gln) (values l.suppliers);
  valid : list_all is_valid l.fn.rows.items ≡ list_all is_valid (into_iter_items l.row-iterator);
}
