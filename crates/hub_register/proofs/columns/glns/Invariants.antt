use Rattle.std.proofs.Common.{◌≡◌, ◌++◌, map, drop}
use Rattle.std.specs.List.{list_all}
use Rattle.gs1_ids.specs.Gln.{is_gln}
use Rattle.hub_parties.specs.Rows.{glns}
use Rattle.hub_register.specs.Entries.{row_in, rows_from}
use Rattle.hub_register.proofs.columns.glns.Given as goal

-- all GLNs are those read so far, which are valid, and those still to come
abbrev pub invariant-loop-entry : goal.invariant-loop-entry
invariant-loop-entry l = record {
  read : glns (rows_from l.document) ≡ l.glns.items ++ map (λ row. row.gln) (map row_in (drop l.entry-index l.document.suppliers.items));
  right : list_all is_gln (glns (rows_from l.document))
      ≡ list_all is_gln (map (λ row. row.gln) (map row_in (drop l.entry-index l.document.suppliers.items)));
}
