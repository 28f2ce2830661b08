use Rattle.std.proofs.Common.{◌≡◌, [], map, drop}
use Rattle.std.specs.BTreeMap.{keys, values}
use Rattle.std.specs.List.{list_all}
use Rattle.hub_parties.specs.Key.{is_party_key}
use Rattle.hub_register.specs.Entries.{row_in}
use Rattle.hub_register.specs.InOrder.{put_all, with_sorted_prefixes}
use Rattle.hub_register.proofs.columns.suppliers.Given as goal

-- the rows so far, each under its GLN and with a valid key; the others are still to be inserted
abbrev pub invariant-loop-place : goal.invariant-loop-place
invariant-loop-place l = record {
  rows : put_all (map with_sorted_prefixes (map row_in l.entries)) []
      ≡ put_all (map with_sorted_prefixes (map row_in (drop l.place l.entries))) (values l.suppliers);
  at_gln : keys l.suppliers ≡ map (λ row. row.gln) (values l.suppliers);
  right : list_all is_party_key (map (λ row. row.key) (map row_in l.entries))
      ≡ list_all is_party_key (map (λ row. row.key) (map row_in (drop l.place l.entries)));
}
