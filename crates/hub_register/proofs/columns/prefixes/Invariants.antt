use Rattle.std.proofs.Common.{◌≡◌, ◌++◌, map, drop}
use Rattle.std.specs.List.{list_all}
use Rattle.hub_parties.specs.Prefixes.{are_company_prefixes, by_bytes}
use Rattle.hub_register.specs.Entries.{row_in}
use Rattle.hub_register.proofs.columns.prefixes.Given as goal

-- the prefixes of all rows are those read so far, which are valid, and those still to come
abbrev pub invariant-loop-entry : goal.invariant-loop-entry
invariant-loop-entry l = record {
  read : map (λ row. by_bytes row.prefixes) (map row_in l.entries)
      ≡ l.prefixes.items ++ map (λ row. by_bytes row.prefixes) (map row_in (drop l.entry-index l.entries));
  right : list_all (λ row. are_company_prefixes (by_bytes row.prefixes)) (map row_in l.entries)
      ≡ list_all (λ row. are_company_prefixes (by_bytes row.prefixes)) (map row_in (drop l.entry-index l.entries));
}
