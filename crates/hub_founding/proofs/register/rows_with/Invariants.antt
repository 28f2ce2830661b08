use Rattle.std.proofs.Common.{◌≡◌, ◌++◌, map, drop}
use Rattle.hub_founding.specs.Gathered.{rows_with, all_company_prefixes}
use Rattle.hub_founding.proofs.register.rows_with.Given as goal

-- the rows so far come before those of the keys that are left
abbrev pub invariant-loop-place : goal.invariant-loop-place
invariant-loop-place l = record {
  made : rows_with l.keys (map (λ list. list.items) l.lists)
      ≡ l.rows.items ++ rows_with (drop l.place l.keys) (map (λ list. list.items) (drop l.place l.lists));
  right : all_company_prefixes (map (λ list. list.items) l.lists)
      ≡ all_company_prefixes (map (λ list. list.items) (drop l.place l.lists));
}
