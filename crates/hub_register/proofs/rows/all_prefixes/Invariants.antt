use Rattle.std.proofs.Common.{◌≡◌, ◌++◌, drop}
use Rattle.std.specs.List.{flat_map}
use Rattle.hub_parties.specs.declared.row.SupplierRow.{SupplierRow}
use Rattle.hub_register.proofs.rows.all_prefixes.Given as goal

-- the prefixes of the suppliers so far come before those of the rest
abbrev pub invariant-loop-row : goal.invariant-loop-row
invariant-loop-row l =
    flat_map (λ (row : SupplierRow). row.prefixes) l.rows
    ≡ l.prefixes.items ++ flat_map (λ (row : SupplierRow). row.prefixes) (drop l.row-index l.rows)
