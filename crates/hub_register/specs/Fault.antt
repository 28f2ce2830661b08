-- Defines the fault of the rows of a register text.
use Rattle.std.specs.Prelude.{◌+◌, not, nat_lt, if◌then◌else◌, length, Option, Some, option_map}
use Rattle.std.specs.List.{list_all}
use Rattle.edi_base.specs.Seen.{has_twice}
use Rattle.gs1_ids.specs.Overlap.{first_overlap_between}
use Rattle.gs1_ids.specs.Gln.{is_gln}
use Rattle.hub_parties.specs.Key.{is_party_key}
use Rattle.hub_parties.specs.Prefixes.{are_company_prefixes, by_bytes}
use Rattle.hub_parties.specs.Rows.{RegisterRows, company_prefixes, glns, keys, most_suppliers}
use Rattle.hub_register.specs.declared.fault.RegisterFault.{RegisterFault}
use Rattle.hub_register.specs.declared.fault.RegisterFault.TheVariants.{Many, Gln, Twice, Prefix, Key, Overlap}

-- The fault of the rows: the first of these conditions that holds, anywhere in the list. Positions count from 1. The
-- prefixes of one supplier may be in any order, and one may begin another.
abbrev pub fault_of : RegisterRows → Option RegisterFault
fault_of rows =
    if nat_lt most_suppliers (length rows.suppliers) then Some Many
    else if not (list_all is_gln (glns rows)) then Some Gln
    else if has_twice (glns rows) then Some Twice
    else if not (list_all (λ row. are_company_prefixes (by_bytes row.prefixes)) rows.suppliers) then Some Prefix
    else if not (list_all is_party_key (keys rows)) then Some Key
    else option_map (λ places. Overlap (places.0 + 1) (places.1 + 1)) (first_overlap_between (company_prefixes rows.suppliers))
