-- Defines what a join is, and the rules of joins (B18, B19, B20).
use Rattle.std.specs.Prelude.{ℕ, Bool, true, false, ◌&&◌, nat_le, List, length, if◌then◌else◌, Option, None, option_map}
use Rattle.std.specs.List.{list_any}
use Rattle.gs1_ids.specs.Gln.{is_gln}
use Rattle.gs1_ids.specs.Overlap.{overlap_some}
use Rattle.hub_parties.specs.Key.{is_party_key}
use Rattle.hub_parties.specs.Prefixes.{are_company_prefixes, company_prefixes_of}
use Rattle.hub_parties.specs.Rows.{RegisterRows, glns, most_suppliers}
use Rattle.hub_parties.specs.declared.row.SupplierRow.{SupplierRow}
use Rattle.hub_tables.specs.Register.{row_changes}
use Rattle.hub_tables.specs.Rows.{same}
use Rattle.hub_rules.specs.Judging.{refuse_if}
use Rattle.hub_rules.specs.declared.code.Code.TheVariants.{GlnKnown, PrefixOverlaps, RegisterFull}
use Rattle.hub_rules.specs.declared.verdict.Verdict.{Verdict}
use Rattle.hub_rules.specs.declared.verdict.Verdict.TheVariants.{Accept, Refuse}

-- whether a supplier with this row may join: its GLN and its key are valid, and it has one to eight valid prefixes
abbrev pub is_join : SupplierRow → Bool
is_join row = is_gln row.gln && (are_company_prefixes row.prefixes && is_party_key row.key)

-- the join with this GLN, this key and these prefixes, which may be in any order
abbrev pub join_of : List ℕ → List ℕ → List (List ℕ) → Option SupplierRow
join_of gln key prefixes =
    if is_party_key key
    then option_map (λ prefixes. record { gln = gln; prefixes = prefixes; key = key }) (company_prefixes_of prefixes)
    else None

-- whether the GLN is already the hub's, the retailer's or a supplier's
abbrev pub is_known : RegisterRows → List ℕ → Bool
is_known register gln = list_any (same gln) (glns register)

-- whether one of the prefixes begins with another supplier's prefix, or the other way round
abbrev pub overlap_others : RegisterRows → List (List ℕ) → Bool
overlap_others register prefixes = list_any (λ other. overlap_some prefixes other.prefixes) register.suppliers

-- whether no further supplier can be registered
abbrev pub is_full : RegisterRows → Bool
is_full register = nat_le most_suppliers (length register.suppliers)

-- B18, B19, B20; then the supplier's key and its prefixes
abbrev pub judge_join : RegisterRows → SupplierRow → Verdict
judge_join register row =
    refuse_if (is_known register row.gln) GlnKnown (
    refuse_if (overlap_others register row.prefixes) PrefixOverlaps (
    refuse_if (is_full register) RegisterFull (
    Accept (row_changes row))))

abbrev pub is_accepted : Verdict → Bool
is_accepted (Accept changes) = true
is_accepted (Refuse code) = false

-- whether the register accepts the supplier
abbrev pub joins : RegisterRows → SupplierRow → Bool
joins register row = is_join row && is_accepted (judge_join register row)
