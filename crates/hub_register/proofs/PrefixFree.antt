-- Shows that in the register of a text no prefix of one supplier begins a prefix of another.
use Rattle.std.proofs.Common.{◌≡◌, ◌+◌, Bool, true, false, not, nat_lt, if◌then◌else◌, length, map, option_map, Option, Some}
use Rattle.std.proofs.Common.{None, Ok, refl, subst}
use Rattle.std.specs.List.{list_all}
use Rattle.edi_base.specs.Seen.{has_twice}
use Rattle.gs1_ids.specs.Gln.{is_gln}
use Rattle.gs1_ids.specs.Overlap.{PrefixFree, first_overlap_between}
use Rattle.hub_parties.specs.Key.{is_party_key}
use Rattle.hub_parties.specs.Prefixes.{are_company_prefixes, by_bytes}
use Rattle.hub_parties.specs.Rows.{RegisterRows, company_prefixes, glns, keys, most_suppliers}
use Rattle.hub_register.specs.Document.{rows_of_text}
use Rattle.hub_register.specs.Fault.{fault_of}
use Rattle.hub_register.specs.InOrder.{in_gln_order, with_sorted_prefixes}
use Rattle.hub_register.specs.Register.{unless_faulty, register_of_rows, RegisterOfTextIsPrefixFree}
use Rattle.hub_register.specs.declared.fault.RegisterFault.{RegisterFault}
use Rattle.hub_register.specs.declared.fault.RegisterFault.TheVariants.{Many, Gln, Twice, Prefix, Key, Overlap}
use Rattle.hub_register.proofs.Right.{free_in_order}
use Rattle.hub_register.proofs.SortedPrefixes.{sorted_free}

was_unmapped : {A B : Type 0} (o : Option A) (f : A → B) → option_map f o ≡ None → o ≡ None
was_unmapped None f h = refl
was_unmapped (Some a) f h = cc

-- what the last condition says if the rows have no fault
last : (a b c d e : Bool) (f g h k l : RegisterFault) (rest : Option RegisterFault)
    → (if a then Some f else if b then Some g else if c then Some h else if d then Some k else if e then Some l else rest)
    ≡ None
    → rest ≡ None
last true b c d e f g h k l rest n = cc
last false true c d e f g h k l rest n = cc
last false false true d e f g h k l rest n = cc
last false false false true e f g h k l rest n = cc
last false false false false true f g h k l rest n = cc
last false false false false false f g h k l rest n = n

none_overlaps : (rows : RegisterRows) → fault_of rows ≡ None → first_overlap_between (company_prefixes rows.suppliers) ≡ None
none_overlaps rows right =
    was_unmapped (first_overlap_between (company_prefixes rows.suppliers)) (λ places. Overlap (places.0 + 1) (places.1 + 1))
    (last (nat_lt most_suppliers (length rows.suppliers)) (not (list_all is_gln (glns rows))) (has_twice (glns rows))
    (not (list_all (λ row. are_company_prefixes (by_bytes row.prefixes)) rows.suppliers)) (not (list_all is_party_key (keys rows)))
    Many Gln Twice Prefix Key _ right)

by_fault : (rows register : RegisterRows) (fault : Option RegisterFault)
    → fault_of rows ≡ fault
    → unless_faulty rows fault ≡ Ok register
    → PrefixFree (company_prefixes register.suppliers)
by_fault rows register None right h =
    let same : in_gln_order rows ≡ register = cc in
    let free = free_in_order (map with_sorted_prefixes rows.suppliers) (sorted_free rows.suppliers (none_overlaps rows right)) in
    subst (λ (r : RegisterRows). PrefixFree (company_prefixes r.suppliers)) same free
by_fault rows register (Some fault) right h = cc

by_rows : (register : RegisterRows) (read : Option RegisterRows)
    → register_of_rows read ≡ Ok register
    → PrefixFree (company_prefixes register.suppliers)
by_rows register None h = cc
by_rows register (Some rows) h = by_fault rows register (fault_of rows) refl h

pub is_prefix_free : RegisterOfTextIsPrefixFree
is_prefix_free text register h = by_rows register (rows_of_text text) h
