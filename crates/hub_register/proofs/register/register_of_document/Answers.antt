use Rattle.std.proofs.lemmas.Grind.{common_steps}
use Rattle.std.proofs.Common.{◌≡◌, ◌≤◌, ◌&&◌, true, false, nat_lt, length, get_or, map, None, [], sym, subst, ap, ap₂, ◌∙◌, arith}
use Rattle.std.specs.List.{list_all}
use Rattle.edi_base.specs.Seen.{has_twice}
use Rattle.gs1_ids.specs.Overlap.{PrefixFree, first_overlap_between}
use Rattle.gs1_ids.proofs.Overlaps.{none_between_if_free}
use Rattle.hub_parties.specs.Key.{is_party_key}
use Rattle.hub_parties.specs.Rows.{IsRegister, keys, glns, company_prefixes, most_suppliers}
use Rattle.hub_parties.specs.Prefixes.{are_company_prefixes, by_bytes}
use Rattle.hub_register.specs.Entries.{row_in, rows_from}
use Rattle.hub_register.specs.InOrder.{put_all, with_sorted_prefixes}
use Rattle.hub_register.proofs.Right.{register_right, same_rows}
use Rattle.hub_register.proofs.SortedPrefixes.{same_overlap}
use Rattle.hub_register.proofs.register.register_of_document.Goals as goal

pub register_of_parties-requires-clause-right : goal.register_of_parties-requires-clause-right
register_of_parties-requires-clause-right c =
    let rows = rows_from c.args.document.now in
    let items = c.args.document.now.suppliers.items in
    let entries = c.as_slice-entries.result.now in
    let same : entries ≡ items = c.as_slice-entries.ensures.value in
    let counted : nat_lt most_suppliers (length rows.suppliers) ≡ false = c.in_ok-glns.ensures.few in
    let few : length rows.suppliers ≤ most_suppliers = grind (arith, counted) in
    let read = c.in_ok-glns.ensures.ok in
    let once : has_twice (glns rows) ≡ false =
    sym (ap has_twice read.0)
    ∙ sym (ap has_twice c.as_slice.ensures.value)
    ∙ sym c.in_ok-has_twice.ensures.ok
    ∙ c.if-branch.false in
    let prefix : list_all (λ row. are_company_prefixes (by_bytes row.prefixes)) rows.suppliers ≡ true =
    rw (← same) c.in_ok-prefixes.ensures.ok.1 in
    let key : list_all is_party_key (keys rows) ≡ true =
    ap₂ (λ a b. a && b) c.in_ok-retailer_key.ensures.ok.1 (rw (← same) c.in_ok-suppliers.ensures.keys) in
    let held : c.as_slice-prefixes.result.now ≡ map (λ row. by_bytes row.prefixes) rows.suppliers =
    c.as_slice-prefixes.ensures.value ∙ c.in_ok-prefixes.ensures.ok.0
    ∙ ap (λ es. map (λ row. by_bytes row.prefixes) (map row_in es)) same in
    let none : first_overlap_between (company_prefixes rows.suppliers) ≡ None =
    sym (same_overlap rows.suppliers)
    ∙ none_between_if_free (map (λ row. by_bytes row.prefixes) rows.suppliers) (subst PrefixFree held c.in_default.ensures.free) in
    subst IsRegister
    (same_rows _ _ _ _ rows (c.index.ensures ∙ ap (λ xs. get_or xs 0 c.index.result.now) read.0)
    (c.index-2.ensures ∙ ap (λ xs. get_or xs 1 c.index-2.result.now) read.0) c.in_ok-retailer_key.ensures.ok.0
    (c.in_ok-suppliers.ensures.rows ∙ ap (λ es. put_all (map with_sorted_prefixes (map row_in es)) []) same))
    (register_right rows few read.1 once prefix key none)

pub returns-in_err-prefixes-clause-err : goal.returns-in_err-prefixes-clause-err
returns-in_err-prefixes-clause-err c = grind (arith, common_steps)

pub returns-in_err-retailer_key-clause-err : goal.returns-in_err-retailer_key-clause-err
returns-in_err-retailer_key-clause-err c = grind (arith, common_steps)

pub returns-in_err-suppliers-clause-err : goal.returns-in_err-suppliers-clause-err
returns-in_err-suppliers-clause-err c = grind (arith, common_steps)

pub returns-in-Some-clause-err : goal.returns-in-Some-clause-err
returns-in-Some-clause-err c = let alike = same_overlap (rows_from c.args.document.now).suppliers in grind (arith, common_steps, alike)

pub returns-clause-ok : goal.returns-clause-ok
returns-clause-ok c = let alike = same_overlap (rows_from c.args.document.now).suppliers in grind (arith, common_steps, alike)

pub returns-in_err-glns-clause-err : goal.returns-in_err-glns-clause-err
returns-in_err-glns-clause-err c = grind (arith, common_steps)

pub returns-then-branch-clause-err : goal.returns-then-branch-clause-err
returns-then-branch-clause-err c = grind (arith, common_steps)
