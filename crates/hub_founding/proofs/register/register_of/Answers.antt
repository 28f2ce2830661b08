use Rattle.std.proofs.Common.{◌≡◌, true, false, map, sym, ap, ◌∙◌, subst}
use Rattle.std.specs.Prelude.{is_some}
use Rattle.std.specs.List.{list_all}
use Rattle.hub_parties.specs.KeyOrder.{Rises}
use Rattle.hub_parties.specs.Prefixes.{are_company_prefixes}
use Rattle.hub_parties.specs.Rows.{company_prefixes}
use Rattle.hub_tables.specs.Register.{suppliers_of, row_in}
use Rattle.hub_tables.specs.Rows.{key_cmp}
use Rattle.hub_founding.specs.Gathered.{gathered, all_had, rows_with, all_company_prefixes}
use Rattle.hub_founding.proofs.Held.{given, given_none, its_rows, its_prefixes, each_had, had_each, one_alone, held_by}
use Rattle.hub_founding.proofs.register.register_of.Goals as goal

pub returns-in_default-2 : goal.returns-in_default-2
returns-in_default-2 c = λ t hubs keys prefixes keys_rise prefixes_rise holds.
    let had : is_some c.in_ok-lists.field-0 ≡ all_had c.args.keys.now c.args.prefixes.now =
    c.in_ok-lists.ensures.had (subst (Rises key_cmp) keys keys_rise) in
    let all : all_had t.keys t.prefixes ≡ true = each_had t.keys t.prefixes holds.prefixes_had in
    let none : is_some c.in_ok-lists.field-0 ≡ false = ap is_some c.in_default-2.is in
    let same : all_had t.keys t.prefixes ≡ all_had c.args.keys.now c.args.prefixes.now = λ i. all_had (keys i) (prefixes i) in
    let both : true ≡ false = sym all ∙ same ∙ sym had ∙ none in
    absurd (cc)

pub returns-in_default-3 : goal.returns-in_default-3
returns-in_default-3 c = λ t hubs keys prefixes keys_rise prefixes_rise holds.
    let read : map (λ list. list.items) c.in-Some.lists.items ≡ gathered c.args.prefixes.now c.args.keys.now =
    given _ c.in_ok-lists.field-0 c.in-Some.lists c.in-Some.is c.in_ok-lists.ensures.some (subst (Rises key_cmp) keys keys_rise) in
    let fails : all_company_prefixes (map (λ list. list.items) c.as_slice.result.now) ≡ false =
    given_none c.in_ok-suppliers.field-0 c.in_default-3.is c.in_ok-suppliers.ensures.none in
    let right : list_all are_company_prefixes (company_prefixes (map (row_in t.prefixes) t.keys)) ≡ true = holds.right.prefixes_right in
    let gathered_right : all_company_prefixes (gathered t.prefixes t.keys) ≡ true = its_prefixes t.prefixes prefixes_rise t.keys ∙ right in
    let same : gathered t.prefixes t.keys ≡ map (λ list. list.items) c.as_slice.result.now =
    (λ i. gathered (prefixes i) (keys i)) ∙ sym read ∙ ap (map (λ list. list.items)) (sym c.as_slice.ensures.value) in
    let both : true ≡ false = sym gathered_right ∙ ap all_company_prefixes same ∙ fails in
    absurd (cc)

pub returns : goal.returns
returns c = λ t hubs keys prefixes keys_rise prefixes_rise.
    let rise = subst (Rises key_cmp) keys keys_rise in
    let read : map (λ list. list.items) c.in-Some.lists.items ≡ gathered c.args.prefixes.now c.args.keys.now =
    given _ c.in_ok-lists.field-0 c.in-Some.lists c.in-Some.is c.in_ok-lists.ensures.some rise in
    let made = given _ c.in_ok-suppliers.field-0 c.in-Some-2.suppliers c.in-Some-2.is c.in_ok-suppliers.ensures.some in
    let same : c.in-Some-2.suppliers.items ≡ suppliers_of t =
    made ∙ ap (λ lists. rows_with c.args.keys.now (map (λ list. list.items) lists)) c.as_slice.ensures.value
    ∙ ap (rows_with c.args.keys.now) read
    ∙ sym (λ i. rows_with (keys i) (gathered (prefixes i) (keys i)))
    ∙ its_rows t.prefixes prefixes_rise t.keys in
    let one = one_alone c.args.hubs.now c.hub-item.result c.in-len1.len_at_least c.in-len1.len_below c.hub-item.is in
    let is_some_list : is_some c.in_ok-lists.field-0 ≡ true = ap is_some c.in-Some.is in
    let had : all_had t.keys t.prefixes ≡ true =
    (λ i. all_had (keys i) (prefixes i)) ∙ sym (c.in_ok-lists.ensures.had rise) ∙ is_some_list in
    held_by t c.hub-item.result c.copy.result c.in-Some-2.suppliers.items
    (hubs ∙ one) keys_rise prefixes_rise (had_each t.keys t.prefixes had)
    c.copy.ensures same c.of_rows.result c.of_rows.ensures.some c.of_rows.ensures.none
