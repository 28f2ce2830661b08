-- Shows the rules of joins by examples of small registers and of full ones.
use Rattle.std.proofs.Common.{◌≡◌, ℕ, true, false, List, [], ◌∷◌, Some, None, codes, replicate, refl}
use Rattle.hub_parties.specs.Rows.{RegisterRows, rows_by}
use Rattle.hub_parties.specs.declared.row.SupplierRow.{SupplierRow}
use Rattle.hub_tables.specs.declared.change.Change.TheVariants.{AddKey, AddPrefix}
use Rattle.hub_rules.specs.JoinRules.{is_join, join_of, judge_join, joins}
use Rattle.hub_rules.specs.declared.code.Code.TheVariants.{GlnKnown, PrefixOverlaps, RegisterFull}
use Rattle.hub_rules.specs.declared.verdict.Verdict.{Verdict}
use Rattle.hub_rules.specs.declared.verdict.Verdict.TheVariants.{Accept, Refuse}

abbrev hub : List ℕ
hub = codes "5412345000006"

abbrev retailer : List ℕ
retailer = codes "5412345000013"

abbrev alpha : SupplierRow
alpha = record {
  gln = codes "4012345500004";
  prefixes = codes "40123455" ∷ codes "9501101" ∷ [];
  key = codes "alpha-key-1";
}

abbrev gamma : List ℕ
gamma = codes "4006381000000"

abbrev gammas_key : List ℕ
gammas_key = codes "gamma-key-1"

abbrev register : List SupplierRow → RegisterRows
register suppliers = rows_by hub retailer (codes "retail-key") suppliers

abbrev judged : List SupplierRow → List ℕ → List (List ℕ) → Verdict
judged suppliers gln prefixes = judge_join (register suppliers) (record { gln = gln; prefixes = prefixes; key = gammas_key })

-- B18
the_hub_is_known : judged (alpha ∷ []) hub (codes "4006381" ∷ []) ≡ Refuse GlnKnown
the_hub_is_known = refl

the_retailer_is_known : judged (alpha ∷ []) retailer (codes "4006381" ∷ []) ≡ Refuse GlnKnown
the_retailer_is_known = refl

a_supplier_is_known : judged (alpha ∷ []) alpha.gln (codes "4006381" ∷ []) ≡ Refuse GlnKnown
a_supplier_is_known = refl

a_known_gln_is_told_before_an_overlap : judged (alpha ∷ []) alpha.gln alpha.prefixes ≡ Refuse GlnKnown
a_known_gln_is_told_before_an_overlap = refl

a_known_gln_is_told_before_a_full_register : judged (replicate 1000 alpha) hub (codes "4006381" ∷ []) ≡ Refuse GlnKnown
a_known_gln_is_told_before_a_full_register = refl

-- B19: each prefix with each, both ways
it_begins_anothers : judged (alpha ∷ []) gamma (codes "4012" ∷ []) ≡ Refuse PrefixOverlaps
it_begins_anothers = refl

it_is_begun_by_anothers : judged (alpha ∷ []) gamma (codes "401234551" ∷ []) ≡ Refuse PrefixOverlaps
it_is_begun_by_anothers = refl

its_second_overlaps : judged (alpha ∷ []) gamma (codes "4006381" ∷ codes "401234551" ∷ []) ≡ Refuse PrefixOverlaps
its_second_overlaps = refl

the_others_second_overlaps : judged (alpha ∷ []) gamma (codes "95011012" ∷ []) ≡ Refuse PrefixOverlaps
the_others_second_overlaps = refl

its_own_may_begin_one_another : judged (alpha ∷ []) gamma (codes "4006381" ∷ codes "40063812" ∷ []) ≡
    Accept (AddKey (record { supplier = gamma; key = gammas_key })
    ∷ AddPrefix (record { prefix = codes "4006381"; supplier = gamma })
    ∷ AddPrefix (record { prefix = codes "40063812"; supplier = gamma })
    ∷ [])
its_own_may_begin_one_another = refl

-- B20
the_thousandth_joins : joins (register (replicate 999 alpha)) (record {
  gln = gamma;
  prefixes = codes "4006381" ∷ [];
  key = gammas_key;
}) ≡ true
the_thousandth_joins = refl

one_more_does_not : judged (replicate 1000 alpha) gamma (codes "4006381" ∷ []) ≡ Refuse RegisterFull
one_more_does_not = refl

an_overlap_is_told_before_a_full_register : judged (replicate 1000 alpha) gamma (codes "4012" ∷ []) ≡ Refuse PrefixOverlaps
an_overlap_is_told_before_a_full_register = refl

-- what a join is: prefixes in any order, none twice, one to eight of them, and a key of at least 8 bytes
prefixes_are_put_in_order : join_of gamma gammas_key (codes "9501101" ∷ codes "4006381" ∷ codes "40063812" ∷ []) ≡
    Some (record { gln = gamma; prefixes = codes "4006381" ∷ codes "40063812" ∷ codes "9501101" ∷ []; key = gammas_key })
prefixes_are_put_in_order = refl

none_is_no_join : join_of gamma gammas_key [] ≡ None
none_is_no_join = refl

two_equal_are_no_join : join_of gamma gammas_key (codes "4006381" ∷ codes "9501101" ∷ codes "4006381" ∷ []) ≡ None
two_equal_are_no_join = refl

eight_are_a_join : join_of gamma gammas_key (codes "4001" ∷ codes "4002" ∷ codes "4003" ∷ codes "4004" ∷ codes "4005"
    ∷ codes "4006" ∷ codes "4007" ∷ codes "4008" ∷ []) ≡ Some (record {
      gln = gamma;
      prefixes = codes "4001" ∷ codes "4002" ∷ codes "4003" ∷ codes "4004" ∷ codes "4005" ∷ codes "4006" ∷ codes "4007"
          ∷ codes "4008" ∷ [];
      key = gammas_key;
    })
eight_are_a_join = refl

nine_are_no_join : join_of gamma gammas_key (codes "4001" ∷ codes "4002" ∷ codes "4003" ∷ codes "4004" ∷ codes "4005"
    ∷ codes "4006" ∷ codes "4007" ∷ codes "4008" ∷ codes "4009" ∷ []) ≡ None
nine_are_no_join = refl

a_short_key_is_no_join : join_of gamma (codes "7-bytes") (codes "4006381" ∷ []) ≡ None
a_short_key_is_no_join = refl

no_gln_is_no_join : is_join (record { gln = codes "4006381000001"; prefixes = codes "4006381" ∷ []; key = gammas_key }) ≡ false
no_gln_is_no_join = refl
