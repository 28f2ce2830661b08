-- Shows the definitions by examples of small registers.
use Rattle.std.proofs.Common.{◌≡◌, ℕ, List, [], ◌∷◌, ◌++◌, Some, None, Ok, Err, codes, refl}
use Rattle.toml.proofs.OnLiterals.{toml_on_literals}
use Rattle.hub_parties.specs.Rows.{RegisterRows, role_of}
use Rattle.hub_parties.specs.declared.role.Role.TheVariants.{Retailer, Supplier}
use Rattle.hub_parties.specs.declared.row.SupplierRow.{SupplierRow}
use Rattle.hub_register.specs.Document.{rows_of_text, row_with}
use Rattle.hub_register.specs.Fault.{fault_of}
use Rattle.hub_register.specs.Register.{register_of}
use Rattle.hub_register.specs.declared.fault.RegisterFault.TheVariants.{Text, Gln, Twice, Prefix, Overlap}

abbrev hub : List ℕ
hub = codes "5412345000006"

abbrev retailer : List ℕ
retailer = codes "5412345000013"

abbrev alpha : List ℕ
alpha = codes "4012345500004"

abbrev beta : List ℕ
beta = codes "8712345000004"

-- suppliers with one prefix, and with several
abbrev supplier : List ℕ → List ℕ → SupplierRow
supplier gln prefix = row_with gln (prefix ∷ []) (codes "alpha-key-1")

abbrev supplier_of : List ℕ → List (List ℕ) → SupplierRow
supplier_of gln prefixes = row_with gln prefixes (codes "alpha-key-1")

abbrev of : List SupplierRow → RegisterRows
of suppliers = record { hub = hub; retailer = retailer; retailer_key = codes "retail-key"; suppliers = suppliers }

overlap_of_neighbours : fault_of (of (supplier alpha (codes "4012345") ∷ supplier beta (codes "40123455") ∷ [])) ≡ Some (Overlap 1 2)
overlap_of_neighbours = refl

two_suppliers : fault_of (of (supplier alpha (codes "40123455") ∷ supplier beta (codes "8712345") ∷ [])) ≡ None
two_suppliers = refl

no_supplier : fault_of (of []) ≡ None
no_supplier = refl

first_and_last : fault_of (of (supplier (codes "3512345000005") (codes "8712345")
    ∷ supplier (codes "7612345000008") (codes "40123455")
    ∷ supplier alpha (codes "4012345")
    ∷ supplier beta (codes "8712")
    ∷ [])) ≡ Some (Overlap 1 4)
first_and_last = refl

equal_prefixes : fault_of (of (supplier alpha (codes "4012345") ∷ supplier beta (codes "4012345") ∷ [])) ≡ Some (Overlap 1 2)
equal_prefixes = refl

three_digits : fault_of (of (supplier alpha (codes "401") ∷ [])) ≡ Some Prefix
three_digits = refl

no_prefix : fault_of (of (supplier_of alpha [] ∷ [])) ≡ Some Prefix
no_prefix = refl

abbrev eight : List (List ℕ)
eight =
    codes "40123450" ∷ codes "40123451" ∷ codes "40123452" ∷ codes "40123453" ∷ codes "40123454" ∷ codes "40123455" ∷ codes "40123456"
    ∷ codes "40123457" ∷ []

eight_prefixes : fault_of (of (supplier_of alpha eight ∷ [])) ≡ None
eight_prefixes = refl

nine_prefixes : fault_of (of (supplier_of alpha (codes "8712345" ∷ eight) ∷ [])) ≡ Some Prefix
nine_prefixes = refl

equal_ones_of_a_supplier : fault_of (of (supplier_of alpha (codes "4012345" ∷ codes "8712" ∷ codes "4012345" ∷ []) ∷ [])) ≡ Some Prefix
equal_ones_of_a_supplier = refl

three_digits_behind_a_prefix : fault_of (of (supplier_of alpha (codes "8712345" ∷ codes "401" ∷ []) ∷ [])) ≡ Some Prefix
three_digits_behind_a_prefix = refl

own_prefixes_that_begin_one_another : fault_of (of (supplier_of alpha (codes "40123455" ∷ codes "4012" ∷ []) ∷ [])) ≡ None
own_prefixes_that_begin_one_another = refl

overlap_of_later_prefixes : fault_of (of (supplier_of alpha (codes "40123455" ∷ codes "4012" ∷ [])
    ∷ supplier (codes "7612345000008") (codes "7612345")
    ∷ supplier_of beta (codes "3512345" ∷ codes "401299" ∷ [])
    ∷ [])) ≡ Some (Overlap 1 3)
overlap_of_later_prefixes = refl

wrong_prefix_before_an_overlap : fault_of (of (supplier alpha (codes "4012345")
    ∷ supplier_of beta (codes "4012345" ∷ codes "4012345" ∷ [])
    ∷ [])) ≡ Some Prefix
wrong_prefix_before_an_overlap = refl

retailer_as_supplier : fault_of (of (supplier retailer (codes "4012345") ∷ [])) ≡ Some Twice
retailer_as_supplier = refl

wrong_gln_after_wrong_key : fault_of (of (row_with alpha (codes "4012345" ∷ []) (codes "short")
    ∷ supplier (codes "8712345000005") (codes "8712345")
    ∷ [])) ≡ Some Gln
wrong_gln_after_wrong_key = refl

one_right_key : role_of (of (supplier alpha (codes "40123455") ∷ [])) alpha (codes "alpha-key-1") ≡ Some Supplier
one_right_key = refl

retailers_key_for_a_supplier : role_of (of (supplier alpha (codes "40123455") ∷ [])) alpha (codes "retail-key") ≡ None
retailers_key_for_a_supplier = refl

retailer_is_known : role_of (of []) retailer (codes "retail-key") ≡ Some Retailer
retailer_is_known = refl

a_text : rows_of_text (codes "hub = \"5412345000006\"\n[retailer]\ngln = \"5412345000013\"\nkey = \"retail-key\"\n"
    ++ codes "[[supplier]]\nname = \"A\"\ngln = \"4012345500004\"\nprefix = \"40123455\"\nkey = \"alpha-key-1\"\n")
    ≡ Some (of (supplier alpha (codes "40123455") ∷ []))
unfolding toml_on_literals
a_text = refl

no_document : register_of (codes "hub = ") ≡ Err Text
unfolding toml_on_literals
no_document = refl

a_number_for_a_key : register_of (codes "hub = \"5412345000006\"\nretailer = { gln = \"5412345000013\", key = 12345678 }\n") ≡ Err Text
unfolding toml_on_literals
a_number_for_a_key = refl

one_supplier_as_a_table : register_of (codes "hub = \"5412345000006\"\nretailer = { gln = \"5412345000013\", key = \"retail-key\" }\n"
    ++ codes "[supplier]\ngln = \"4012345500004\"\nprefix = \"40123455\"\nkey = \"alpha-key-1\"\n") ≡ Err Text
unfolding toml_on_literals
one_supplier_as_a_table = refl

nobody : register_of (codes "hub = \"5412345000006\"\nretailer = { gln = \"5412345000013\", key = \"retail-key\" }\n") ≡ Ok (of [])
unfolding toml_on_literals
nobody = refl

a_list_of_prefixes : rows_of_text (codes "hub = \"5412345000006\"\n[retailer]\ngln = \"5412345000013\"\nkey = \"retail-key\"\n"
    ++ codes "[[supplier]]\ngln = \"4012345500004\"\nprefix = [\"8712\", \"40123455\", \"4012\"]\nkey = \"alpha-key-1\"\n")
    ≡ Some (of (supplier_of alpha (codes "8712" ∷ codes "40123455" ∷ codes "4012" ∷ []) ∷ []))
unfolding toml_on_literals
a_list_of_prefixes = refl

a_register_of_them : register_of (codes "hub = \"5412345000006\"\n[retailer]\ngln = \"5412345000013\"\nkey = \"retail-key\"\n"
    ++ codes "[[supplier]]\ngln = \"4012345500004\"\nprefix = [\"8712\", \"40123455\", \"4012\"]\nkey = \"alpha-key-1\"\n")
    ≡ Ok (of (supplier_of alpha (codes "4012" ∷ codes "40123455" ∷ codes "8712" ∷ []) ∷ []))
unfolding toml_on_literals
a_register_of_them = refl

an_empty_list : register_of (codes "hub = \"5412345000006\"\n[retailer]\ngln = \"5412345000013\"\nkey = \"retail-key\"\n"
    ++ codes "[[supplier]]\ngln = \"4012345500004\"\nprefix = []\nkey = \"alpha-key-1\"\n") ≡ Err Prefix
unfolding toml_on_literals
an_empty_list = refl

a_number_in_a_list : register_of (codes "hub = \"5412345000006\"\n[retailer]\ngln = \"5412345000013\"\nkey = \"retail-key\"\n"
    ++ codes "[[supplier]]\ngln = \"4012345500004\"\nprefix = [\"8712\", 4012]\nkey = \"alpha-key-1\"\n") ≡ Err Text
unfolding toml_on_literals
a_number_in_a_list = refl

a_number_for_a_prefix : register_of (codes "hub = \"5412345000006\"\n[retailer]\ngln = \"5412345000013\"\nkey = \"retail-key\"\n"
    ++ codes "[[supplier]]\ngln = \"4012345500004\"\nprefix = 4012\nkey = \"alpha-key-1\"\n") ≡ Err Text
unfolding toml_on_literals
a_number_for_a_prefix = refl
