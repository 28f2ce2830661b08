-- Proves how the texts of the look-ups are parsed.
use Rattle.std.proofs.Common.{◌++◌, ℕ, pos, List, [], ◌∷◌, codes, true, false, refl}
use Rattle.sqlite_sql.specs.Term.{Term, lit, col, op1, op2}
use Rattle.sqlite_sql.specs.declared.ops.UnaryOp.TheVariants.{Length}
use Rattle.sqlite_sql.specs.Query.{Query}
use Rattle.sqlite_sql.specs.declared.ops.BinaryOp.TheVariants.{Compare}
use Rattle.sqlite_sql.specs.declared.ops.CompareOp.TheVariants.{Eq, Ne, Lt, Gt}
use Rattle.sqlite_value.specs.declared.keys.Collation.TheVariants.{Binary}
use Rattle.sqlite_value.specs.declared.keys.Key.{Key}
use Rattle.sqlite_value.specs.declared.value.Value.TheVariants.{Int}
use Rattle.sqlite_tied.specs.Compute.{everything}
use Rattle.sqlite.specs.Listing.{understood}
use Rattle.hub_rows.proofs.Finding.{some_of, all_of}
use Rattle.hub_rows.proofs.Looking.{Selects}

-- the column of the row equals the parameter; both are counted from 1
abbrev pub given_at : ℕ → ℕ → Term
given_at column parameter = op2 (Compare Eq Binary) (col 1 column) (col 0 parameter)

abbrev pub order_text : List ℕ
order_text = codes "SELECT number FROM \"order\" WHERE supplier = ?1 AND number = ?2"

abbrev pub document : ℕ → Query
document tree = all_of tree (given_at 1 0 ∷ given_at 2 1 ∷ []) (col 1 2 ∷ []) []

pub order_selects : Selects order_text (document 1) (codes "number" ∷ [])
unfolding understood everything
order_selects = record { first = refl; plain = (refl, refl); unlisted = refl; is = refl }

abbrev pub advice_text : List ℕ
advice_text = codes "SELECT number FROM advice WHERE supplier = ?1 AND number = ?2"

pub advice_selects : Selects advice_text (document 5) (codes "number" ∷ [])
unfolding understood everything
advice_selects = record { first = refl; plain = (refl, refl); unlisted = refl; is = refl }

abbrev pub rising : ℕ → Term × Key
rising column = (col 1 column, record { collation = Binary; descending = false })

-- The register.

abbrev pub hubs_text : List ℕ
hubs_text = codes "SELECT hub, retailer, \"key\" FROM hub ORDER BY hub"

pub hubs_select : Selects hubs_text (all_of 18 [] (col 1 1 ∷ col 1 2 ∷ col 1 3 ∷ []) (rising 1 ∷ []))
    (codes "hub" ∷ codes "retailer" ∷ codes "key" ∷ [])
unfolding understood everything
hubs_select = record { first = refl; plain = (refl, refl); unlisted = refl; is = refl }

abbrev pub keys_text : List ℕ
keys_text = codes "SELECT supplier, \"key\" FROM supplier ORDER BY supplier"

pub keys_select : Selects keys_text (all_of 20 [] (col 1 1 ∷ col 1 2 ∷ []) (rising 1 ∷ []))
    (codes "supplier" ∷ codes "key" ∷ [])
unfolding understood everything
keys_select = record { first = refl; plain = (refl, refl); unlisted = refl; is = refl }

abbrev pub prefixes_text : List ℕ
prefixes_text = codes "SELECT prefix, supplier FROM prefix ORDER BY prefix"

pub prefixes_select : Selects prefixes_text (all_of 22 [] (col 1 1 ∷ col 1 2 ∷ []) (rising 1 ∷ []))
    (codes "prefix" ∷ codes "supplier" ∷ [])
unfolding understood everything
prefixes_select = record { first = refl; plain = (refl, refl); unlisted = refl; is = refl }

-- Lines.

abbrev pub line_columns : List Term
line_columns = col 1 1 ∷ col 1 2 ∷ col 1 3 ∷ col 1 4 ∷ col 1 5 ∷ col 1 6 ∷ col 1 7 ∷ col 1 8 ∷ col 1 9 ∷ []

abbrev pub line_order : List (Term × Key)
line_order = rising 1 ∷ rising 2 ∷ rising 3 ∷ []

abbrev pub line_names : List (List ℕ)
line_names =
    codes "supplier" ∷ codes "number" ∷ codes "line" ∷ codes "gtin" ∷ codes "ordered" ∷ codes "open_qty" ∷ codes "refused"
    ∷ codes "cancelled" ∷ codes "answer" ∷ []

abbrev pub lines_text : List ℕ
lines_text =
    codes "SELECT supplier, number, line, gtin, ordered, open_qty, refused, cancelled, answer FROM line "
    ++ codes "WHERE supplier = ?1 AND number = ?2 ORDER BY supplier, number, line"

pub lines_select : Selects lines_text (all_of 3 (given_at 1 0 ∷ given_at 2 1 ∷ []) line_columns line_order) line_names
unfolding understood everything
lines_select = record { first = refl; plain = (refl, refl); unlisted = refl; is = refl }

abbrev pub numbered_tests : List Term
numbered_tests = given_at 1 0 ∷ given_at 2 1 ∷ given_at 3 2 ∷ []

abbrev pub numbered_text : List ℕ
numbered_text =
    codes "SELECT supplier, number, line, gtin, ordered, open_qty, refused, cancelled, answer FROM line "
    ++ codes "WHERE supplier = ?1 AND number = ?2 AND line = ?3 ORDER BY supplier, number, line"

pub numbered_select : Selects numbered_text (all_of 3 numbered_tests line_columns line_order) line_names
unfolding understood everything
numbered_select = record { first = refl; plain = (refl, refl); unlisted = refl; is = refl }

abbrev pub all_lines_text : List ℕ
all_lines_text =
    codes "SELECT supplier, number, line, gtin, ordered, open_qty, refused, cancelled, answer FROM line "
    ++ codes "WHERE supplier = ?1 ORDER BY supplier, number, line"

pub all_lines_select : Selects all_lines_text (all_of 3 (given_at 1 0 ∷ []) line_columns line_order) line_names
unfolding understood everything
all_lines_select = record { first = refl; plain = (refl, refl); unlisted = refl; is = refl }

-- Pallets.

abbrev pub used_text : List ℕ
used_text = codes "SELECT supplier FROM pallet WHERE sscc = ?1"

pub used_selects : Selects used_text (all_of 7 (given_at 1 0 ∷ []) (col 1 2 ∷ []) []) (codes "supplier" ∷ [])
unfolding understood everything
used_selects = record { first = refl; plain = (refl, refl); unlisted = refl; is = refl }

abbrev pub pallet_columns : List Term
pallet_columns = col 1 1 ∷ col 1 2 ∷ col 1 3 ∷ col 1 4 ∷ []

abbrev pub pallet_names : List (List ℕ)
pallet_names = codes "sscc" ∷ codes "supplier" ∷ codes "advice" ∷ codes "received" ∷ []

abbrev pub pallet_text : List ℕ
pallet_text = codes "SELECT sscc, supplier, advice, received FROM pallet WHERE sscc = ?1 AND supplier = ?2"

pub pallet_selects : Selects pallet_text (all_of 7 (given_at 1 0 ∷ given_at 2 1 ∷ []) pallet_columns []) pallet_names
unfolding understood everything
pallet_selects = record { first = refl; plain = (refl, refl); unlisted = refl; is = refl }

abbrev pub all_pallets_text : List ℕ
all_pallets_text = codes "SELECT sscc, supplier, advice, received FROM pallet WHERE supplier = ?1 ORDER BY sscc"

pub all_pallets_select : Selects all_pallets_text (all_of 7 (given_at 2 0 ∷ []) pallet_columns (rising 1 ∷ [])) pallet_names
unfolding understood everything
all_pallets_select = record { first = refl; plain = (refl, refl); unlisted = refl; is = refl }

abbrev pub held_text : List ℕ
held_text = codes "SELECT supplier FROM pallet WHERE sscc = ?1 AND supplier = ?2"

pub held_selects : Selects held_text (all_of 7 (given_at 1 0 ∷ given_at 2 1 ∷ []) (col 1 2 ∷ []) []) (codes "supplier" ∷ [])
unfolding understood everything
held_selects = record { first = refl; plain = (refl, refl); unlisted = refl; is = refl }

-- What is on a pallet.

abbrev pub content_columns : List Term
content_columns = col 1 1 ∷ col 1 2 ∷ col 1 3 ∷ col 1 4 ∷ col 1 5 ∷ []

abbrev pub on_pallet_order : List (Term × Key)
on_pallet_order = rising 1 ∷ rising 2 ∷ []

abbrev pub contents_text : List ℕ
contents_text = codes "SELECT sscc, place, number, line, quantity FROM content WHERE sscc = ?1 ORDER BY sscc, place"

pub contents_select : Selects contents_text (all_of 10 (given_at 1 0 ∷ []) content_columns on_pallet_order)
    (codes "sscc" ∷ codes "place" ∷ codes "number" ∷ codes "line" ∷ codes "quantity" ∷ [])
unfolding understood everything
contents_select = record { first = refl; plain = (refl, refl); unlisted = refl; is = refl }

abbrev pub receipts_text : List ℕ
receipts_text = codes "SELECT sscc, gtin, accepted, returned, destroyed FROM receipt WHERE sscc = ?1 ORDER BY sscc, gtin"

pub receipts_select : Selects receipts_text (all_of 12 (given_at 1 0 ∷ []) content_columns on_pallet_order)
    (codes "sscc" ∷ codes "gtin" ∷ codes "accepted" ∷ codes "returned" ∷ codes "destroyed" ∷ [])
unfolding understood everything
receipts_select = record { first = refl; plain = (refl, refl); unlisted = refl; is = refl }

-- What is remembered.

abbrev pub remembered_tests : List Term
remembered_tests = given_at 1 0 ∷ given_at 2 1 ∷ given_at 3 2 ∷ given_at 4 3 ∷ []

abbrev pub remembered_text : List ℕ
remembered_text = codes "SELECT content FROM remembered WHERE supplier = ?1 AND side = ?2 AND control = ?3 AND message = ?4"

pub remembered_selects : Selects remembered_text (all_of 14 remembered_tests (col 1 5 ∷ []) []) (codes "content" ∷ [])
unfolding understood everything
remembered_selects = record { first = refl; plain = (refl, refl); unlisted = refl; is = refl }

abbrev pub length_text : List ℕ
length_text = codes "SELECT length(content) FROM remembered WHERE supplier = ?1 AND side = ?2 AND control = ?3 AND message = ?4"

pub length_selects : Selects length_text (all_of 14 remembered_tests (op1 Length (col 1 5) ∷ []) []) (codes "length(content)" ∷ [])
unfolding understood everything
length_selects = record { first = refl; plain = (refl, refl); unlisted = refl; is = refl }

-- Mailboxes.

abbrev pub one : Term
one = lit (Int (pos 1))

abbrev pub low_tests : List Term
low_tests = given_at 1 0 ∷ op2 (Compare Lt Binary) (col 1 2) one ∷ []

abbrev pub low_text : List ℕ
low_text = codes "SELECT number FROM mail WHERE supplier = ?1 AND number < 1"

pub low_selects : Selects low_text (all_of 16 low_tests (col 1 2 ∷ []) []) (codes "number" ∷ [])
unfolding understood everything
low_selects = record { first = refl; plain = (refl, refl); unlisted = refl; is = refl }

abbrev pub above_test : Term
above_test = op2 (Compare Gt Binary) (col 1 2) (col 0 1)

abbrev pub above_text : List ℕ
above_text = codes "SELECT number FROM mail WHERE supplier = ?1 AND number > ?2"

pub above_selects : Selects above_text (all_of 16 (given_at 1 0 ∷ above_test ∷ []) (col 1 2 ∷ []) []) (codes "number" ∷ [])
unfolding understood everything
above_selects = record { first = refl; plain = (refl, refl); unlisted = refl; is = refl }

abbrev pub mail_columns : List Term
mail_columns = col 1 1 ∷ col 1 2 ∷ col 1 3 ∷ col 1 4 ∷ col 1 5 ∷ col 1 6 ∷ col 1 7 ∷ col 1 8 ∷ []

abbrev pub mail_names : List (List ℕ)
mail_names =
    codes "supplier" ∷ codes "number" ∷ codes "moment" ∷ codes "decimal" ∷ codes "kind" ∷ codes "document" ∷ codes "body"
    ∷ codes "taken" ∷ []

abbrev pub entry_text : List ℕ
entry_text = codes "SELECT supplier, number, moment, decimal, kind, document, body, taken FROM mail WHERE supplier = ?1 AND number = ?2"

pub entry_selects : Selects entry_text (all_of 16 (given_at 1 0 ∷ given_at 2 1 ∷ []) mail_columns []) mail_names
unfolding understood everything
entry_selects = record { first = refl; plain = (refl, refl); unlisted = refl; is = refl }

abbrev pub untaken_test : Term
untaken_test = op2 (Compare Ne Binary) (col 1 8) one

abbrev pub head_columns : List Term
head_columns = col 1 2 ∷ col 1 5 ∷ col 1 6 ∷ []

abbrev pub after_text : List ℕ
after_text = codes
    "SELECT number, kind, document FROM mail WHERE supplier = ?1 AND number > ?2 AND taken <> 1 ORDER BY supplier, number LIMIT ?3"

pub after_selects : Selects after_text
    (some_of 16 (given_at 1 0 ∷ above_test ∷ untaken_test ∷ []) head_columns (rising 1 ∷ rising 2 ∷ []) (col 0 2))
    (codes "number" ∷ codes "kind" ∷ codes "document" ∷ [])
unfolding understood everything
after_selects = record { first = refl; plain = (refl, refl); unlisted = refl; is = refl }

abbrev pub falling : ℕ → Term × Key
falling column = (col 1 column, record { collation = Binary; descending = true })

abbrev pub positive_test : Term
positive_test = op2 (Compare Gt Binary) (col 1 2) (lit (Int (pos 0)))

abbrev pub last_text : List ℕ
last_text = codes "SELECT number FROM mail WHERE supplier = ?1 AND number > 0 ORDER BY number DESC LIMIT 1"

pub last_selects : Selects last_text
    (some_of 16 (given_at 1 0 ∷ positive_test ∷ []) (col 1 2 ∷ []) (falling 2 ∷ []) one) (codes "number" ∷ [])
unfolding understood everything
last_selects = record { first = refl; plain = (refl, refl); unlisted = refl; is = refl }
