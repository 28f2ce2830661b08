-- What the texts stand for that read rows, and values of rows.
use Rattle.std.proofs.Common.{◌++◌, ℕ, pos, List, [], ◌∷◌, codes, refl}
use Rattle.sqlite_sql.specs.Term.{Term, lit, col, op2}
use Rattle.sqlite_sql.specs.declared.ops.BinaryOp.TheVariants.{Compare}
use Rattle.sqlite_sql.specs.declared.ops.CompareOp.TheVariants.{Gt, Ne}
use Rattle.sqlite_value.specs.declared.keys.Collation.TheVariants.{Binary}
use Rattle.sqlite_value.specs.declared.keys.Key.{Key}
use Rattle.sqlite_value.specs.declared.value.Value.TheVariants.{Int}
use Rattle.sqlite_tied.specs.Compute.{everything}
use Rattle.sqlite.specs.Listing.{understood}
use Rattle.sqlite_sql.specs.Query.{Query}
use Rattle.hub_rows.proofs.Finding.{all_of, some_of}
use Rattle.hub_rows.proofs.Looking.{Selects}
use Rattle.hub_reads.proofs.Texts.{given_at, one, rising}

-- the first columns, and their order

abbrev pub two_columns : List Term
two_columns = col 1 1 ∷ col 1 2 ∷ []

abbrev pub three_columns : List Term
three_columns = col 1 1 ∷ col 1 2 ∷ col 1 3 ∷ []

abbrev pub four_columns : List Term
four_columns = col 1 1 ∷ col 1 2 ∷ col 1 3 ∷ col 1 4 ∷ []

abbrev pub five_columns : List Term
five_columns = col 1 1 ∷ col 1 2 ∷ col 1 3 ∷ col 1 4 ∷ col 1 5 ∷ []

abbrev pub eight_columns : List Term
eight_columns = col 1 1 ∷ col 1 2 ∷ col 1 3 ∷ col 1 4 ∷ col 1 5 ∷ col 1 6 ∷ col 1 7 ∷ col 1 8 ∷ []

abbrev pub nine_columns : List Term
nine_columns = col 1 1 ∷ col 1 2 ∷ col 1 3 ∷ col 1 4 ∷ col 1 5 ∷ col 1 6 ∷ col 1 7 ∷ col 1 8 ∷ col 1 9 ∷ []

-- the first column, or the second, equals the parameter

abbrev pub by_first : List Term
by_first = given_at 1 0 ∷ []

abbrev pub by_second : List Term
by_second = given_at 2 0 ∷ []

abbrev pub by_one : List (Term × Key)
by_one = rising 1 ∷ []

abbrev pub by_two : List (Term × Key)
by_two = rising 1 ∷ rising 2 ∷ []

abbrev pub by_three : List (Term × Key)
by_three = rising 1 ∷ rising 2 ∷ rising 3 ∷ []

abbrev pub by_four : List (Term × Key)
by_four = rising 1 ∷ rising 2 ∷ rising 3 ∷ rising 4 ∷ []

abbrev pub hubs_text : List ℕ
hubs_text = codes "SELECT hub, retailer, \"key\" FROM hub ORDER BY hub"

pub hubs_select : Selects hubs_text (all_of 18 [] three_columns by_one)
    (codes "hub" ∷ codes "retailer" ∷ codes "key" ∷ [])
unfolding understood everything
hubs_select = record { first = refl; plain = (refl, refl); unlisted = refl; is = refl }

abbrev pub suppliers_text : List ℕ
suppliers_text = codes "SELECT supplier, \"key\" FROM supplier ORDER BY supplier"

pub suppliers_select : Selects suppliers_text (all_of 20 [] two_columns by_one)
    (codes "supplier" ∷ codes "key" ∷ [])
unfolding understood everything
suppliers_select = record { first = refl; plain = (refl, refl); unlisted = refl; is = refl }

abbrev pub prefixes_text : List ℕ
prefixes_text = codes "SELECT prefix, supplier FROM prefix ORDER BY prefix"

pub prefixes_select : Selects prefixes_text (all_of 22 [] two_columns by_one)
    (codes "prefix" ∷ codes "supplier" ∷ [])
unfolding understood everything
prefixes_select = record { first = refl; plain = (refl, refl); unlisted = refl; is = refl }

abbrev pub orders_text : List ℕ
orders_text = codes "SELECT supplier, number FROM \"order\" WHERE supplier = ?1 ORDER BY supplier, number"

pub orders_select : Selects orders_text (all_of 1 by_first two_columns by_two)
    (codes "supplier" ∷ codes "number" ∷ [])
unfolding understood everything
orders_select = record { first = refl; plain = (refl, refl); unlisted = refl; is = refl }

abbrev pub lines_text : List ℕ
lines_text =
    codes "SELECT supplier, number, line, gtin, ordered, open_qty, refused, cancelled, answer FROM line "
    ++ codes "WHERE supplier = ?1 ORDER BY supplier, number, line"

pub lines_select : Selects lines_text (all_of 3 by_first nine_columns by_three)
    (codes "supplier" ∷ codes "number" ∷ codes "line" ∷ codes "gtin" ∷ codes "ordered" ∷ codes "open_qty" ∷
    codes "refused" ∷ codes "cancelled" ∷ codes "answer" ∷ [])
unfolding understood everything
lines_select = record { first = refl; plain = (refl, refl); unlisted = refl; is = refl }

abbrev pub advices_text : List ℕ
advices_text = codes "SELECT supplier, number FROM advice WHERE supplier = ?1 ORDER BY supplier, number"

pub advices_select : Selects advices_text (all_of 5 by_first two_columns by_two)
    (codes "supplier" ∷ codes "number" ∷ [])
unfolding understood everything
advices_select = record { first = refl; plain = (refl, refl); unlisted = refl; is = refl }

abbrev pub pallets_text : List ℕ
pallets_text = codes "SELECT sscc, supplier, advice, received FROM pallet WHERE supplier = ?1 ORDER BY sscc"

pub pallets_select : Selects pallets_text (all_of 7 by_second four_columns by_one)
    (codes "sscc" ∷ codes "supplier" ∷ codes "advice" ∷ codes "received" ∷ [])
unfolding understood everything
pallets_select = record { first = refl; plain = (refl, refl); unlisted = refl; is = refl }

abbrev pub contents_text : List ℕ
contents_text = codes "SELECT sscc, place, number, line, quantity FROM content WHERE sscc = ?1 ORDER BY sscc, place"

pub contents_select : Selects contents_text (all_of 10 by_first five_columns by_two)
    (codes "sscc" ∷ codes "place" ∷ codes "number" ∷ codes "line" ∷ codes "quantity" ∷ [])
unfolding understood everything
contents_select = record { first = refl; plain = (refl, refl); unlisted = refl; is = refl }

abbrev pub receipts_text : List ℕ
receipts_text = codes "SELECT sscc, gtin, accepted, returned, destroyed FROM receipt WHERE sscc = ?1 ORDER BY sscc, gtin"

pub receipts_select : Selects receipts_text (all_of 12 by_first five_columns by_two)
    (codes "sscc" ∷ codes "gtin" ∷ codes "accepted" ∷ codes "returned" ∷ codes "destroyed" ∷ [])
unfolding understood everything
receipts_select = record { first = refl; plain = (refl, refl); unlisted = refl; is = refl }

abbrev pub remembered_text : List ℕ
remembered_text =
    codes "SELECT supplier, side, control, message, content FROM remembered "
    ++ codes "WHERE supplier = ?1 ORDER BY supplier, side, control, message"

pub remembered_select : Selects remembered_text (all_of 14 by_first five_columns by_four)
    (codes "supplier" ∷ codes "side" ∷ codes "control" ∷ codes "message" ∷ codes "content" ∷ [])
unfolding understood everything
remembered_select = record { first = refl; plain = (refl, refl); unlisted = refl; is = refl }

abbrev pub mail_text : List ℕ
mail_text =
    codes "SELECT supplier, number, moment, decimal, kind, document, body, taken FROM mail "
    ++ codes "WHERE supplier = ?1 ORDER BY supplier, number"

pub mail_select : Selects mail_text (all_of 16 by_first eight_columns by_two)
    (codes "supplier" ∷ codes "number" ∷ codes "moment" ∷ codes "decimal" ∷ codes "kind" ∷ codes "document" ∷
    codes "body" ∷ codes "taken" ∷ [])
unfolding understood everything
mail_select = record { first = refl; plain = (refl, refl); unlisted = refl; is = refl }

-- whether a pallet was received
abbrev pub received_tests : List Term
received_tests = given_at 1 0 ∷ op2 (Compare Ne Binary) (col 1 4) (lit (Int (pos 0))) ∷ []

abbrev pub received_text : List ℕ
received_text = codes "SELECT supplier FROM pallet WHERE sscc = ?1 AND received <> 0"

pub received_select : Selects received_text (all_of 7 received_tests (col 1 2 ∷ []) []) (codes "supplier" ∷ [])
unfolding understood everything
received_select = record { first = refl; plain = (refl, refl); unlisted = refl; is = refl }

-- the lowest value above another

abbrev pub above : ℕ → List Term
above column = op2 (Compare Gt Binary) (col 1 column) (col 0 0) ∷ []

abbrev pub next_of : ℕ → ℕ → Query
next_of tree column = some_of tree (above column) (col 1 column ∷ []) (rising column ∷ []) one

abbrev pub next_order_text : List ℕ
next_order_text = codes "SELECT supplier FROM \"order\" WHERE supplier > ?1 ORDER BY supplier LIMIT 1"

pub next_order_select : Selects next_order_text (next_of 1 1) (codes "supplier" ∷ [])
unfolding understood everything
next_order_select = record { first = refl; plain = (refl, refl); unlisted = refl; is = refl }

abbrev pub next_line_text : List ℕ
next_line_text = codes "SELECT supplier FROM line WHERE supplier > ?1 ORDER BY supplier LIMIT 1"

pub next_line_select : Selects next_line_text (next_of 3 1) (codes "supplier" ∷ [])
unfolding understood everything
next_line_select = record { first = refl; plain = (refl, refl); unlisted = refl; is = refl }

abbrev pub next_advice_text : List ℕ
next_advice_text = codes "SELECT supplier FROM advice WHERE supplier > ?1 ORDER BY supplier LIMIT 1"

pub next_advice_select : Selects next_advice_text (next_of 5 1) (codes "supplier" ∷ [])
unfolding understood everything
next_advice_select = record { first = refl; plain = (refl, refl); unlisted = refl; is = refl }

abbrev pub next_pallet_text : List ℕ
next_pallet_text = codes "SELECT supplier FROM pallet WHERE supplier > ?1 ORDER BY supplier LIMIT 1"

pub next_pallet_select : Selects next_pallet_text (next_of 7 2) (codes "supplier" ∷ [])
unfolding understood everything
next_pallet_select = record { first = refl; plain = (refl, refl); unlisted = refl; is = refl }

abbrev pub next_content_text : List ℕ
next_content_text = codes "SELECT sscc FROM content WHERE sscc > ?1 ORDER BY sscc LIMIT 1"

pub next_content_select : Selects next_content_text (next_of 10 1) (codes "sscc" ∷ [])
unfolding understood everything
next_content_select = record { first = refl; plain = (refl, refl); unlisted = refl; is = refl }

abbrev pub next_receipt_text : List ℕ
next_receipt_text = codes "SELECT sscc FROM receipt WHERE sscc > ?1 ORDER BY sscc LIMIT 1"

pub next_receipt_select : Selects next_receipt_text (next_of 12 1) (codes "sscc" ∷ [])
unfolding understood everything
next_receipt_select = record { first = refl; plain = (refl, refl); unlisted = refl; is = refl }

abbrev pub next_remembered_text : List ℕ
next_remembered_text = codes "SELECT supplier FROM remembered WHERE supplier > ?1 ORDER BY supplier LIMIT 1"

pub next_remembered_select : Selects next_remembered_text (next_of 14 1) (codes "supplier" ∷ [])
unfolding understood everything
next_remembered_select = record { first = refl; plain = (refl, refl); unlisted = refl; is = refl }

abbrev pub next_mail_text : List ℕ
next_mail_text = codes "SELECT supplier FROM mail WHERE supplier > ?1 ORDER BY supplier LIMIT 1"

pub next_mail_select : Selects next_mail_text (next_of 16 1) (codes "supplier" ∷ [])
unfolding understood everything
next_mail_select = record { first = refl; plain = (refl, refl); unlisted = refl; is = refl }
