-- Proves which mailbox entries a query finds.
use Rattle.std.proofs.Common.{◌≡◌, ℕ, ◌%◌, ◌==◌, ◌<◌, ◌^◌, nat_lt, nat_le, Bool, true, false, not, cond, ◌&&◌, ◌||◌}
use Rattle.std.proofs.Common.{inl, inr, Result, Ok, Err, Option, Some, None, List, [], ◌∷◌, pos, map, filter, find}
use Rattle.std.proofs.Common.{length, slice_get, refl, sym, ap, ap₂, subst, ◌∙◌, arith, true≢false}
use Rattle.std.specs.List.{AllByRecursion, list_all, list_any}
use Rattle.std.specs.List.Sorted.{IsPermutation}
use Rattle.std.specs.Ordering.{is_eq}
use Rattle.std.proofs.lemmas.Bool.{and_parts, and_from, or_parts, cases_Bool}
use Rattle.std.proofs.lemmas.Bool.Decides.{nat_tests}
use Rattle.sqlite_value.specs.declared.value.Value.TheVariants.{Blob, Int}
use Rattle.sqlite_value.specs.Order.{Row, column}
use Rattle.sqlite_sql.specs.Term.{Term, col}
use Rattle.sqlite_sql.specs.Query.{IsAnswer}
use Rattle.sqlite_sql.specs.Program.{overlay}
use Rattle.sqlite.specs.State.{State}
use Rattle.sql_rows.specs.Cells.{AreOf}
use Rattle.sql_rows.proofs.Answers.{and_true}
use Rattle.edi_envelope.specs.Mail.{last_number}
use Rattle.edi_moment.specs.Moment.{last_moment}
use Rattle.edi_segments.specs.Service.{is_decimal}
use Rattle.gs1_ids.specs.Gln.{is_gln}
use Rattle.hub_store.specs.Clean.{are_clean, are_bytes, clean_mail, is_within, is_kind, is_number, is_truth}
use Rattle.hub_store.specs.declared.fault.StoreFault.{StoreFault}
use Rattle.hub_store.specs.declared.fault.StoreFault.TheVariants.{Unclean}
use Rattle.hub_tables.specs.Rows.{same, mail_cmp}
use Rattle.hub_tables.specs.State.{entry_at}
use Rattle.hub_tables.specs.Tables.{Tables, view}
use Rattle.hub_tables.specs.declared.rows.MailRow.{MailRow}
use Rattle.hub_tables.proofs.KindOrders.{mail_total}
use Rattle.hub_schema.specs.Rows.{mail_in, tables_in}
use Rattle.hub_schema.specs.State.{IsHub, LooksUp}
use Rattle.hub_schema.proofs.InKeyOrder.{listed_any}
use Rattle.hub_schema.proofs.Single.{mail_kinds, mail_cells, hub_rises}
use Rattle.hub_rows.specs.Asks.{Asks}
use Rattle.hub_reads.specs.Mail.{is_low, is_above, low_of, above_of}
use Rattle.hub_rows.specs.Shown.{shown_mail}
use Rattle.hub_reads.proofs.Comparing.{cell_low, cell_above}
use Rattle.hub_rows.proofs.Counting.{cell_bytes, cell_number, any_shown, some_found, all_such}
use Rattle.hub_rows.proofs.Finding.{all_of, no_limit, passes, FindsRows, finds}
use Rattle.hub_rows.proofs.Joining.{looks_on, looks_spoilt}
use Rattle.hub_rows.proofs.Listing.{rows_moved, rows_spoil, filter_both}
use Rattle.hub_rows.proofs.Looking.{looks}
use Rattle.hub_rows.proofs.Single.{found_first, both_tied, bytes_tied, numbers_tied}
use Rattle.hub_reads.proofs.Texts.{given_at, low_tests, low_text, low_selects, above_test, above_text, above_selects}
use Rattle.hub_reads.proofs.Texts.{mail_columns, entry_text, entry_selects}
use Rattle.hub_rows.proofs.Unclean.{first_fails, later_fails, mail_unclean}

-- whether a query for numbers has rows
some_entry : (s : State) → IsHub s → (tests : List Term) (params : Row) (test : MailRow → Bool)
    → ((row : Row) → AreOf mail_kinds 0 row → passes tests params row ≡ test (mail_in row))
    → (rows : List Row) → IsAnswer (all_of 16 tests (col 1 2 ∷ []) []) (overlay s.now.trees []) params rows
    → not (length rows == 0) ≡ list_any test (tables_in s.now.trees).mail
some_entry s hub tests params test passed rows answer =
    let db = s.now.trees in
    some_found (db 16) tests (col 1 2 ∷ []) [] params rows (finds db 16 tests (col 1 2 ∷ []) [] no_limit params rows refl answer)
    ∙ any_shown mail_in test (passes tests params) (db 16) (all_such _ _ passed (db 16) (mail_cells s.now hub.schema hub.sound hub.ordered))
    ∙ sym (listed_any mail_cmp test (map mail_in (db 16)))

pub low_look : (old new : State) (supplier : List ℕ) (result : Result Bool StoreFault)
    → Asks (λ rows answer. answer ≡ not (length rows == 0)) (λ _. ⊥) low_text (Blob supplier ∷ []) old new result
    → LooksUp (λ t. list_any (low_of supplier) t.mail) old new result
low_look old new supplier =
    looks low_selects _ _ _ _ old new
    (λ hub rows answer x is. is ∙ some_entry old hub low_tests (Blob supplier ∷ []) (low_of supplier)
    (λ row it. ap₂ (λ v w. v && w) (cell_bytes (column row 1) supplier it.0) (and_true _ ∙ cell_low (column row 2) it.1.0)) rows answer)
    (λ hub rows answer no. absurd no)

pub above_look : (old new : State) (supplier : List ℕ) (bound : ℕ) → bound < 2 ^ 63 → (result : Result Bool StoreFault)
    → Asks (λ rows answer. answer ≡ not (length rows == 0)) (λ _. ⊥) above_text (Blob supplier ∷ Int (pos bound) ∷ []) old new result
    → LooksUp (λ t. list_any (above_of supplier bound) t.mail) old new result
above_look old new supplier bound low =
    looks above_selects _ _ _ _ old new
    (λ hub rows answer x is. is ∙ some_entry old hub (given_at 1 0 ∷ above_test ∷ []) (Blob supplier ∷ Int (pos bound) ∷ [])
    (above_of supplier bound)
    (λ row it. ap₂ (λ v w. v && w) (cell_bytes (column row 1) supplier it.0)
    (and_true _ ∙ cell_above (column row 2) bound low it.1.0)) rows answer)
    (λ hub rows answer no. absurd no)

alike : (supplier : List ℕ) (number : ℕ) (x y : MailRow) → (same x.supplier supplier && (x.number == number)) ≡ true
    → (same y.supplier supplier && (y.number == number)) ≡ true → is_eq (mail_cmp x y) ≡ true
alike supplier number x y a b =
    let a0 = and_parts (same x.supplier supplier) (x.number == number) a in
    let b0 = and_parts (same y.supplier supplier) (y.number == number) b in
    both_tied _ _ (bytes_tied x.supplier y.supplier supplier a0.0 b0.0) (numbers_tied x.number y.number number a0.1 b0.1)

pub entry_look : (old new : State) (supplier : List ℕ) (number : ℕ) → number < 2 ^ 63 → (result : Result (Option MailRow) StoreFault)
    → Asks (λ rows first. first ≡ slice_get (map shown_mail rows) 0)
    (λ rows. list_all clean_mail (map shown_mail rows) ≡ false) entry_text (Blob supplier ∷ Int (pos number) ∷ []) old new result
    → LooksUp (λ t. entry_at (view supplier t) number) old new result
entry_look old new supplier number low =
    let db = old.now.trees in
    let tests = given_at 1 0 ∷ given_at 2 1 ∷ [] in
    let params = Blob supplier ∷ Int (pos number) ∷ [] in
    let whose : MailRow → Bool = λ entry. same entry.supplier supplier in
    let at : MailRow → Bool = λ entry. entry.number == number in
    let passed : (row : Row) → AreOf mail_kinds 0 row → passes tests params row ≡ (whose (mail_in row) && at (mail_in row)) =
    λ row it. ap₂ (λ v w. v && w) (cell_bytes (column row 1) supplier it.0)
    (and_true _ ∙ cell_number (column row 2) number (omega (arith, low)) it.1.0) in
    let found : (rows : List Row) → IsAnswer (all_of 16 tests mail_columns []) (overlay db []) params rows
    → FindsRows (db 16) tests mail_columns [] no_limit params rows =
    λ rows answer. finds db 16 tests mail_columns [] no_limit params rows refl answer in
    looks entry_selects _ _ _ params old new
    (λ hub rows answer first is.
    let all = (tables_in db).mail in
    is ∙ found_first mail_cmp whose at all (map shown_mail rows) (hub_rises old hub).mail (alike supplier number)
    (subst (λ xs. IsPermutation xs (map shown_mail rows)) (sym (filter_both whose at all))
    (rows_moved mail_total mail_in shown_mail mail_columns [] (db 16) tests params rows (λ row. refl) (found rows answer)
    (λ entry. whose entry && at entry)
    (all_such _ _ passed (db 16) (mail_cells old.now hub.schema hub.sound hub.ordered)))))
    (λ hub rows answer spoilt. mail_unclean (tables_in db) (rows_spoil mail_total mail_in shown_mail mail_columns []
    (db 16) tests params rows (λ row. refl) (found rows answer) clean_mail spoilt))

-- Entries with numbers that no entry of the hub has.

pub any_spoils : {X : Type 0} (p clean : X → Bool) → ((x : X) → p x ≡ true → clean x ≡ false) → (xs : List X) → list_any p xs ≡ true
    → list_all clean xs ≡ false
any_spoils p clean spoils [] h = cc
any_spoils p clean spoils (x ∷ xs) h = elim (cases_Bool (p x)) [
  | inl e ↦ first_fails (clean x) (list_all clean xs) (spoils x e)
  | inr e ↦ later_fails (clean x) (list_all clean xs) (any_spoils p clean spoils xs (sym (ap (λ v. v || list_any p xs) e) ∙ h))
]

pub all_not : {X : Type 0} (p : X → Bool) (xs : List X) → list_any p xs ≡ false → AllByRecursion (λ x. p x ≡ false) xs
all_not p [] h = tt
all_not p (x ∷ xs) h = let parts = or_parts (p x) (list_any p xs) h in (parts.0, all_not p xs parts.1)

-- if no element passes one test, none is found by a test that asks more
pub none_found : {X : Type 0} (whose at p : X → Bool) → ((x : X) → whose x ≡ true → at x ≡ true → p x ≡ true) → (xs : List X)
    → list_any p xs ≡ false → filter at (filter whose xs) ≡ []
none_found whose at p more xs h = filter_both whose at xs ∙ go xs (all_not p xs h)
  where
    one : (x : _) → p x ≡ false → (whose x && at x) ≡ false
    one x fails = elim (cases_Bool (whose x)) [
      | inr e ↦ first_fails (whose x) (at x) e
      | inl e ↦ elim (cases_Bool (at x)) [ inr g ↦ later_fails (whose x) (at x) g | inl g ↦ absurd (true≢false (sym (more x e g) ∙ fails)) ]
    ]

    go : (xs : List _) → AllByRecursion (λ x. p x ≡ false) xs → filter (λ x. whose x && at x) xs ≡ []
    go [] all = refl
    go (x ∷ xs) all = ap (λ v. cond v (x ∷ filter (λ x. whose x && at x) xs) (filter (λ x. whose x && at x) xs)) (one x all.0) ∙ go xs all.1

find_empty : {X : Type 0} (p : X → Bool) (xs : List X) → filter p xs ≡ [] → find p xs ≡ None
find_empty p [] h = refl
find_empty p (x ∷ xs) h = elim (p x) as (λ v. cond v (x ∷ filter p xs) (filter p xs) ≡ []
    → cond v (Some x) (find p xs) ≡ None) [ true ↦ λ g. absurd cc | false ↦ λ g. find_empty p xs g ] h

-- an entry whose number is out of range does not have the form of its kind
unfit : (entry : MailRow) → is_within 1 last_number entry.number ≡ false → clean_mail entry ≡ false
unfit entry h =
    later_fails (is_gln entry.supplier) (is_within 1 last_number entry.number
    && (nat_le entry.moment last_moment && (is_decimal entry.decimal
    && (is_kind entry.kind && (is_number entry.document && (are_bytes entry.body && is_truth entry.taken))))))
    (first_fails (is_within 1 last_number entry.number) (nat_le entry.moment last_moment
    && (is_decimal entry.decimal && (is_kind entry.kind && (is_number entry.document
    && (are_bytes entry.body && is_truth entry.taken))))) h)

past : (n : ℕ) → is_above last_number n ≡ true → is_within 1 last_number n ≡ false
past n h = high n (and_parts (nat_lt last_number n) (not (is_low n)) h).0
  where
    high : (n : ℕ) → nat_lt last_number n ≡ true → is_within 1 last_number n ≡ false
    high n e = grind (arith, nat_tests)

pub above_spoils : (supplier : List ℕ) (t : Tables) → true ≡ list_any (above_of supplier last_number) t.mail → are_clean t ≡ false
above_spoils supplier t has =
    mail_unclean t (any_spoils (above_of supplier last_number) clean_mail
    (λ entry h. unfit entry (past entry.number (and_parts (same entry.supplier supplier) (is_above last_number entry.number) h).1)) t.mail
    (sym has))

-- a number that is zero or less is out of range
lowest : (n : ℕ) → is_low n ≡ true → is_within 1 last_number n ≡ false
lowest n h = elim (cases_Bool (n == 0)) [
  | inl e ↦ zero_out n e
  | inr e ↦ great n (and_parts (nat_lt (2 ^ 65) n) _ (sym (ap (λ v. v || (nat_lt (2 ^ 65) n && (n % 2 == 1))) e) ∙ h)).0
]
  where
    zero_out : (n : ℕ) → (n == 0) ≡ true → is_within 1 last_number n ≡ false
    zero_out n e = grind (arith, nat_tests)

    great : (n : ℕ) → nat_lt (2 ^ 65) n ≡ true → is_within 1 last_number n ≡ false
    great n e = grind (arith, nat_tests)

pub low_spoils : (supplier : List ℕ) (t : Tables) → true ≡ list_any (low_of supplier) t.mail → are_clean t ≡ false
low_spoils supplier t has =
    mail_unclean t (any_spoils (low_of supplier) clean_mail
    (λ entry h. unfit entry (lowest entry.number (and_parts (same entry.supplier supplier) (is_low entry.number) h).1)) t.mail (sym has))

-- a number of the code that is greater than the last one is above it as a query compares
pub not_low : (n : ℕ) → last_number < n → n < 2 ^ 64 → is_above last_number n ≡ true
not_low n more fits = and_from (nat_lt last_number n) (not (is_low n)) (grind (arith, nat_tests, more)) (ap not (small n more fits))
  where
    small : (n : ℕ) → last_number < n → n < 2 ^ 64 → is_low n ≡ false
    small n more fits =
        let zero : (n == 0) ≡ false = grind (arith, nat_tests, more) in
        let below : nat_lt (2 ^ 65) n ≡ false = grind (arith, nat_tests, fits) in
        ap₂ (λ v w. v || (w && (n % 2 == 1))) zero below

pub no_entry : (old new : State) (supplier : List ℕ) (number : ℕ) (above : Bool) → above ≡ false → last_number < number → number < 2 ^ 64
    → LooksUp (λ t. list_any (above_of supplier last_number) t.mail) old new (Ok above)
    → LooksUp (λ t. entry_at (view supplier t) number) old new (Ok None)
no_entry old new supplier number above none more fits =
    looks_on _ _ old new above None (λ t is. sym (find_empty (λ entry. entry.number == number)
    (filter (λ entry. same entry.supplier supplier) t.mail)
    (none_found (λ entry. same entry.supplier supplier) (λ entry. entry.number == number) (above_of supplier last_number)
    (λ entry own at. and_from (same entry.supplier supplier) (is_above last_number entry.number) own
    (subst (λ n. is_above last_number n ≡ true) (sym (number_is entry.number number at)) (not_low number more fits)))
    t.mail (sym is ∙ none))))
  where
    number_is : (a b : ℕ) → (a == b) ≡ true → a ≡ b
    number_is a b h = grind (arith, nat_tests)

pub past_entry : {Y : Type 0} (answer : Tables → Y) (old new : State) (supplier : List ℕ) (above : Bool) → above ≡ true
    → LooksUp (λ t. list_any (above_of supplier last_number) t.mail) old new (Ok above) → LooksUp answer old new (Err Unclean)
past_entry answer old new supplier above is = looks_spoilt _ answer old new above (λ t has. above_spoils supplier t (sym is ∙ has))
