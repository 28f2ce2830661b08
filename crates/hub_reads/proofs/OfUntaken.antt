-- Proves which entries a query finds that are not taken, in the order of their numbers.
use Rattle.std.proofs.Common.{◌≡◌, ℕ, ◌<◌, ◌≤◌, ◌^◌, nat_lt, nat_le, zero, suc, Bool, true, false, not, ◌&&◌, ◌⊎◌, inl, inr, Result}
use Rattle.std.proofs.Common.{Ok, Err, Option, Some, None, List, [], ◌∷◌, pos, negsuc, map, filter, take, refl, sym, ap}
use Rattle.std.proofs.Common.{ap₂, ◌∙◌, arith, true≢false}
use Rattle.std.specs.List.{AllByRecursion, list_all, list_any}
use Rattle.std.specs.Ordering.{ordering_then}
use Rattle.std.proofs.lemmas.Bool.{and_parts, and_from, cases_Bool}
use Rattle.std.proofs.lemmas.Bool.Decides.{nat_tests}
use Rattle.sqlite_value.specs.declared.value.Value.{Value}
use Rattle.sqlite_value.specs.declared.value.Value.TheVariants.{Blob, Int}
use Rattle.sqlite_value.specs.declared.keys.Key.{Key}
use Rattle.sqlite_value.specs.Order.{Row, column}
use Rattle.sqlite_sql.specs.Term.{Term, col}
use Rattle.sqlite_sql.specs.Query.{IsAnswer, sort_cmp, limited, as_count}
use Rattle.sqlite_sql.specs.Program.{overlay}
use Rattle.sqlite.specs.State.{State}
use Rattle.sqlite.specs.Values.{bound_value}
use Rattle.sql_rows.specs.Cells.{AreOf}
use Rattle.sql_rows.proofs.Answers.{and_true, map_twice}
use Rattle.edi_envelope.specs.Mail.{last_number}
use Rattle.hub_store.specs.Clean.{are_clean, are_bytes, clean_mail, clean_head, is_within, is_kind, is_number, is_truth}
use Rattle.hub_store.specs.Heads.{head_of}
use Rattle.hub_store.specs.declared.mail.MailHead.{MailHead}
use Rattle.edi_moment.specs.Moment.{last_moment}
use Rattle.edi_segments.specs.Service.{is_decimal}
use Rattle.gs1_ids.specs.Gln.{is_gln}
use Rattle.hub_store.specs.declared.fault.StoreFault.{StoreFault}
use Rattle.hub_store.specs.declared.fault.StoreFault.TheVariants.{Unclean}
use Rattle.hub_tables.specs.Rows.{same, mail_cmp}
use Rattle.hub_tables.specs.State.{is_taken, untaken_after}
use Rattle.hub_tables.specs.Tables.{Tables, view}
use Rattle.hub_tables.specs.declared.rows.MailRow.{MailRow}
use Rattle.hub_tables.proofs.KindOrders.{mail_total}
use Rattle.hub_tables.proofs.Lists.{all_passes, filter_alike}
use Rattle.hub_schema.specs.Rows.{mail_in, tables_in}
use Rattle.hub_schema.specs.State.{IsHub, LooksUp}
use Rattle.hub_schema.proofs.Single.{mail_kinds, mail_cells, hub_rises}
use Rattle.hub_rows.specs.Asks.{Asks}
use Rattle.hub_reads.specs.Mail.{is_low, is_above, low_of, above_of}
use Rattle.hub_rows.specs.Shown.{shown_head}
use Rattle.hub_reads.proofs.Comparing.{cell_above, cell_untaken, rank_above}
use Rattle.hub_rows.proofs.Counting.{cell_bytes, all_such}
use Rattle.hub_rows.proofs.Finding.{some_of, passes, FindsRows, finds}
use Rattle.hub_rows.proofs.Joining.{looks_on, looks_spoilt, looks_then}
use Rattle.hub_rows.proofs.Listing.{shown_say, sources_have, sources_pass, sources_are, sources_sorted, sources_spoil}
use Rattle.hub_rows.proofs.Listing.{filter_both, all_both, all_clean, all_then, all_to_map, clean_all}
use Rattle.hub_rows.proofs.Looking.{looks}
use Rattle.hub_reads.proofs.OfMail.{all_not, none_found, low_spoils}
use Rattle.hub_rows.proofs.Ranking.{rank_bytes, then_none}
use Rattle.hub_reads.proofs.Texts.{given_at, rising, above_test, untaken_test, head_columns, after_text, after_selects}
use Rattle.hub_rows.proofs.Unclean.{mail_unclean}

-- Prefixes of lists.

map_take : {X Y : Type 0} (f : X → Y) (n : ℕ) (xs : List X) → map f (take n xs) ≡ take n (map f xs)
map_take f zero xs = refl
map_take f (suc n) [] = refl
map_take f (suc n) (x ∷ xs) = ap (λ ys. f x ∷ ys) (map_take f n xs)

pub map_limited : {X Y : Type 0} (f : X → Y) (most : Option ℕ) (xs : List X) → map f (limited most xs) ≡ limited most (map f xs)
map_limited f None xs = refl
map_limited f (Some n) xs = map_take f n xs

all_take : {X : Type 0} (P : X → Type 0) (n : ℕ) (xs : List X) → AllByRecursion P xs → AllByRecursion P (take n xs)
all_take P zero xs all = tt
all_take P (suc n) [] all = tt
all_take P (suc n) (x ∷ xs) all = (all.0, all_take P n xs all.1)

all_limited : {X : Type 0} (P : X → Type 0) (most : Option ℕ) (xs : List X) → AllByRecursion P xs → AllByRecursion P (limited most xs)
all_limited P None xs all = all
all_limited P (Some n) xs all = all_take P n xs all

pub limited_spoil : {X : Type 0} (clean : X → Bool) (most : Option ℕ) (xs : List X) → list_all clean (limited most xs) ≡ false
    → list_all clean xs ≡ false
limited_spoil clean most xs h = elim (cases_Bool (list_all clean xs)) [
  | inl e ↦ absurd (true≢false (sym (clean_all clean (limited most xs) (all_limited (λ x. clean x ≡ true) most xs (all_clean clean xs e)))
      ∙ h))
  | inr e ↦ e
]

take_twice : {X : Type 0} (n : ℕ) (xs : List X) → take n (take n xs) ≡ take n xs
take_twice zero xs = refl
take_twice (suc n) [] = refl
take_twice (suc n) (x ∷ xs) = ap (λ ys. x ∷ ys) (take_twice n xs)

-- the query's limit is the caller's, or there is none
pub first_of_limited : {X : Type 0} (most : Value) (limit : ℕ) → (most ≡ Int (pos limit)) ⊎ (most ≡ Int (negsuc 0)) → (xs : List X)
    → take limit (limited (as_count most) xs) ≡ take limit xs
first_of_limited most limit (inl e) xs = ap (λ v. take limit (limited (as_count v) xs)) e ∙ take_twice limit xs
first_of_limited most limit (inr e) xs = ap (λ v. take limit (limited (as_count v) xs)) e

-- What a list shows of an entry that has the form of its kind.

shown_clean : (entry : MailRow) → clean_mail entry ≡ true → clean_head (head_of entry) ≡ true
shown_clean entry h =
    let number = is_within 1 last_number entry.number in
    let moment = nat_le entry.moment last_moment in
    let decimal = is_decimal entry.decimal in
    let kind = is_kind entry.kind in
    let document = is_number entry.document in
    let rest = are_bytes entry.body && is_truth entry.taken in
    let own = and_parts (is_gln entry.supplier) (number && (moment && (decimal && (kind && (document && rest))))) h in
    let one = and_parts number (moment && (decimal && (kind && (document && rest)))) own.1 in
    let two = and_parts moment (decimal && (kind && (document && rest))) one.1 in
    let three = and_parts decimal (kind && (document && rest)) two.1 in
    let four = and_parts kind (document && rest) three.1 in
    let five = and_parts document rest four.1 in
    and_from number (kind && document) one.0 (and_from kind document four.0 five.0)

heads_spoil : (entries : List MailRow) → list_all clean_head (map head_of entries) ≡ false → list_all clean_mail entries ≡ false
heads_spoil entries spoilt = elim (cases_Bool (list_all clean_mail entries)) [
  | inl e ↦
      let each = all_then clean_mail (λ entry. clean_head (head_of entry) ≡ true) shown_clean entries e in
      absurd (true≢false
      (sym (clean_all clean_head (map head_of entries) (all_to_map (λ head. clean_head head ≡ true) head_of entries each))
      ∙ spoilt))
  | inr e ↦ e
]

-- The query.

abbrev tests : List Term
tests = given_at 1 0 ∷ above_test ∷ untaken_test ∷ []

abbrev order : List (Term × Key)
order = rising 1 ∷ rising 2 ∷ []

abbrev pub wanted : ℕ → MailRow → Bool
wanted bound entry = is_above bound entry.number && not (is_taken entry)

-- a row whose cells have the types of its columns, with a number above a bound
abbrev Above : ℕ → Row → Type 0
Above bound row = AreOf mail_kinds 0 row × (is_above bound (mail_in row).number ≡ true)

ranked : (bound : ℕ) (params x y : Row) → Above bound x → Above bound y
    → sort_cmp order (params ∷ x ∷ []) (params ∷ y ∷ []) ≡ mail_cmp (mail_in x) (mail_in y)
ranked bound params x y a b =
    ap₂ ordering_then (rank_bytes (column x 1) (column y 1) a.0.0 b.0.0)
    (then_none _ ∙ rank_above bound (column x 2) (column y 2) a.0.1.0 b.0.1.0 a.1 b.1)

module _ (s : State) (hub : IsHub s) (supplier : List ℕ) (bound : ℕ) (low : bound < 2 ^ 63) (most : Value) (rows : List Row)
    (answer : IsAnswer (some_of 16 tests head_columns order (col 0 2)) (overlay s.now.trees [])
    (Blob supplier ∷ Int (pos bound) ∷ most ∷ []) rows) where
  abbrev params : Row
  params = Blob supplier ∷ Int (pos bound) ∷ most ∷ []

  abbrev test : MailRow → Bool
  test entry = same entry.supplier supplier && wanted bound entry

  cells : AllByRecursion (AreOf mail_kinds 0) (s.now.trees 16)
  cells = mail_cells s.now hub.schema hub.sound hub.ordered

  passed : (row : Row) → AreOf mail_kinds 0 row → passes tests params row ≡ test (mail_in row)
  passed row it =
      ap₂ (λ v w. v && w) (cell_bytes (column row 1) supplier it.0)
      (ap₂ (λ v w. v && w) (cell_above (column row 2) bound low it.1.0) (and_true _ ∙ cell_untaken (column row 8) it.1.1.1.1.1.1.1.0))

  found : FindsRows (s.now.trees 16) tests head_columns order (col 0 2) params rows
  found = finds s.now.trees 16 tests head_columns order (col 0 2) params rows refl answer

  told : map shown_head rows ≡ limited (as_count most) (map head_of (map mail_in found.sources))
  told = ap (map shown_head) found.is ∙ map_limited shown_head (as_count most) _
      ∙ ap (limited (as_count most))
      (shown_say (λ row. head_of (mail_in row)) shown_head head_columns params found.sources (λ row. refl)
      ∙ sym (map_twice head_of mail_in found.sources))

  above : AllByRecursion (Above bound) found.sources
  above =
      let typed = sources_have mail_total mail_in (s.now.trees 16) tests params found.sources found.same (AreOf mail_kinds 0) cells in
      let through = sources_pass mail_total mail_in (s.now.trees 16) tests params found.sources found.same
      (λ row. passes tests params row ≡ true) (all_passes (passes tests params) (s.now.trees 16)) in
      all_such (λ row. AreOf mail_kinds 0 row × (passes tests params row ≡ true)) (Above bound)
      (λ row h. (h.0, number_above row h.0 h.1)) found.sources
      (all_both (AreOf mail_kinds 0) (λ row. passes tests params row ≡ true) found.sources typed through)
    where
      number_above : (row : Row) → AreOf mail_kinds 0 row → passes tests params row ≡ true → is_above bound (mail_in row).number ≡ true
      number_above row it through =
          let both = and_parts (same (mail_in row).supplier supplier) (wanted bound (mail_in row)) (sym (passed row it) ∙ through) in
          (and_parts (is_above bound (mail_in row).number) (not (is_taken (mail_in row))) both.1).0

  pub untaken_are : map shown_head rows ≡ limited (as_count most) (map head_of (filter test (tables_in s.now.trees).mail))
  untaken_are =
      told ∙ ap (λ entries. limited (as_count most) (map head_of entries))
      (sources_are mail_total mail_in (s.now.trees 16) tests params found.sources found.same test
      (all_such _ _ passed (s.now.trees 16) cells)
      (sources_sorted mail_total mail_in (s.now.trees 16) tests params found.sources found.same order (Above bound)
      (ranked bound params) above found.sorted)
      (hub_rises s hub).mail)

  pub untaken_spoil : list_all clean_head (map shown_head rows) ≡ false → are_clean (tables_in s.now.trees) ≡ false
  untaken_spoil spoilt =
      mail_unclean (tables_in s.now.trees)
      (sources_spoil mail_total mail_in (s.now.trees 16) tests params found.sources found.same clean_mail
      (heads_spoil (map mail_in found.sources)
      (limited_spoil clean_head (as_count most) (map head_of (map mail_in found.sources)) (sym (ap (list_all clean_head) told) ∙ spoilt))))

pub untaken_look : (old new : State) (supplier : List ℕ) (bound : ℕ) → bound < 2 ^ 63
    → (most : Value) (result : Result (List MailHead) StoreFault)
    → Asks (λ rows items. items ≡ map shown_head rows) (λ rows. list_all clean_head (map shown_head rows) ≡ false) after_text
    (Blob supplier ∷ Int (pos bound) ∷ most ∷ []) old new result
    → LooksUp (λ t. limited (as_count most) (map head_of (filter (wanted bound) (view supplier t).mail))) old new result
untaken_look old new supplier bound low most =
    looks after_selects _ _ _ _ old new
    (λ hub rows answer items is. is ∙ untaken_are old hub supplier bound low most rows answer
    ∙ ap (λ entries. limited (as_count most) (map head_of entries)) (sym (filter_both (λ entry. same entry.supplier supplier)
    (wanted bound) (tables_in old.now.trees).mail)))
    (λ hub rows answer spoilt. untaken_spoil old hub supplier bound low most rows answer spoilt)

-- The look-ups.

pub first_look : (old new : State) (supplier : List ℕ) (bound : ℕ) (most : Value) (limit : ℕ)
    → (most ≡ Int (pos limit)) ⊎ ((2 ^ 63 ≤ limit) × (most ≡ Int (negsuc 0)))
    → (heads first : List MailHead) → first ≡ take limit heads
    → LooksUp (λ t. limited (as_count (bound_value most)) (map head_of (filter (wanted bound) (view supplier t).mail))) old new (Ok heads)
    → LooksUp (λ t. take limit (map head_of (filter (wanted bound) (view supplier t).mail))) old new (Ok first)
first_look old new supplier bound most limit which heads first is =
    looks_on _ _ old new heads first (λ t e. is ∙ ap (take limit) e
    ∙ first_of_limited (bound_value most) limit (as_bound which) (map head_of (filter (wanted bound) (view supplier t).mail)))
  where
    as_bound : (most ≡ Int (pos limit)) ⊎ ((2 ^ 63 ≤ limit) × (most ≡ Int (negsuc 0)))
        → (bound_value most ≡ Int (pos limit)) ⊎ (bound_value most ≡ Int (negsuc 0))
    as_bound (inl e) = inl (ap bound_value e)
    as_bound (inr it) = inr (ap bound_value it.1)

more_above : (bound n : ℕ) → last_number < bound → is_above bound n ≡ true → is_above last_number n ≡ true
more_above bound n more h =
    let parts = and_parts (nat_lt bound n) (not (is_low n)) h in
    and_from (nat_lt last_number n) (not (is_low n)) (less bound n more parts.0) parts.1
  where
    less : (bound n : ℕ) → last_number < bound → nat_lt bound n ≡ true → nat_lt last_number n ≡ true
    less bound n more e = grind (arith, nat_tests)

take_none : {X : Type 0} (n : ℕ) → ◌≡◌ {A = List X} (take n []) []
take_none zero = refl
take_none (suc n) = refl

pub none_above : (old new : State) (supplier : List ℕ) (number limit : ℕ) (above : Bool) (rows : List MailHead) → above ≡ false
    → last_number < number → rows ≡ []
    → LooksUp (λ t. list_any (above_of supplier last_number) t.mail) old new (Ok above)
    → LooksUp (λ t. take limit (map head_of (filter (wanted number) (view supplier t).mail))) old new (Ok rows)
none_above old new supplier number limit above rows none more empty =
    looks_on _ _ old new above rows (λ t is. empty ∙ sym (ap (λ entries. take limit (map head_of entries))
    (none_found (λ entry. same entry.supplier supplier) (wanted number) (above_of supplier last_number)
    (λ entry own want. and_from (same entry.supplier supplier) (is_above last_number entry.number) own
    (more_above number entry.number more (and_parts (is_above number entry.number) (not (is_taken entry)) want).0))
    t.mail (sym is ∙ none)) ∙ take_none limit))

-- if no number is zero or less, those above are the greater ones
above_greater : (supplier : List ℕ) (number : ℕ) (mail : List MailRow) → list_any (low_of supplier) mail ≡ false
    → filter (wanted number) (filter (λ entry. same entry.supplier supplier) mail) ≡ filter
    (λ entry. nat_lt number entry.number && not (is_taken entry)) (filter (λ entry. same entry.supplier supplier) mail)
above_greater supplier number mail none =
    let whose : MailRow → Bool = λ entry. same entry.supplier supplier in
    let greater : MailRow → Bool = λ entry. nat_lt number entry.number && not (is_taken entry) in
    filter_both whose (wanted number) mail
    ∙ filter_alike (λ entry. whose entry && wanted number entry) (λ entry. whose entry && greater entry) mail
    (all_such (λ entry. low_of supplier entry ≡ false) (λ entry.
    (whose entry && wanted number entry) ≡ (whose entry && greater entry)) each mail (all_not (low_of supplier) mail none))
    ∙ sym (filter_both whose greater mail)
  where
    each : (entry : MailRow) → low_of supplier entry ≡ false
        → (same entry.supplier supplier && wanted number entry)
        ≡ (same entry.supplier supplier && (nat_lt number entry.number && not (is_taken entry)))
    each entry low = elim (cases_Bool (same entry.supplier supplier)) [
      | inl e ↦
          let high : is_low entry.number ≡ false = sym (ap (λ b. b && is_low entry.number) e) ∙ low in
          ap (λ b. same entry.supplier supplier && ((nat_lt number entry.number && not b) && not (is_taken entry))) high
          ∙ ap (λ b. same entry.supplier supplier && (b && not (is_taken entry))) (and_true (nat_lt number entry.number))
      | inr e ↦ ap (λ b. b && wanted number entry) e ∙ sym (ap (λ b. b && (nat_lt number entry.number && not (is_taken entry))) e)
    ]

pub after_look : (old mid new : State) (supplier : List ℕ) (number limit : ℕ) (low : Bool) → low ≡ false
    → LooksUp (λ t. list_any (low_of supplier) t.mail) old mid (Ok low) → (result : Result (List MailHead) StoreFault)
    → LooksUp (λ t. take limit (map head_of (filter (wanted number) (view supplier t).mail))) mid new result
    → LooksUp (λ t. take limit (map head_of (untaken_after (view supplier t) number))) old new result
after_look old mid new supplier number limit low none =
    looks_then _ _ _ old mid new low (λ t is. ap (λ entries. take limit (map head_of entries))
    (above_greater supplier number t.mail (sym is ∙ none)))

pub low_entry : {Y : Type 0} (answer : Tables → Y) (old new : State) (supplier : List ℕ) (low : Bool) → low ≡ true
    → LooksUp (λ t. list_any (low_of supplier) t.mail) old new (Ok low) → LooksUp answer old new (Err Unclean)
low_entry answer old new supplier low is = looks_spoilt _ answer old new low (λ t has. low_spoils supplier t (sym is ∙ has))
