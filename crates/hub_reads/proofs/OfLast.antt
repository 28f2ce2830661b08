-- Proves which number a query finds last in a mailbox.
use Rattle.std.proofs.Common.{◌≡◌, ℕ, ◌%◌, ◌==◌, ◌≤◌, ◌^◌, nat_lt, Bool, true, false, not, ◌&&◌, inl, inr, Result, Ok}
use Rattle.std.proofs.Common.{Option, Some, None, List, [], ◌∷◌, map, filter, take, refl, sym, ap, ap₂, subst, ◌∙◌}
use Rattle.std.proofs.Common.{arith}
use Rattle.std.specs.List.{AllByRecursion, list_all, list_any}
use Rattle.std.specs.Ordering.{is_eq, nat_cmp, ordering_then}
use Rattle.std.proofs.lemmas.Bool.{and_parts, and_from, or_parts, cases_Bool}
use Rattle.std.proofs.lemmas.Bool.Decides.{nat_tests}
use Rattle.sqlite_value.specs.declared.value.Value.TheVariants.{Blob}
use Rattle.sqlite_value.specs.declared.keys.Key.{Key}
use Rattle.sqlite_value.specs.Order.{Row, column}
use Rattle.sqlite_sql.specs.Term.{Term, col}
use Rattle.sqlite_sql.specs.Query.{IsAnswer, sort_cmp}
use Rattle.sqlite_sql.specs.Program.{overlay}
use Rattle.sqlite.specs.State.{State}
use Rattle.sql_rows.specs.Cells.{AreOf}
use Rattle.sql_rows.proofs.Answers.{and_true}
use Rattle.edi_envelope.specs.Mail.{last_number}
use Rattle.hub_store.specs.Clean.{are_clean, clean_mail}
use Rattle.hub_store.specs.declared.fault.StoreFault.{StoreFault}
use Rattle.hub_tables.specs.Rows.{same, mail_cmp}
use Rattle.hub_tables.specs.Tables.{view}
use Rattle.hub_tables.specs.declared.rows.MailRow.{MailRow}
use Rattle.hub_tables.proofs.KindOrders.{mail_total}
use Rattle.hub_tables.proofs.Lists.{all_passes, filter_alike}
use Rattle.hub_schema.specs.Rows.{mail_in, tables_in}
use Rattle.hub_schema.specs.State.{IsHub, LooksUp}
use Rattle.hub_schema.proofs.Single.{mail_kinds, mail_cells, hub_rises}
use Rattle.hub_rows.specs.Asks.{Asks}
use Rattle.hub_reads.specs.Mail.{is_low, is_above, low_of}
use Rattle.hub_reads.proofs.Comparing.{cell_above, rank_above}
use Rattle.hub_rows.proofs.Counting.{cell_bytes, all_such}
use Rattle.hub_rows.proofs.Finding.{some_of, passes, FindsRows, finds}
use Rattle.hub_rows.proofs.Joining.{looks_on, looks_then}
use Rattle.hub_rows.proofs.Listing.{shown_say, sources_have, sources_pass, sources_spoil, filter_both, all_both}
use Rattle.hub_rows.proofs.Looking.{looks}
use Rattle.hub_reads.proofs.OfMail.{all_not}
use Rattle.hub_rows.proofs.Ranking.{then_none}
use Rattle.hub_reads.proofs.Texts.{given_at}
use Rattle.hub_rows.proofs.Unclean.{mail_unclean}
use Rattle.std.specs.Option.{unwrap_or}
use Rattle.std.specs.List.{last_or}
use Rattle.std.specs.List.Sorted.{IsPermutation, IsSorted}
use Rattle.std.specs.declared.cmp.Ordering.{Ordering}
use Rattle.std.specs.declared.cmp.Ordering.TheVariants.{Less, Equal, Greater}
use Rattle.std.specs.Ordering.{is_lt}
use Rattle.std.proofs.Common.{option_map, slice_get}
use Rattle.std.proofs.lemmas.Cmp.{nat_cmp_total}
use Rattle.std.proofs.lemmas.List.Elements.{recursion_from_All}
use Rattle.std.proofs.lemmas.List.Sorted.{sorted_far, ranks_by, IsStrictWeakOrder-flip, IsPermutation-sym, length_permutation}
use Rattle.sql_rows.proofs.Answers.{every_shuffled, map_twice}
use Rattle.hub_store.specs.Clean.{is_within, is_kind, is_number, is_truth, are_bytes}
use Rattle.edi_moment.specs.Moment.{last_moment}
use Rattle.edi_segments.specs.Service.{is_decimal}
use Rattle.gs1_ids.specs.Gln.{is_gln}
use Rattle.std.specs.Prelude.{nat_le}
use Rattle.hub_parties.specs.KeyOrder.{bytes_cmp, Rises}
use Rattle.hub_tables.specs.State.{last_mail}
use Rattle.hub_rows.specs.Shown.{shown_number}
use Rattle.hub_rows.proofs.Listing.{sources_moved}
use Rattle.hub_reads.proofs.OfUntaken.{map_limited, limited_spoil}
use Rattle.hub_rows.proofs.Single.{bytes_tied, all_through, spoils_more, shown_first}
use Rattle.hub_rows.proofs.Sorting.{rises_filter, sorted_map, sorted_alike}
use Rattle.hub_reads.proofs.Texts.{one, falling, positive_test, last_text, last_selects}

-- The last of rising numbers is the greatest.

then_less : (o p : Ordering) → is_eq o ≡ true → ordering_then o p ≡ Less → p ≡ Less
then_less Less p h g = absurd cc
then_less Equal p h g = g
then_less Greater p h g = absurd cc

less_number : (supplier : List ℕ) (x y : MailRow) → same x.supplier supplier ≡ true → same y.supplier supplier ≡ true
    → mail_cmp x y ≡ Less → x.number ≤ y.number
less_number supplier x y a b h =
    number (x.number) (y.number) (then_less (bytes_cmp x.supplier y.supplier) (nat_cmp x.number y.number)
    (bytes_tied x.supplier y.supplier supplier a b) h)
  where
    number : (m n : ℕ) → nat_cmp m n ≡ Less → m ≤ n
    number m n e = grind (arith, nat_tests)

pub record Last (entries : List MailRow) : Type 0 where
  pub entry : MailRow
  pub is : last_or None entries ≡ Some entry
  pub greatest : AllByRecursion (λ e. e.number ≤ entry.number) entries
  pub among : (n : ℕ) → AllByRecursion (λ e. e.number ≤ n) entries → entry.number ≤ n

last_of : (supplier : List ℕ) (x : MailRow) (xs : List MailRow) → Rises mail_cmp (x ∷ xs)
    → AllByRecursion (λ e. same e.supplier supplier ≡ true) (x ∷ xs) → Last (x ∷ xs)
last_of supplier x [] rises own = record { entry = x; is = refl; greatest = (omega arith, tt); among = λ n all. all.0 }
last_of supplier x (y ∷ ys) rises own =
    let later = last_of supplier y ys rises.1 own.1 in
    let less = less_number supplier x y own.0 own.1.0 rises.0.0 in
    let more = later.greatest.0 in
    record {
      entry = later.entry;
      is = later.is;
      greatest = (omega (arith, less, more), later.greatest);
      among =
          λ n all. later.among n all.1;
    }

-- the first of falling numbers is the last of rising ones
first_is_last : (supplier : List ℕ) (rising falls : List MailRow) → IsPermutation rising falls → Rises mail_cmp rising
    → AllByRecursion (λ e. same e.supplier supplier ≡ true) rising
    → ((y : MailRow) (ys : List MailRow) → falls ≡ y ∷ ys → AllByRecursion (λ e. e.number ≤ y.number) falls)
    → option_map (λ (entry : MailRow). entry.number) (slice_get falls 0) ≡ option_map (λ (entry : MailRow). entry.number)
    (last_or None rising)
first_is_last supplier [] [] moved rises own most = refl
first_is_last supplier [] (y ∷ ys) moved rises own most = absurd (let none = length_permutation [] (y ∷ ys) moved in cc)
first_is_last supplier (x ∷ xs) [] moved rises own most = absurd (let none = length_permutation (x ∷ xs) [] moved in cc)
first_is_last supplier (x ∷ xs) (y ∷ ys) moved rises own most =
    let last = last_of supplier x xs rises own in
    let back = IsPermutation-sym (x ∷ xs) (y ∷ ys) moved in
    let lower = last.among y.number (every_shuffled (λ e. e.number ≤ y.number) (y ∷ ys) (x ∷ xs) back (most y ys refl)) in
    let upper = (every_shuffled (λ e. e.number ≤ last.entry.number) (x ∷ xs) (y ∷ ys) moved last.greatest).0 in
    let same_number : y.number ≡ last.entry.number = omega (arith, lower, upper) in
    ap Some same_number ∙ sym (ap (option_map (λ (entry : MailRow). entry.number)) last.is)

falls_below : (y : MailRow) (ys : List MailRow) → IsSorted (λ a b. nat_cmp b.number a.number) (y ∷ ys)
    → AllByRecursion (λ e. e.number ≤ y.number) (y ∷ ys)
falls_below y ys sorted =
    let lt : MailRow → MailRow → Bool = λ a b. is_lt (nat_cmp a.number b.number) in
    recursion_from_All (λ e. e.number ≤ y.number) (y ∷ ys) (λ k d h. upper _ _
    (sorted_far (λ a b. lt b a) (IsStrictWeakOrder-flip lt (ranks_by nat_cmp_total (λ (e : MailRow). e.number))) (y ∷ ys) sorted 0 k d
    (omega arith) h))
  where
    upper : (m n : ℕ) → is_lt (nat_cmp m n) ≡ false → n ≤ m
    upper m n e = grind (arith, nat_tests)

-- The query.

abbrev tests : List Term
tests = given_at 1 0 ∷ positive_test ∷ []

abbrev order : List (Term × Key)
order = falling 2 ∷ []

abbrev Positive : Row → Type 0
Positive row = AreOf mail_kinds 0 row × (is_above 0 (mail_in row).number ≡ true)

falls : (params x y : Row) → Positive x → Positive y → sort_cmp order (params ∷ x ∷ []) (params ∷ y ∷ []) ≡ nat_cmp (mail_in y).number
    (mail_in x).number
falls params x y a b = then_none _ ∙ rank_above 0 (column y 2) (column x 2) b.0.1.0 a.0.1.0 b.1 a.1

within_clean : (e : MailRow) → clean_mail e ≡ true → is_within 1 last_number e.number ≡ true
within_clean e h =
    let more = nat_le e.moment last_moment && (is_decimal e.decimal
    && (is_kind e.kind && (is_number e.document && (are_bytes e.body && is_truth e.taken)))) in
    (and_parts (is_within 1 last_number e.number) more (and_parts (is_gln e.supplier) (is_within 1 last_number e.number && more) h).1).0

module _ (s : State) (hub : IsHub s) (supplier : List ℕ) (rows : List Row)
    (answer : IsAnswer (some_of 16 tests (col 1 2 ∷ []) order one) (overlay s.now.trees []) (Blob supplier ∷ []) rows) where
  abbrev params : Row
  params = Blob supplier ∷ []

  abbrev test : MailRow → Bool
  test entry = same entry.supplier supplier && is_above 0 entry.number

  abbrev number : MailRow → ℕ
  number entry = entry.number

  cells : AllByRecursion (AreOf mail_kinds 0) (s.now.trees 16)
  cells = mail_cells s.now hub.schema hub.sound hub.ordered

  passed : (row : Row) → AreOf mail_kinds 0 row → passes tests params row ≡ test (mail_in row)
  passed row it = ap₂ (λ v w. v && w) (cell_bytes (column row 1) supplier it.0)
      (and_true _ ∙ cell_above (column row 2) 0 (omega arith) it.1.0)

  found : FindsRows (s.now.trees 16) tests (col 1 2 ∷ []) order one params rows
  found = finds s.now.trees 16 tests (col 1 2 ∷ []) order one params rows refl answer

  told : map shown_number rows ≡ take 1 (map number (map mail_in found.sources))
  told =
      ap (map shown_number) found.is ∙ map_limited shown_number (Some 1) _
      ∙ ap (take 1) (shown_say (λ row. (mail_in row).number) shown_number (col 1 2 ∷ []) params found.sources (λ row. refl)
      ∙ sym (map_twice number mail_in found.sources))

  positive : AllByRecursion Positive found.sources
  positive =
      let typed = sources_have mail_total mail_in (s.now.trees 16) tests params found.sources found.same (AreOf mail_kinds 0) cells in
      let through = sources_pass mail_total mail_in (s.now.trees 16) tests params found.sources found.same
      (λ row. passes tests params row ≡ true) (all_passes (passes tests params) (s.now.trees 16)) in
      all_such (λ row. AreOf mail_kinds 0 row × (passes tests params row ≡ true)) Positive
      (λ row h. (
        h.0,
        (and_parts (same (mail_in row).supplier supplier) (is_above 0 (mail_in row).number)
            (sym (passed row h.0) ∙ h.1)).1,
      )) found.sources
      (all_both (AreOf mail_kinds 0) (λ row. passes tests params row ≡ true) found.sources typed through)

  sorted : IsSorted (λ a b. nat_cmp b.number a.number) (map mail_in found.sources)
  sorted =
      sorted_map mail_in (λ a b. nat_cmp b.number a.number) found.sources
      (sorted_alike (λ x y. sort_cmp order (params ∷ x ∷ []) (params ∷ y ∷ []))
      (λ x y. nat_cmp (mail_in y).number (mail_in x).number) Positive (falls params) found.sources positive found.sorted)

  first_of_one : {X : Type 0} (xs : List X) → slice_get (take 1 xs) 0 ≡ slice_get xs 0
  first_of_one [] = refl
  first_of_one (x ∷ xs) = refl

  own_all : AllByRecursion (λ e. same e.supplier supplier ≡ true) (filter test (tables_in s.now.trees).mail)
  own_all = all_such (λ e. test e ≡ true) (λ e. same e.supplier supplier ≡ true)
      (λ e h. (and_parts (same e.supplier supplier) (is_above 0 e.number) h).0) _ (all_passes test (tables_in s.now.trees).mail)

  pub highest_is : slice_get (map shown_number rows) 0 ≡ option_map number (last_or None (filter test (tables_in s.now.trees).mail))
  highest_is =
      ap (λ xs. slice_get xs 0) told ∙ first_of_one (map number (map mail_in found.sources))
      ∙ shown_first number (map mail_in found.sources)
      ∙ first_is_last supplier (filter test (tables_in s.now.trees).mail) (map mail_in found.sources)
      (sources_moved mail_total mail_in (s.now.trees 16) tests params found.sources found.same test
      (all_such _ _ passed (s.now.trees 16) cells))
      (rises_filter mail_cmp test (tables_in s.now.trees).mail (hub_rises s hub).mail) own_all
      (λ y ys is. subst (AllByRecursion (λ e. e.number ≤ y.number)) (sym is)
      (falls_below y ys (subst (IsSorted (λ a b. nat_cmp b.number a.number)) is sorted)))

  pub highest_spoil : list_all (is_within 1 last_number) (map shown_number rows) ≡ false → are_clean (tables_in s.now.trees) ≡ false
  highest_spoil spoilt =
      let some = limited_spoil (is_within 1 last_number) (Some 1) (map number (map mail_in found.sources))
      (sym (ap (list_all (is_within 1 last_number)) told) ∙ spoilt) in
      mail_unclean (tables_in s.now.trees)
      (spoils_more (λ e. is_within 1 last_number e.number) clean_mail within_clean (tables_in s.now.trees).mail
      (sources_spoil mail_total mail_in (s.now.trees 16) tests params found.sources found.same (λ e. is_within 1 last_number e.number)
      (sym (all_through (is_within 1 last_number) number (map mail_in found.sources)) ∙ some)))

pub highest_look : (old new : State) (supplier : List ℕ) (result : Result (Option ℕ) StoreFault)
    → Asks (λ rows first. first ≡ slice_get (map shown_number rows) 0)
    (λ rows. list_all (is_within 1 last_number) (map shown_number rows) ≡ false) last_text (Blob supplier ∷ []) old new result
    → LooksUp (λ t. option_map (λ entry. entry.number) (last_or None
    (filter (λ entry. is_above 0 entry.number) (view supplier t).mail))) old new result
highest_look old new supplier =
    looks last_selects _ _ _ _ old new
    (λ hub rows answer first is. is ∙ highest_is old hub supplier rows answer
    ∙ ap (λ xs. option_map (λ (entry : MailRow). entry.number) (last_or None xs))
    (sym (filter_both (λ entry. same entry.supplier supplier) (λ entry. is_above 0 entry.number) (tables_in old.now.trees).mail)))
    (λ hub rows answer spoilt. highest_spoil old hub supplier rows answer spoilt)

-- if no number is zero or less, each is above zero
all_above : (supplier : List ℕ) (mail : List MailRow) → list_any (low_of supplier) mail ≡ false
    → filter (λ entry. is_above 0 entry.number) (filter (λ entry. same entry.supplier supplier) mail) ≡ filter
    (λ entry. same entry.supplier supplier) mail
all_above supplier mail none =
    filter_both (λ entry. same entry.supplier supplier) (λ entry. is_above 0 entry.number) mail
    ∙ filter_alike (λ entry. same entry.supplier supplier && is_above 0 entry.number) (λ entry. same entry.supplier supplier) mail
    (all_such (λ entry. low_of supplier entry ≡ false) (λ entry.
    (same entry.supplier supplier && is_above 0 entry.number) ≡ same entry.supplier supplier) each mail
    (all_not (low_of supplier) mail none))
  where
    above_zero : (n : ℕ) → is_low n ≡ false → is_above 0 n ≡ true
    above_zero n h = and_from (nat_lt 0 n) (not (is_low n)) (some n (or_parts (n == 0) (nat_lt (2 ^ 65) n && (n % 2 == 1)) h).0) (ap not h)
      where
        some : (n : ℕ) → (n == 0) ≡ false → nat_lt 0 n ≡ true
        some n e = grind (arith, nat_tests)

    each : (entry : MailRow) → low_of supplier entry ≡ false
        → (same entry.supplier supplier && is_above 0 entry.number) ≡ same entry.supplier supplier
    each entry low = elim (cases_Bool (same entry.supplier supplier)) [
      | inl e ↦
          let high : is_low entry.number ≡ false = sym (ap (λ b. b && is_low entry.number) e) ∙ low in
          ap (λ b. b && is_above 0 entry.number) e ∙ above_zero entry.number high ∙ sym e
      | inr e ↦ ap (λ b. b && is_above 0 entry.number) e ∙ sym e
    ]

pub zero_look : (old new : State) (supplier : List ℕ) (highest : Option ℕ) (last : ℕ) → last ≡ unwrap_or highest 0
    → LooksUp (λ t. option_map (λ entry. entry.number) (last_or None
    (filter (λ entry. is_above 0 entry.number) (view supplier t).mail))) old new (Ok highest)
    → LooksUp (λ t. unwrap_or (option_map (λ entry. entry.number)
    (last_or None (filter (λ entry. is_above 0 entry.number) (view supplier t).mail))) 0) old new (Ok last)
zero_look old new supplier highest last is = looks_on _ _ old new highest last (λ t e. is ∙ ap (λ o. unwrap_or o 0) e)

pub last_look : (old mid new : State) (supplier : List ℕ) (low : Bool) → low ≡ false
    → LooksUp (λ t. list_any (low_of supplier) t.mail) old mid (Ok low) → (result : Result ℕ StoreFault)
    → LooksUp (λ t. unwrap_or (option_map (λ entry. entry.number)
    (last_or None (filter (λ entry. is_above 0 entry.number) (view supplier t).mail))) 0) mid new result
    → LooksUp (λ t. last_mail (view supplier t)) old new result
last_look old mid new supplier low none =
    looks_then _ _ _ old mid new low (λ t h. ap (λ xs. unwrap_or (option_map (λ (entry : MailRow). entry.number) (last_or None xs)) 0)
    (all_above supplier t.mail (sym h ∙ none)))
