-- Shows that marks stay right: what a list from a mark shows, and what changes leave of it.
use Rattle.std.proofs.Common.{◌≡◌, ℕ, zero, suc, ◌-◌, ◌≤◌, ◌<◌, ◌==◌, nat_lt, nat_le, Bool, true, false, not, cond, ◌&&◌, inl, inr}
use Rattle.std.proofs.Common.{List, [], ◌∷◌, map, filter, take, refl, sym, ap, subst, ◌∙◌, arith, true≢false}
use Rattle.std.specs.List.{AllByRecursion}
use Rattle.std.specs.Ordering.{ordering_then, nat_cmp, is_gt}
use Rattle.std.specs.declared.cmp.Ordering.{Ordering}
use Rattle.std.specs.declared.cmp.Ordering.TheVariants.{Less, Equal}
use Rattle.std.proofs.lemmas.Bool.{and_parts, and_from, cases_Bool}
use Rattle.std.proofs.lemmas.Bool.Decides.{nat_tests}
use Rattle.std.proofs.lemmas.Cmp.{nat_list_cmp_total, tied_itself}
use Rattle.edi_envelope.specs.Mail.{last_number}
use Rattle.hub_parties.specs.KeyOrder.{bytes_cmp, put, Rises}
use Rattle.hub_tables.specs.Change.{apply, apply_all}
use Rattle.hub_tables.specs.Rows.{same, same_mail, mail_cmp}
use Rattle.hub_tables.specs.State.{is_taken, untaken_after}
use Rattle.hub_tables.specs.Tables.{Tables, view}
use Rattle.hub_tables.specs.declared.change.Change.{Change}
use Rattle.hub_tables.specs.declared.change.Change.TheVariants.{AddMail, SetMail}
use Rattle.hub_tables.specs.declared.rows.MailRow.{MailRow}
use Rattle.hub_tables.proofs.Lists.{all_always, all_passes, all_replace, all_weaker, filter_alike, same_is}
use Rattle.hub_store.specs.Heads.{head_of}
use Rattle.hub_store.specs.declared.mail.MailHead.{MailHead}
use Rattle.hub_rows.proofs.Listing.{filter_both}
use Rattle.hub_rows.proofs.Sorting.{rises_filter}
use Rattle.hub_sql.specs.Marks.{IsTakenUpTo, TakenUpTo, Marks, mark_of, TakenUpToMarks, list_start, shown_mark, Notes}
use Rattle.hub_sql.specs.Marks.{mark_with, mark_after, mark_after_all}

-- entries taken up to a number are taken up to a lower one
pub lower : (t : Tables) (supplier : List ℕ) (mark number : ℕ) → number ≤ mark → TakenUpTo t supplier mark → TakenUpTo t supplier number
lower t supplier mark number less =
    all_weaker (IsTakenUpTo supplier mark) (IsTakenUpTo supplier number)
    (λ entry it own low high. it own low (omega (arith, high, less))) t.mail

pub taken_to_none : (t : Tables) (supplier : List ℕ) → TakenUpTo t supplier 0
taken_to_none t supplier = all_always (IsTakenUpTo supplier 0) (λ entry own low high. absurd (omega (arith, low, high))) t.mail

-- Lists.

abbrev owns : List ℕ → MailRow → Bool
owns supplier entry = same entry.supplier supplier

abbrev waits : ℕ → MailRow → Bool
waits number entry = nat_lt number entry.number && not (is_taken entry)

-- a number outside 1 to the mark is above both or above neither
above : (n number mark : ℕ) → number ≤ mark → (1 ≤ n → n ≤ mark → ⊥) → nat_lt mark n ≡ nat_lt number n
above zero number mark less out = grind (arith, nat_tests)
above (suc n) number mark less out =
    let more : mark < suc n = grind (arith, out (omega arith)) in
    let here : nat_lt mark (suc n) ≡ true = grind (arith, nat_tests, more) in
    let there : nat_lt number (suc n) ≡ true = grind (arith, nat_tests, more, less) in
    here ∙ sym there

-- an entry waits above the mark if it waits above a lower number
alike : (supplier : List ℕ) (number mark : ℕ) → number ≤ mark → (entry : MailRow) → IsTakenUpTo supplier mark entry
    → (owns supplier entry && waits mark entry) ≡ (owns supplier entry && waits number entry)
alike supplier number mark less entry it = elim (cases_Bool (owns supplier entry)) [
  | inr e ↦ ap (λ v. v && waits mark entry) e ∙ sym (ap (λ v. v && waits number entry) e)
  | inl e ↦ elim (cases_Bool (is_taken entry)) [
    | inl taken ↦ ap (λ v. owns supplier entry && (nat_lt mark entry.number && not v)) taken
        ∙ ap (λ v. owns supplier entry && v) (none (nat_lt mark entry.number) ∙ sym (none (nat_lt number entry.number)))
        ∙ sym (ap (λ v. owns supplier entry && (nat_lt number entry.number && not v)) taken)
    | inr untaken ↦ ap (λ v. owns supplier entry && (v && not (is_taken entry)))
        (above entry.number number mark less (λ low high. true≢false (sym (it e low high) ∙ untaken)))
  ]
]
  where
    none : (b : Bool) → (b && not true) ≡ false
    none true = refl
    none false = refl

-- so a list from the mark shows what it would show from the lower number
pub from_mark : (t : Tables) (supplier : List ℕ) (number mark : ℕ) → number ≤ mark → TakenUpTo t supplier mark
    → untaken_after (view supplier t) mark ≡ untaken_after (view supplier t) number
from_mark t supplier number mark less taken =
    filter_both (owns supplier) (waits mark) t.mail
    ∙ filter_alike (λ entry. owns supplier entry && waits mark entry) (λ entry. owns supplier entry && waits number entry) t.mail
    (all_weaker (IsTakenUpTo supplier mark)
    (λ entry. (owns supplier entry && waits mark entry) ≡ (owns supplier entry && waits number entry))
    (alike supplier number mark less) t.mail taken)
    ∙ sym (filter_both (owns supplier) (waits number) t.mail)

-- What a list shows first.

-- if an entry that waits above the mark is above a number, all entries up to that number are taken
enough : (supplier : List ℕ) (mark number : ℕ) (entries : List MailRow) → AllByRecursion (IsTakenUpTo supplier mark) entries
    → AllByRecursion (λ entry. number < entry.number) (filter (λ entry. owns supplier entry && waits mark entry) entries)
    → AllByRecursion (IsTakenUpTo supplier number) entries
enough supplier mark number [] taken above = tt
enough supplier mark number (entry ∷ entries) taken above =
    let test = λ (entry : MailRow). owns supplier entry && waits mark entry in
    elim (test entry) as (λ v. test entry ≡ v
    → AllByRecursion (λ entry. number < entry.number) (cond v (entry ∷ filter test entries) (filter test entries))
    → AllByRecursion (IsTakenUpTo supplier number) (entry ∷ entries)) [
      | true ↦ λ e h. (
        λ own low high. absurd (omega (arith, h.0, high)),
        enough supplier mark number entries taken.1 h.1,
      )
      | false ↦ λ e h. (
        λ own low high. one own low e,
        enough supplier mark number entries taken.1 h,
      )
    ] refl above
  where
    one : owns supplier entry ≡ true → 1 ≤ entry.number → (owns supplier entry && waits mark entry) ≡ false → is_taken entry ≡ true
    one own low e = elim (cases_Bool (is_taken entry)) [
      | inl it ↦ it
      | inr untaken ↦ elim (cases_Bool (nat_lt mark entry.number)) [
        | inl more ↦ absurd (true≢false (sym (and_from (owns supplier entry) (waits mark entry) own
            (and_from (nat_lt mark entry.number) (not (is_taken entry)) more (ap not untaken))) ∙ e))
        | inr less ↦ taken.0 own low (grind (arith, nat_tests, less))
      ]
    ]

-- of two entries of one supplier in the order of their keys, the first has the lower number
rises_by_number : (supplier : List ℕ) (a b : MailRow) → owns supplier a ≡ true → owns supplier b ≡ true → mail_cmp a b ≡ Less
    → a.number < b.number
rises_by_number supplier a b first second less =
    let one : a.supplier ≡ b.supplier = same_is a.supplier supplier first ∙ sym (same_is b.supplier supplier second) in
    let tied : bytes_cmp a.supplier b.supplier ≡ Equal =
    subst (λ s. bytes_cmp a.supplier s ≡ Equal) one (tied_itself nat_list_cmp_total a.supplier) in
    let numbers : nat_cmp a.number b.number ≡ Less =
    sym (ap (λ o. ordering_then o (nat_cmp a.number b.number)) tied) ∙ less in
    below a.number b.number numbers
  where
    below : (m n : ℕ) → nat_cmp m n ≡ Less → m < n
    below m n h = grind (arith, nat_tests, h)

above_first : (supplier : List ℕ) (first : MailRow) (rest : List MailRow) → owns supplier first ≡ true → 1 ≤ first.number
    → AllByRecursion (λ entry. owns supplier entry ≡ true) rest → AllByRecursion (λ entry. mail_cmp first entry ≡ Less) rest
    → AllByRecursion (λ entry. first.number - 1 < entry.number) rest
above_first supplier first [] own low owned rises = tt
above_first supplier first (entry ∷ entries) own low owned rises = (
  let less = rises_by_number supplier first entry own owned.0 rises.0 in omega (arith, less),
  above_first supplier first entries own low owned.1 rises.1,
)

module _ (t : Tables) (supplier : List ℕ) (mark : ℕ) (rises : Rises mail_cmp t.mail) (taken : TakenUpTo t supplier mark) where
  abbrev test : MailRow → Bool
  test entry = owns supplier entry && waits mark entry

  -- if the entries that wait are these
  first_is : (first : MailRow) (rest : List MailRow) → filter test t.mail ≡ first ∷ rest → TakenUpTo t supplier (first.number - 1)
  first_is first rest is =
      let passes = subst (AllByRecursion (λ entry. test entry ≡ true)) is (all_passes test t.mail) in
      let up = subst (Rises mail_cmp) is (rises_filter mail_cmp test t.mail rises) in
      let parts = and_parts (owns supplier first) (waits mark first) passes.0 in
      let more = and_parts (nat_lt mark first.number) (not (is_taken first)) parts.1 in
      let low : 1 ≤ first.number = above_mark first.number more.0 in
      enough supplier mark (first.number - 1) t.mail taken
      (subst (AllByRecursion (λ entry. first.number - 1 < entry.number)) (sym is) (
        omega (arith, low),
        above_first supplier first rest parts.0 low
            (all_weaker (λ entry. test entry ≡ true) (λ entry. owns supplier entry ≡ true)
            (λ entry h. (and_parts (owns supplier entry) (waits mark entry) h).0) rest passes.1) up.0,
      ))
    where
      above_mark : (n : ℕ) → nat_lt mark n ≡ true → 1 ≤ n
      above_mark n h = grind (arith, nat_tests, h)

  none_wait : (number : ℕ) → filter test t.mail ≡ [] → TakenUpTo t supplier number
  none_wait number is =
      enough supplier mark number t.mail taken (subst (AllByRecursion (λ entry. number < entry.number)) (sym is) tt)

  by_entries : (limit : ℕ) (heads : List MailHead) (entries : List MailRow) → filter test t.mail ≡ entries
      → heads ≡ take limit (map head_of entries) → TakenUpTo t supplier (shown_mark heads limit mark)
  by_entries zero heads entries are is = subst (λ heads. TakenUpTo t supplier (shown_mark heads 0 mark)) (sym is) taken
  by_entries (suc limit) heads [] are is =
      let some : (suc limit == 0) ≡ false = grind (arith, nat_tests) in
      subst (λ heads. TakenUpTo t supplier (shown_mark heads (suc limit) mark)) (sym is)
      (subst (λ v. TakenUpTo t supplier (cond v mark last_number)) (sym some) (none_wait last_number are))
  by_entries (suc limit) heads (entry ∷ entries) are is =
      subst (λ heads. TakenUpTo t supplier (shown_mark heads (suc limit) mark)) (sym is) (first_is entry entries are)

  pub shown : (limit : ℕ) (heads : List MailHead) → heads ≡ take limit (map head_of (untaken_after (view supplier t) mark))
      → TakenUpTo t supplier (shown_mark heads limit mark)
  shown limit heads is =
      by_entries limit heads (untaken_after (view supplier t) mark)
      (sym (filter_both (owns supplier) (waits mark) t.mail)) is

-- What changes leave.

all_put : {X : Type 0} (P : X → Type 0) (cmp : X → X → Ordering) (row : X) (rows : List X) → AllByRecursion P rows → P row
    → AllByRecursion P (put cmp row rows)
all_put P cmp row [] all one = (one, tt)
all_put P cmp row (x ∷ xs) all one =
    elim (is_gt (cmp x row)) as (λ v. AllByRecursion P (cond v (row ∷ x ∷ xs) (x ∷ put cmp row xs)))
    [ true ↦ (one, all) | false ↦ (all.0, all_put P cmp row xs all.1 one) ]

module _ (supplier : List ℕ) (entry : MailRow) (mark : ℕ) where
  abbrev moves : Bool
  moves = same entry.supplier supplier && (not (is_taken entry) && nat_le entry.number mark)

  no_higher : mark_with supplier entry mark ≤ mark
  no_higher = elim (cases_Bool moves) [
    | inl e ↦
        let low = (and_parts (not (is_taken entry)) (nat_le entry.number mark)
        (and_parts (same entry.supplier supplier) (not (is_taken entry) && nat_le entry.number mark) e).1).1 in
        subst (λ v. cond v (entry.number - 1) mark ≤ mark) (sym e) (below entry.number low)
    | inr e ↦ subst (λ v. cond v (entry.number - 1) mark ≤ mark) (sym e) (omega arith)
  ]
    where
      below : (n : ℕ) → nat_le n mark ≡ true → n - 1 ≤ mark
      below n h = grind (arith, nat_tests, h)

  -- the entry itself
  with_it : IsTakenUpTo supplier (mark_with supplier entry mark) entry
  with_it own low high = elim (cases_Bool (is_taken entry)) [
    | inl it ↦ it
    | inr untaken ↦ absurd (elim (cases_Bool moves) [
      | inl e ↦ out entry.number low (subst (λ v. entry.number ≤ cond v (entry.number - 1) mark) e high)
      | inr e ↦ true≢false (sym (and_from (same entry.supplier supplier) (not (is_taken entry) && nat_le entry.number mark) own
          (and_from (not (is_taken entry)) (nat_le entry.number mark) (ap not untaken)
          (within entry.number (subst (λ v. entry.number ≤ cond v (entry.number - 1) mark) e high)))) ∙ e)
    ])
  ]
    where
      out : (n : ℕ) → 1 ≤ n → n ≤ n - 1 → ⊥
      out n low high = omega (arith, low, high)

      within : (n : ℕ) → n ≤ mark → nat_le n mark ≡ true
      within n h = grind (arith, nat_tests, h)

changed : (change : Change) (t : Tables) (supplier : List ℕ) (mark : ℕ) → TakenUpTo t supplier mark
    → TakenUpTo (apply change t) supplier (mark_after supplier change mark)
changed (AddMail entry) t supplier mark taken =
    all_put (IsTakenUpTo supplier (mark_with supplier entry mark)) mail_cmp entry t.mail
    (lower t supplier mark (mark_with supplier entry mark) (no_higher supplier entry mark) taken) (with_it supplier entry mark)
changed (SetMail entry) t supplier mark taken =
    all_replace (IsTakenUpTo supplier (mark_with supplier entry mark)) (same_mail entry) entry t.mail
    (lower t supplier mark (mark_with supplier entry mark) (no_higher supplier entry mark) taken) (with_it supplier entry mark)
changed change t supplier mark taken = taken

changed_all : (changes : List Change) (t : Tables) (supplier : List ℕ) (mark : ℕ) → TakenUpTo t supplier mark
    → TakenUpTo (apply_all changes t) supplier (mark_after_all supplier changes mark)
changed_all [] t supplier mark taken = taken
changed_all (change ∷ changes) t supplier mark taken =
    changed_all changes (apply change t) supplier (mark_after supplier change mark) (changed change t supplier mark taken)

-- Marks.

pub taken_to_no_marks : (t : Tables) (marks : Marks) → ((supplier : List ℕ) → mark_of marks supplier ≡ 0) → TakenUpToMarks t marks
taken_to_no_marks t marks none =
    record { each = λ supplier. subst (TakenUpTo t supplier) (sym (none supplier)) (taken_to_none t supplier) }

-- a list above a number shows the same from where it begins
pub from_start : (t : Tables) (marks : Marks) (supplier : List ℕ) (number : ℕ) → TakenUpToMarks t marks
    → untaken_after (view supplier t) (list_start marks supplier number) ≡ untaken_after (view supplier t) number
from_start t marks supplier number taken = elim (cases_Bool (nat_le number mark)) [
  | inl e ↦ ap (λ v. untaken_after (view supplier t) (cond v mark number)) e
      ∙ from_mark t supplier number mark (within number mark e) (taken.each supplier)
  | inr e ↦ ap (λ v. untaken_after (view supplier t) (cond v mark number)) e
]
  where
    mark : ℕ
    mark = mark_of marks supplier

    within : (m n : ℕ) → nat_le m n ≡ true → m ≤ n
    within m n h = grind (arith, nat_tests, h)

pub noted : (t : Tables) (old new : Marks) (supplier : List ℕ) (number limit : ℕ) (heads : List MailHead) → Rises mail_cmp t.mail
    → TakenUpToMarks t old
    → heads ≡ take limit (map head_of (untaken_after (view supplier t) (list_start old supplier number)))
    → Notes old supplier number heads limit new → TakenUpToMarks t new
noted t old new supplier number limit heads rises taken are notes = record { each = λ other. one other }
  where
    mark : ℕ
    mark = mark_of old supplier

    within : (m n : ℕ) → m ≤ n → nat_le m n ≡ true
    within m n h = grind (arith, nat_tests, h)

    one : (other : List ℕ) → TakenUpTo t other (mark_of new other)
    one other = elim (notes other) [
      | inl stays ↦ subst (TakenUpTo t other) (sym stays) (taken.each other)
      | inr it ↦ elim it [
        | inl gone ↦ subst (TakenUpTo t other) (sym gone) (taken_to_none t other)
        | inr here ↦
            let own : supplier ≡ other = same_is supplier other here.0 in
            let start : list_start old supplier number ≡ mark = ap (λ v. cond v mark number) (within number mark here.1) in
            subst (TakenUpTo t other) (sym here.2)
            (subst (λ who. TakenUpTo t who (shown_mark heads limit mark)) own
            (shown t supplier mark rises (taken.each supplier) limit heads
            (are ∙ ap (λ n. take limit (map head_of (untaken_after (view supplier t) n))) start)))
      ]
    ]

pub lowered : (changes : List Change) (t : Tables) (old new : Marks) → TakenUpToMarks t old
    → ((supplier : List ℕ) → mark_of new supplier ≡ mark_after_all supplier changes (mark_of old supplier))
    → TakenUpToMarks (apply_all changes t) new
lowered changes t old new taken lowers = record {
  each = λ supplier. subst (TakenUpTo (apply_all changes t) supplier) (sym (lowers supplier))
      (changed_all changes t supplier (mark_of old supplier) (taken.each supplier));
}
