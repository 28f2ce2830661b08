-- Proves what removing, changing and reinserting rows of a table does. Two tables with the same rows are equal.
use Rattle.std.proofs.Common.{◌≡◌, inl, inr, ℤ, Bool, true, false, not, if◌then◌else◌, List, [], ◌∷◌, map, drop, filter}
use Rattle.std.proofs.Common.{IsTrue, Ordering, Less, Equal, Greater, is_eq, refl, sym, ap, ap₂, subst, ◌∙◌, true≢false}
use Rattle.std.specs.List.{AllByRecursion}
use Rattle.std.specs.List.Sorted.{IsPermutation}
use Rattle.std.specs.Ordering.{ordering_reverse}
use Rattle.std.proofs.lemmas.Bool.{cases_Bool, not-true, false_from_ne_true}
use Rattle.std.proofs.lemmas.Cmp.{tied_itself, tied_back}
use Rattle.std.proofs.lemmas.List.Sorted.{IsPermutation-sym}
use Rattle.sqlite_value.specs.declared.value.Value.TheVariants.{Int}
use Rattle.sqlite_value.specs.Order.{Row, column, value_cmp}
use Rattle.sqlite_value.proofs.OrderLemmas.{value_cmp_total}
use Rattle.sqlite_trees.specs.Tree.{rowid, has_rowid, put_row, without_rowid, IsTable}
use Rattle.sqlite_trees.specs.View.{is_int, IsShaped}
use Rattle.sqlite_trees.specs.declared.store.Shape.TheVariants as shape
use Rattle.sqlite_trees.proofs.TreeLemmas.{IsTable-put_row}
use Rattle.sqlite_schema.specs.declared.schema.Table.{Table}
use Rattle.sqlite_rules.specs.Cast.{cast, cast_row}
use Rattle.sqlite.specs.Kind.TheVariants.{Integer}
use Rattle.sqlite_rules.specs.Calls.{ids_of}
use Rattle.sqlite_rules.specs.Lists.{Has}
use Rattle.sqlite_rules.specs.Edit.{id_in, without_all, put_all, are_fresh}
use Rattle.sqlite_rules.proofs.ListLemmas.{all_has, all_from, has_filtered, has_kept}
use Rattle.sqlite_rules.proofs.ProbeLemmas.{has_mapped, mapped_has}
use Rattle.sqlite_rules.proofs.TableLemmas.{int_is, put_all_has, put_all_keeps, put_all_adds}
use Rattle.sql_rows.proofs.Inserts.{cast_int}
use Rattle.sql_rows.proofs.Answers.{every_shuffled}

equal_is : (o : Ordering) → is_eq o ≡ true → o ≡ Equal
equal_is Less h = absurd (cc)
equal_is Equal h = refl
equal_is Greater h = absurd (cc)

abbrev pub Tied : Row → Row → Type 0
Tied a b = value_cmp (rowid a) (rowid b) ≡ Equal

never_both : (a b : Row) → value_cmp (rowid a) (rowid b) ≡ Less → value_cmp (rowid b) (rowid a) ≡ Less → ⊥
never_both a b p q = let e = value_cmp_total.antisymm (rowid a) (rowid b) ∙ ap ordering_reverse q in cc

tied_same : (rows : List Row) (a b : Row) → IsTable rows → Has rows a → Has rows b → Tied a b → a ≡ b
tied_same [] a b up h k tie = absurd h
tied_same (r ∷ rows) a b up (inl h) (inl k) tie = h ∙ sym k
tied_same (r ∷ rows) a b up (inl h) (inr k) tie =
    absurd (let lower = all_has _ rows b up.0 k in let same = rw h at tie in cc)
tied_same (r ∷ rows) a b up (inr h) (inl k) tie =
    absurd (let lower = all_has _ rows a up.0 h in let same = tied_back value_cmp_total (rowid a) (rowid r)
    (rw k at tie) in cc)
tied_same (r ∷ rows) a b up (inr h) (inr k) tie = tied_same rows a b up.1 h k tie

-- two tables with the same rows are equal
same_rows : (xs ys : List Row) → IsTable xs → IsTable ys → ((r : Row) → Has xs r → Has ys r) →
    ((r : Row) → Has ys r → Has xs r) → xs ≡ ys
same_rows [] [] p q a b = refl
same_rows [] (y ∷ ys) p q a b = absurd (b y (inl refl))
same_rows (x ∷ xs) [] p q a b = absurd (a x (inl refl))
same_rows (x ∷ xs) (y ∷ ys) p q a b =
    let first : x ≡ y = elim (a x (inl refl)) [
      | inl e ↦ e
      | inr later ↦ elim (b y (inl refl)) [
        | inl e ↦ sym e
        | inr also ↦ absurd
            (never_both x y (all_has _ xs y p.0 also) (all_has _ ys x q.0 later))
      ]
    ] in
    let past = λ (z : Row) (zs : List Row) (up : AllByRecursion (λ r. value_cmp (rowid z) (rowid r) ≡ Less) zs)
    (r : Row) (h : Has zs r) (e : r ≡ z).
    let lower = rw e at (all_has _ zs r up h) in never_both z z lower lower in
    ap₂ ◌∷◌ first (same_rows xs ys p.1 q.1
    (λ r h. elim (a r (inr h)) [ inl e ↦ absurd (past x xs p.0 r h (e ∙ sym first)) | inr k ↦ k ])
    (λ r h. elim (b r (inr h)) [ inl e ↦ absurd (past y ys q.0 r h (e ∙ first)) | inr k ↦ k ]))

put_all_table : (news rows : List Row) → IsTable rows → IsTable (put_all rows news)
put_all_table [] rows up = up
put_all_table (n ∷ news) rows up = put_all_table news (put_row n rows) (IsTable-put_row n rows up)

filter_table : (p : Row → Bool) (rows : List Row) → IsTable rows → IsTable (filter p rows)
filter_table p [] up = tt
filter_table p (r ∷ rows) up = elim (cases_Bool (p r)) [
  | inl e ↦ rw e (
    all_from _ (filter p rows) (λ y h. all_has _ rows y up.0 (has_filtered p rows y h).0),
    filter_table p rows up.1,
  )
  | inr e ↦ rw e (filter_table p rows up.1)
]

without_all_table : (ids : List ℤ) (rows : List Row) → IsTable rows → IsTable (without_all rows ids)
without_all_table [] rows up = up
without_all_table (id ∷ ids) rows up = without_all_table ids (without_rowid id rows) (filter_table _ rows up)

abbrev Lacks : List ℤ → Row → Type 0
Lacks ids x = (id : ℤ) → Has ids id → has_rowid id x ≡ false

left_from : (ids : List ℤ) (rows : List Row) (x : Row) → Has (without_all rows ids) x → Has rows x × Lacks ids x
left_from [] rows x h = (h, λ id none. absurd none)
left_from (id ∷ ids) rows x h =
    let r = left_from ids (without_rowid id rows) x h in
    let was = has_filtered (λ y. not (has_rowid id y)) rows x r.0 in
    (was.0, λ other k. elim k [ inl e ↦ rw e (not-true _ was.1) | inr more ↦ r.1 other more ])

left_has : (ids : List ℤ) (rows : List Row) (x : Row) → Has rows x → Lacks ids x → Has (without_all rows ids) x
left_has [] rows x h lacks = h
left_has (id ∷ ids) rows x h lacks =
    left_has ids (without_rowid id rows) x
    (has_kept (λ y. not (has_rowid id y)) rows x h (ap not (lacks id (inl refl)))) (λ other k. lacks other (inr k))

shuffled_has : {X : Type 0} (xs ys : List X) (x : X) → IsPermutation xs ys → Has xs x → Has ys x
shuffled_has xs ys x s h =
    all_has (Has ys) xs x
    (every_shuffled (Has ys) ys xs (IsPermutation-sym xs ys s) (all_from (Has ys) ys (λ y k. k))) h

map_table : (f : Row → Row) (rows : List Row) → AllByRecursion (λ r. rowid (f r) ≡ rowid r) rows → IsTable rows
    → IsTable (map f rows)
map_table f [] keeps up = tt
map_table f (r ∷ rows) keeps up = (
  all_from _ (map f rows) (λ y h.
      let from = has_mapped f rows y h in
      let later = all_has _ rows from.0 up.0 from.1 in
      let same = all_has (λ x. rowid (f x) ≡ rowid x) rows from.0 keeps.1 from.1 in
      ap₂ value_cmp keeps.0 (ap rowid from.2 ∙ same) ∙ later),
  map_table f rows keeps.1 up.1,
)

-- The rows that pass are replaced, each by a row with its own row number.
module _ (table : Table) (show : Row → Row) (p : Row → Bool) (rows answer : List Row) (up : IsShaped shape.Table rows)
    (same : IsPermutation (map show (filter p rows)) answer)
    (shows : (r : Row) → (rowid (show r) ≡ rowid r) × (column (drop 1 (show r)) 0 ≡ rowid r)) where
  abbrev put_in_place : Row → Row
  put_in_place r = cast_row table (drop 1 (show r))

  abbrev news : List Row
  news = map (λ s. cast_row table (drop 1 s)) answer

  abbrev left : List Row
  left = without_all rows (ids_of answer)

  abbrev changed : Row → Row
  changed r = if p r then put_in_place r else r

  int_at : (r : Row) → Has rows r → is_int (rowid r) ≡ true
  int_at r h = all_has _ rows r up.1 h

  put_id : (r : Row) → Has rows r → rowid (put_in_place r) ≡ rowid r
  put_id r h = ap (cast Integer) ((shows r).1 ∙ int_is (rowid r) (int_at r h)) ∙ cast_int (id_in (rowid r)) ∙ sym
      (int_is (rowid r) (int_at r h))

  shown_id : (r : Row) → Has rows r → Int (id_in (rowid (show r))) ≡ rowid r
  shown_id r h = ap (λ v. Int (id_in v)) (shows r).0 ∙ sym (int_is (rowid r) (int_at r h))

  -- each row of the answer shows a row that passes, and each row that passes is shown
  shown_from : (s : Row) → Has answer s → (r : Row) × Has rows r × (p r ≡ true) × (s ≡ show r)
  shown_from s h =
      let r = has_mapped show (filter p rows) s
      (shuffled_has answer (map show (filter p rows)) s
      (IsPermutation-sym (map show (filter p rows)) answer same) h) in
      let k = has_filtered p rows r.0 r.1 in
      (r.0, k.0, k.1, r.2)

  shown_to : (r : Row) → Has rows r → p r ≡ true → Has answer (show r)
  shown_to r h hit = shuffled_has (map show (filter p rows)) answer (show r) same
      (mapped_has show (filter p rows) r (has_kept p rows r h hit))

  changed_yes : (r : Row) → p r ≡ true → changed r ≡ put_in_place r
  changed_yes r hit = rw hit

  changed_no : (r : Row) → p r ≡ false → changed r ≡ r
  changed_no r miss = rw miss

  keeps : AllByRecursion (λ r. rowid (changed r) ≡ rowid r) rows
  keeps = all_from _ rows
      (λ r h. elim (p r) as
      (λ b. rowid (if b then put_in_place r else r) ≡ rowid r) [ true ↦ put_id r h | false ↦ refl ])

  into : (x : Row) → Has (put_all left news) x → Has (map changed rows) x
  into x h = elim (put_all_has news left x h) [
    | inl new ↦
        let s = has_mapped (λ row. cast_row table (drop 1 row)) answer x new in
        let r = shown_from s.0 s.1 in
        let is : x ≡ changed r.0 = s.2 ∙ ap (λ row. cast_row table (drop 1 row)) r.3 ∙ sym (changed_yes r.0 r.2) in
        subst (Has (map changed rows)) (sym is) (mapped_has changed rows r.0 r.1)
    | inr old ↦
        let was = left_from (ids_of answer) rows x old in
        elim (cases_Bool (p x)) [
          | inl hit ↦
              let lacks = was.1 (id_in (rowid (show x)))
              (mapped_has (λ r. id_in (rowid r)) answer (show x) (shown_to x was.0 hit)) in
              let found : has_rowid (id_in (rowid (show x))) x ≡ true =
              ap (λ v. is_eq (value_cmp (rowid x) v)) (shown_id x was.0) ∙ ap is_eq
              (tied_itself value_cmp_total (rowid x)) in
              absurd (true≢false (sym found ∙ lacks))
          | inr miss ↦ subst (Has (map changed rows)) (changed_no x miss) (mapped_has changed rows x was.0)
        ]
  ]

  stays : (r : Row) → Has rows r → p r ≡ false → Has left r
  stays r h miss = left_has (ids_of answer) rows r h (λ id k. false_from_ne_true _ (λ has.
      let s = has_mapped (λ row. id_in (rowid row)) answer id k in
      let q = shown_from s.0 s.1 in
      let at : Int id ≡ rowid q.0 = ap Int s.2 ∙ ap (λ row. Int (id_in (rowid row))) q.3 ∙ shown_id q.0 q.1 in
      let tie : Tied r q.0 = equal_is _ (subst (λ v. is_eq (value_cmp (rowid r) v) ≡ true) at has) in
      let one : r ≡ q.0 = tied_same rows r q.0 up.0 h q.1 tie in
      true≢false (sym q.2 ∙ ap p (sym one) ∙ miss)))

  out : are_fresh left news ≡ true → (x : Row) → Has (map changed rows) x → Has (put_all left news) x
  out fresh x h =
      let r = has_mapped changed rows x h in
      elim (cases_Bool (p r.0)) [
        | inl hit ↦ subst (Has (put_all left news)) (sym (r.2 ∙ changed_yes r.0 hit))
            (put_all_adds news left (put_in_place r.0) fresh
            (mapped_has (λ row. cast_row table (drop 1 row)) answer (show r.0) (shown_to r.0 r.1 hit)))
        | inr miss ↦ subst (Has (put_all left news)) (sym (r.2 ∙ changed_no r.0 miss))
            (put_all_keeps news left r.0 fresh (stays r.0 r.1 miss))
      ]

  pub replaced : are_fresh left news ≡ true → put_all left news ≡ map changed rows
  replaced fresh = same_rows _ _ (put_all_table news left (without_all_table (ids_of answer) rows up.0))
      (map_table changed rows keeps up.0) into (out fresh)

  pub still_shaped : IsShaped shape.Table (map changed rows)
  still_shaped = (
    map_table changed rows keeps up.0,
    all_from _ (map changed rows)
        (λ y h. let r = has_mapped changed rows y h in subst (λ v. IsTrue (is_int v))
        (sym (ap rowid r.2 ∙ all_has (λ q. rowid (changed q) ≡ rowid q) rows r.0 keeps r.1)) (int_at r.0 r.1)),
  )

-- The rows that pass are removed, each by its row number.
module _ (show : Row → Row) (p : Row → Bool) (rows answer : List Row) (up : IsShaped shape.Table rows)
    (same : IsPermutation (map show (filter p rows)) answer) (shows : (r : Row) → rowid (show r) ≡ rowid r) where
  abbrev kept : List Row
  kept = filter (λ r. not (p r)) rows

  number_of : (r : Row) → Has rows r → Int (id_in (rowid (show r))) ≡ rowid r
  number_of r h = ap (λ v. Int (id_in v)) (shows r) ∙ sym (int_is (rowid r) (all_has _ rows r up.1 h))

  -- the row number of a row that passes is in the answer
  goes : (x : Row) → Has rows x → p x ≡ true → Lacks (ids_of answer) x → ⊥
  goes x h hit lacks =
      let there = shuffled_has (map show (filter p rows)) answer (show x) same
      (mapped_has show (filter p rows) x (has_kept p rows x h hit)) in
      let found : has_rowid (id_in (rowid (show x))) x ≡ true =
      ap (λ v. is_eq (value_cmp (rowid x) v)) (number_of x h) ∙ ap is_eq (tied_itself value_cmp_total (rowid x)) in
      true≢false (sym found ∙ lacks (id_in (rowid (show x))) (mapped_has (λ r. id_in (rowid r)) answer (show x) there))

  -- that of a row that fails is not
  lacks_it : (x : Row) → Has rows x → p x ≡ false → Lacks (ids_of answer) x
  lacks_it x h miss id k = false_from_ne_true _ (λ has.
      let s = has_mapped (λ row. id_in (rowid row)) answer id k in
      let r = has_mapped show (filter p rows) s.0
      (shuffled_has answer (map show (filter p rows)) s.0
      (IsPermutation-sym (map show (filter p rows)) answer same) s.1) in
      let q = has_filtered p rows r.0 r.1 in
      let at : Int id ≡ rowid r.0 = ap Int s.2 ∙ ap (λ row. Int (id_in (rowid row))) r.2 ∙ number_of r.0 q.0 in
      let tie : Tied x r.0 = equal_is _ (subst (λ v. is_eq (value_cmp (rowid x) v) ≡ true) at has) in
      true≢false (sym q.1 ∙ ap p (sym (tied_same rows x r.0 up.0 h q.0 tie)) ∙ miss))

  remains : (x : Row) → Has (without_all rows (ids_of answer)) x → Has kept x
  remains x h =
      let was = left_from (ids_of answer) rows x h in
      elim (cases_Bool (p x)) [
        | inl hit ↦ absurd (goes x was.0 hit was.1)
        | inr miss ↦ has_kept (λ r. not (p r)) rows x was.0 (ap not miss)
      ]

  remained : (x : Row) → Has kept x → Has (without_all rows (ids_of answer)) x
  remained x h =
      let was = has_filtered (λ r. not (p r)) rows x h in
      left_has (ids_of answer) rows x was.0 (lacks_it x was.0 (not-true (p x) was.1))

  pub taken_out : without_all rows (ids_of answer) ≡ kept
  taken_out = same_rows _ _ (without_all_table (ids_of answer) rows up.0) (filter_table (λ r. not (p r)) rows up.0)
      remains remained

  pub kept_shaped : IsShaped shape.Table kept
  kept_shaped = (
    filter_table (λ r. not (p r)) rows up.0,
    all_from _ kept (λ y h. all_has _ rows y up.1 (has_filtered (λ r. not (p r)) rows y h).0),
  )
