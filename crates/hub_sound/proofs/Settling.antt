-- What is despatched of lines, while it is summed.
use Rattle.std.proofs.Common.{◌≡◌, ◌⊎◌, ℕ, ◌+◌, ◌<◌, ◌≤◌, ◌==◌, nat_lt, Bool, true, false, not, ◌&&◌, ◌||◌, cond, inl, inr, List, []}
use Rattle.std.proofs.Common.{◌∷◌, filter, find, sum_by, length, get_or, drop, is_some, Option, Some, None, option_map, refl, sym}
use Rattle.std.proofs.Common.{◌∙◌, ap, ap₂, subst, arith, eq-eqb, nat_le}
use Rattle.std.specs.Borrow.{Bor}
use Rattle.std.specs.BTreeMap.{is_at, get}
use Rattle.std.specs.Map.{lookup}
use Rattle.std.specs.List.{AllByRecursion, list_all, list_any}
use Rattle.std.specs.Option.{unwrap_or}
use Rattle.std.specs.Ordering.{nat_cmp, ordering_then, is_eq}
use Rattle.std.specs.declared.cmp.Ordering.{Ordering}
use Rattle.std.specs.Cmp.{both_tied}
use Rattle.std.proofs.lemmas.Bool.{and_parts, and_from}
use Rattle.std.proofs.lemmas.Bool.Decides.{nat_tests}
use Rattle.std.proofs.lemmas.List.{drop_more, drop_all}
use Rattle.std.proofs.lemmas.List.Sums.{list_all-from_AllPass, sum_by-cons}
use Rattle.std.proofs.lemmas.Map.Text.{is_eq-slice_cmp}
use Rattle.edi_base.specs.Limits.{greatest}
use Rattle.hub_parties.specs.KeyOrder.{bytes_cmp}
use Rattle.hub_store.specs.Clean.{are_bytes, clean_line, is_number, is_line, is_quantity}
use Rattle.gs1_ids.specs.Digits.{is_key}
use Rattle.gs1_ids.specs.Gln.{is_gln}
use Rattle.hub_tables.specs.Rows.{same}
use Rattle.hub_tables.specs.Sets.{Has}
use Rattle.hub_tables.specs.State.{names, despatched}
use Rattle.hub_tables.specs.Tables.{Tables}
use Rattle.hub_tables.specs.declared.rows.LineRow.{LineRow}
use Rattle.hub_tables.specs.declared.rows.ContentRow.{ContentRow}
use Rattle.hub_tables.proofs.Lists.{decide, same_is, same_if, all_found, all_always}
use Rattle.hub_tables.proofs.Members.{all_of, all_if, any_if}
use Rattle.hub_sound.specs.Finding.{content_key, line_key}
use Rattle.hub_sound.specs.Goods.{Sent, sent_at, with_more, none_from, sent_from, is_sent_settled, goods_of, ShowsUnsettled}
use Rattle.hub_sound.specs.Goods.{TellsSettled}
use Rattle.hub_sound.specs.Showing.{has_line, is_balanced}
use Rattle.hub_sound.specs.declared.finding.Finding.{Finding}
use Rattle.hub_sound.specs.declared.finding.RowKind.TheVariants as kinds
use Rattle.hub_sound.proofs.Deciding.{all_true, all_both}

pub bytes_fit : (xs : List ℕ) → ((k d : ℕ) → k < length xs → get_or xs k d < 256) → are_bytes xs ≡ true
bytes_fit xs h = list_all-from_AllPass (λ byte. nat_lt byte 256) xs (λ k d within. less (get_or xs k d) (h k d within))
  where
    less : (n : ℕ) → n < 256 → nat_lt n 256 ≡ true
    less n low = grind (arith, nat_tests)

number_is : (a b : ℕ) → (a == b) ≡ true → a ≡ b
number_is a b h = grind (arith, nat_tests)

is_eq-nat_cmp : (a b : ℕ) → is_eq (nat_cmp a b) ≡ (a == b)
is_eq-nat_cmp a b = grind (arith, nat_tests)

-- The map, with a line put to it.

abbrev pub place_cmp : Bor (List ℕ) × ℕ → Bor (List ℕ) × ℕ → Ordering
place_cmp a b = ordering_then (bytes_cmp a.0.now b.0.now) (nat_cmp a.1 b.1)

pub becomes : (old new : Sent) (key : Bor (List ℕ)) (number : List ℕ) (line x : ℕ)
    → key.now ≡ number
    → ((q : Bor (List ℕ) × ℕ) → get place_cmp new q ≡ cond (is_at (place_cmp (key, line)) q) (Some x) (get place_cmp old q))
    → (n : List ℕ) (l : ℕ)
    → sent_at new n l ≡ cond (same number n && (line == l)) (Some x) (sent_at old n l)
becomes old new key number line x key_is updates n l =
    updates (record key { now = n }, l)
    ∙ ap (λ (v : Bool). cond v (Some x) (sent_at old n l)) (
    ap (λ (k : List ℕ). is_eq (ordering_then (bytes_cmp k n) (nat_cmp line l))) key_is
    ∙ sym (both_tied (same number n) (line == l) (bytes_cmp number n) (nat_cmp line l)
    (sym (is_eq-slice_cmp number n)) (sym (is_eq-nat_cmp line l))))

pub at_nothing : (sent : Sent) → sent.entries ≡ [] → (number : List ℕ) (n : ℕ) → sent_at sent number n ≡ None
at_nothing sent empty number n =
    ap (λ entries. lookup (is_at (λ (at : Bor (List ℕ) × ℕ). ordering_then (bytes_cmp number at.0.now) (nat_cmp n at.1))) entries) empty

-- a content of a line that is not known changes nothing
module _ (sent : Sent) (content : ContentRow) where
  here : (found : Option ℕ) → found ≡ sent_at sent content.number content.line → (number : List ℕ) (n : ℕ)
      → (same content.number number && (content.line == n)) ≡ true → sent_at sent number n ≡ found
  here found is number n e =
      let parts = and_parts (same content.number number) (content.line == n) e in
      ap₂ (sent_at sent) (sym (same_is content.number number parts.0)) (sym (number_is content.line n parts.1)) ∙ sym is

  pub unknown : None ≡ sent_at sent content.number content.line → (f : ℕ → ℕ) (number : List ℕ) (n : ℕ)
      → sent_at sent number n ≡ cond (same content.number number && (content.line == n)) (option_map f (sent_at sent number n))
      (sent_at sent number n)
  unknown is f number n =
      by (same content.number number && (content.line == n)) (sent_at sent number n) (here None is number n)
    where
      by : (b : Bool) (o : Option ℕ) → (b ≡ true → o ≡ None) → o ≡ cond b (option_map f o) o
      by false o h = refl
      by true None h = refl
      by true (Some x) h = let fails = h refl in cc

  -- one of a line that is known is put to it
  pub known : (before sum : ℕ) (f : ℕ → ℕ) → Some before ≡ sent_at sent content.number content.line → sum ≡ f before
      → (new : Sent)
      → ((number : List ℕ) (n : ℕ) → sent_at new number n
      ≡ cond (same content.number number && (content.line == n)) (Some sum) (sent_at sent number n))
      → (number : List ℕ) (n : ℕ)
      → sent_at new number n ≡ cond (same content.number number && (content.line == n)) (option_map f (sent_at sent number n))
      (sent_at sent number n)
  known before sum f is grown new updated number n =
      updated number n
      ∙ by (same content.number number && (content.line == n)) (sent_at sent number n) (here (Some before) is number n)
    where
      by : (b : Bool) (o : Option ℕ) → (b ≡ true → o ≡ Some before) → cond b (Some sum) o ≡ cond b (option_map f o) o
      by false o h = refl
      by true o h = ap Some grown ∙ sym (ap (option_map f) (h refl))

-- Loops.

module _ {X : Type 0} (xs : List X) (i : ℕ) (x : X) (inside : i < length xs) (at : x ≡ get_or xs i x) where
  pub rest_from : drop i xs ≡ x ∷ drop (i + 1) xs
  rest_from = drop_more xs i x inside ∙ ap (λ one. one ∷ drop (i + 1) xs) (sym at)

  pub find_next : (p : X → Bool) → p x ≡ false → find p xs ≡ find p (drop i xs) → find p xs ≡ find p (drop (i + 1) xs)
  find_next p fails so_far =
      so_far ∙ ap (find p) rest_from ∙ ap (λ v. cond v (Some x) (find p (drop (i + 1) xs))) fails

  pub find_here : (p : X → Bool) → p x ≡ true → find p xs ≡ find p (drop i xs) → Some x ≡ find p xs
  find_here p passes so_far =
      sym (so_far ∙ ap (find p) rest_from ∙ ap (λ v. cond v (Some x) (find p (drop (i + 1) xs))) passes)

pub find_none : {X : Type 0} (p : X → Bool) (xs : List X) (i : ℕ) → length xs ≤ i → find p xs ≡ find p (drop i xs) → None ≡ find p xs
find_none p xs i over so_far = sym (so_far ∙ ap (find p) (drop_all i xs over))

pub none_next : (lines : List LineRow) (i : ℕ) (line : LineRow) → i < length lines → line ≡ get_or lines i line
    → (number : List ℕ) (n : ℕ) (old new : Option ℕ)
    → new ≡ cond (same line.number number && (line.line == n)) (Some 0) old
    → none_from None number n lines ≡ none_from old number n (drop i lines)
    → none_from None number n lines ≡ none_from new number n (drop (i + 1) lines)
none_next lines i line inside at number n old new is so_far =
    so_far ∙ ap (none_from old number n) (rest_from lines i line inside at)
    ∙ sym (ap (λ v. none_from v number n (drop (i + 1) lines)) is)

pub none_end : (lines : List LineRow) (i : ℕ) → length lines ≤ i → (number : List ℕ) (n : ℕ) (found : Option ℕ)
    → none_from None number n lines ≡ none_from found number n (drop i lines)
    → found ≡ none_from None number n lines
none_end lines i over number n found so_far = sym (so_far ∙ ap (none_from found number n) (drop_all i lines over))

pub sent_next : (contents : List ContentRow) (i : ℕ) (content : ContentRow) → i < length contents → content ≡ get_or contents i content
    → (number : List ℕ) (n : ℕ) (whole old new : Option ℕ)
    → new ≡ cond (same content.number number && (content.line == n)) (option_map (λ sum. with_more sum content.quantity) old) old
    → sent_from whole number n contents ≡ sent_from old number n (drop i contents)
    → sent_from whole number n contents ≡ sent_from new number n (drop (i + 1) contents)
sent_next contents i content inside at number n whole old new is so_far =
    so_far ∙ ap (sent_from old number n) (rest_from contents i content inside at)
    ∙ sym (ap (λ v. sent_from v number n (drop (i + 1) contents)) is)

pub sent_end : (contents : List ContentRow) (i : ℕ) → length contents ≤ i → (number : List ℕ) (n : ℕ) (whole found : Option ℕ)
    → sent_from whole number n contents ≡ sent_from found number n (drop i contents)
    → found ≡ sent_from whole number n contents
sent_end contents i over number n whole found so_far = sym (so_far ∙ ap (sent_from found number n) (drop_all i contents over))

-- What is summed in the end.

-- nothing is despatched of a line that is there, and of no other
none_known : (number : List ℕ) (n : ℕ) (lines : List LineRow) (before : Option ℕ)
    → is_some (none_from before number n lines)
    ≡ (list_any (λ line. same line.number number && (line.line == n)) lines || is_some before)
none_known number n [] before = refl
none_known number n (line ∷ lines) before =
    none_known number n lines (cond (same line.number number && (line.line == n)) (Some 0) before)
    ∙ by (same line.number number && (line.line == n)) (list_any (λ line. same line.number number && (line.line == n)) lines)
  where
    by : (b rest : Bool) → (rest || is_some (cond b (Some 0) before)) ≡ ((b || rest) || is_some before)
    by true true = refl
    by true false = refl
    by false rest = refl

or_false : (b : Bool) → (b || false) ≡ b
or_false true = refl
or_false false = refl

pub known_line : (lines : List LineRow) (contents : List ContentRow) (content : ContentRow)
    → is_some (none_from None content.number content.line lines) ≡ has_line (goods_of lines contents) content
known_line lines contents content = none_known content.number content.line lines None ∙ or_false _

none_zero : (number : List ℕ) (n : ℕ) (lines : List LineRow) (before : Option ℕ) → unwrap_or before 0 ≡ 0
    → unwrap_or (none_from before number n lines) 0 ≡ 0
none_zero number n [] before h = h
none_zero number n (line ∷ lines) before h =
    none_zero number n lines (cond (same line.number number && (line.line == n)) (Some 0) before)
    (by (same line.number number && (line.line == n)))
  where
    by : (b : Bool) → unwrap_or (cond b (Some 0) before) 0 ≡ 0
    by true = refl
    by false = h

-- a sum is what the contents say, or both are more than any line orders
abbrev Sums : ℕ → ℕ → Type 0
Sums sum total = (sum ≡ total) ⊎ ((greatest < sum) × (greatest < total))

summed : (line : LineRow) (contents : List ContentRow) (v : ℕ)
    → (sum : ℕ) × (sent_from (Some v) line.number line.line contents ≡ Some sum)
    × Sums sum (v + sum_by (λ content. content.quantity) (filter (names line) contents))
summed line [] v = (v, refl, inl (omega arith))
summed line (content ∷ contents) v = elim (decide (names line content)) [
  | inl e ↦ elim (decide (nat_lt greatest v)) [
    | inl g ↦
        let it = summed line contents v in (
          it.0,
          ap (λ b. sent_from (cond b (Some (with_more v content.quantity)) (Some v)) line.number line.line contents) e
              ∙ ap (λ b. sent_from (Some (cond b v (v + content.quantity))) line.number line.line contents) g ∙ it.1,
          subst (Sums it.0) (sym (total e)) (more it.0 v content.quantity
              (sum_by (λ (c : ContentRow). c.quantity) (filter (names line) contents)) (past v g) it.2),
        )
    | inr g ↦
        let it = summed line contents (v + content.quantity) in (
          it.0,
          ap (λ b. sent_from (cond b (Some (with_more v content.quantity)) (Some v)) line.number line.line contents) e
              ∙ ap (λ b. sent_from (Some (cond b v (v + content.quantity))) line.number line.line contents) g ∙ it.1,
          subst (Sums it.0) (sym (total e)) (subst (Sums it.0) (grouped v content.quantity
              (sum_by (λ (c : ContentRow). c.quantity) (filter (names line) contents))) it.2),
        )
  ]
  | inr e ↦
      let it = summed line contents v in (
        it.0,
        ap (λ b. sent_from (cond b (Some (with_more v content.quantity)) (Some v)) line.number line.line contents) e ∙ it.1,
        subst (Sums it.0) (sym (ap (λ b. v + sum_by (λ (c : ContentRow). c.quantity)
            (cond b (content ∷ filter (names line) contents) (filter (names line) contents))) e)) it.2,
      )
]
  where
    total : names line content ≡ true
        → v + sum_by (λ (c : ContentRow). c.quantity) (filter (names line) (content ∷ contents))
        ≡ v + (content.quantity + sum_by (λ (c : ContentRow). c.quantity) (filter (names line) contents))
    total e = ap (λ b. v + sum_by (λ (c : ContentRow). c.quantity)
        (cond b (content ∷ filter (names line) contents) (filter (names line) contents))) e
        ∙ ap (λ n. v + n) (sum_by-cons (λ (c : ContentRow). c.quantity) content (filter (names line) contents))

    past : (n : ℕ) → nat_lt greatest n ≡ true → greatest < n
    past n h = grind (arith, nat_tests)

    more : (sum v q rest : ℕ) → greatest < v → Sums sum (v + rest) → Sums sum (v + (q + rest))
    more sum v q rest high (inl is) = inr (omega arith, omega arith)
    more sum v q rest high (inr both) = inr (both.0, omega arith)

    grouped : (v q rest : ℕ) → v + q + rest ≡ v + (q + rest)
    grouped v q rest = omega arith

sums_alike : (ordered rest sum total : ℕ) → ordered ≤ greatest → Sums sum total → (ordered == rest + sum) ≡ (ordered == rest + total)
sums_alike ordered rest sum total few (inl is) = ap (λ n. ordered == rest + n) is
sums_alike ordered rest sum total few (inr both) = no sum both.0 ∙ sym (no total both.1)
  where
    no : (n : ℕ) → greatest < n → (ordered == rest + n) ≡ false
    no n high = grind (arith, nat_tests, few, high)

-- the lines, of which nothing was despatched and then what the contents say
module _ (lines : List LineRow) (contents : List ContentRow) (sent : Sent)
    (is : (number : List ℕ) (n : ℕ) → sent_at sent number n ≡ sent_from (none_from None number n lines) number n contents) where
  settled_alike : (line : LineRow) → Has lines line → line.ordered ≤ greatest
      → is_sent_settled sent line ≡ is_balanced (goods_of lines contents) line
  settled_alike line there few =
      let start = none_from None line.number line.line lines in
      let it = summed line contents 0 in
      let zero : start ≡ Some 0 = by start (none_zero line.number line.line lines None refl)
      (none_known line.number line.line lines None ∙ or_false _ ∙ itself line.number line.line lines line there refl refl) in
      let found : sent_at sent line.number line.line ≡ Some it.0 =
      is line.number line.line ∙ ap (λ o. sent_from o line.number line.line contents) zero ∙ it.1 in
      ap (λ o. line.ordered == line.open_qty + line.refused + line.cancelled + unwrap_or o 0) found
      ∙ sums_alike line.ordered (line.open_qty + line.refused + line.cancelled) it.0
      (despatched (goods_of lines contents) line) few (subst (Sums it.0) (plain _) it.2)
    where
      by : (o : Option ℕ) → unwrap_or o 0 ≡ 0 → is_some o ≡ true → o ≡ Some 0
      by None h some = cc
      by (Some x) h some = ap Some h

      plain : (n : ℕ) → 0 + n ≡ n
      plain n = omega arith

      itself : (number : List ℕ) (n : ℕ) (ls : List LineRow) (l : LineRow) → Has ls l → l.number ≡ number → l.line ≡ n
          → list_any (λ line. same line.number number && (line.line == n)) ls ≡ true
      itself number n ls l there p q =
          any_if (λ line. same line.number number && (line.line == n)) ls l there
          (and_from (same l.number number) (l.line == n) (same_if l.number number p) (eq-eqb l.line n q))

-- Rows that a search finds.

not_true : (b : Bool) → not b ≡ true → b ≡ false
not_true true h = cc
not_true false h = refl

not_false : (b : Bool) → not b ≡ false → b ≡ true
not_false true h = refl
not_false false h = cc

none_fails : {X : Type 0} (p q : X → Bool) (xs : List X) → AllByRecursion (λ x. q x ≡ not (p x)) xs → None ≡ find q xs
    → list_all p xs ≡ true
none_fails p q [] all h = refl
none_fails p q (x ∷ xs) all h = elim (decide (q x)) [
  | inl e ↦ absurd (let found = h ∙ ap (λ v. cond v (Some x) (find q xs)) e in cc)
  | inr e ↦ and_from (p x) (list_all p xs) (not_false (p x) (sym all.0 ∙ e))
      (none_fails p q xs all.1 (h ∙ ap (λ v. cond v (Some x) (find q xs)) e))
]

found_fails : {X : Type 0} (p q : X → Bool) (xs : List X) (x : X) → AllByRecursion (λ x. q x ≡ not (p x)) xs
    → Some x ≡ find q xs
    → Has xs x × (p x ≡ false)
found_fails p q xs x all found =
    let it = all_found (λ x. Has xs x × (q x ≡ not (p x))) q xs x
    (all_both (Has xs) (λ x. q x ≡ not (p x)) (λ x. Has xs x × (q x ≡ not (p x))) (λ x a b. (a, b)) xs
    (all_if (Has xs) xs (λ x there. there)) all) (sym found) in
    (it.0.0, not_true (p x) (sym it.0.1 ∙ it.1))

few_ordered : (line : LineRow) → clean_line line ≡ true → line.ordered ≤ greatest
few_ordered line h =
    let supplier = and_parts (is_gln line.supplier) _ h in
    let number = and_parts (is_number line.number) _ supplier.1 in
    let place = and_parts (is_line line.line) _ number.1 in
    let gtin = and_parts (is_key 14 line.gtin) _ place.1 in
    let quantity = and_parts (is_quantity line.ordered) _ gtin.1 in
    low line.ordered (and_parts (nat_le 1 line.ordered) _ quantity.0).1
  where
    low : (n : ℕ) → nat_le n greatest ≡ true → n ≤ greatest
    low n e = grind (arith, nat_tests)

module _ (lines : List LineRow) (contents : List ContentRow) where
  abbrev state : Tables
  state = goods_of lines contents

  module _ (sent : Sent) (none : (number : List ℕ) (n : ℕ) → sent_at sent number n ≡ none_from None number n lines) where
    lines_known : AllByRecursion (λ content. not (is_some (sent_at sent content.number content.line)) ≡ not (has_line state content))
        contents
    lines_known = all_always (λ content. not (is_some (sent_at sent content.number content.line)) ≡ not (has_line state content))
        (λ content. ap (λ o. not (is_some o)) (none content.number content.line) ∙ ap not (known_line lines contents content)) contents

    pub tells_content : (content : ContentRow)
        → Some content ≡ find (λ content. not (is_some (sent_at sent content.number content.line))) contents
        → (found : Finding) → (found.kind ≡ kinds.Content) × (found.key ≡ content_key content) → TellsSettled state (Some found)
    tells_content content is found named =
        let it = found_fails (has_line state) (λ content. not (is_some (sent_at sent content.number content.line))) contents content
        lines_known is in
        subst (λ kind. ShowsUnsettled state kind found.key) (sym named.0) (content, it.0, it.1, sym named.1)

    pub no_content : None ≡ find (λ content. not (is_some (sent_at sent content.number content.line))) contents
        → list_all (has_line state) contents ≡ true
    no_content =
        none_fails (has_line state) (λ content. not (is_some (sent_at sent content.number content.line))) contents lines_known

  module _ (clean : list_all clean_line lines ≡ true) (sent : Sent)
      (is : (number : List ℕ) (n : ℕ) → sent_at sent number n ≡ sent_from (none_from None number n lines) number n contents) where
    lines_settled : AllByRecursion (λ line. not (is_sent_settled sent line) ≡ not (is_balanced state line)) lines
    lines_settled = all_if (λ line. not (is_sent_settled sent line) ≡ not (is_balanced state line)) lines (λ line there.
        ap not (settled_alike lines contents sent is line there
        (few_ordered line (all_of (λ line. clean_line line ≡ true) lines (all_true clean_line lines clean) line there))))

    pub tells_line : (line : LineRow) → Some line ≡ find (λ line. not (is_sent_settled sent line)) lines
        → (found : Finding) → (found.kind ≡ kinds.Line) × (found.key ≡ line_key line) → TellsSettled state (Some found)
    tells_line line found_is found named =
        let it = found_fails (is_balanced state) (λ line. not (is_sent_settled sent line)) lines line lines_settled found_is in
        subst (λ kind. ShowsUnsettled state kind found.key) (sym named.0) (line, it.0, it.1, sym named.1)

    pub tells_none : list_all (has_line state) contents ≡ true → None ≡ find (λ line. not (is_sent_settled sent line)) lines
        → TellsSettled state None
    tells_none known none = record {
      contents = known;
      lines = none_fails (is_balanced state) (λ line. not (is_sent_settled sent line)) lines lines_settled none;
    }
