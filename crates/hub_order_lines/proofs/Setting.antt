-- Shows what setting lines while a message is checked does.
use Rattle.std.proofs.Common.{◌≡◌, ◌⊎◌, ℕ, ◌+◌, ◌≤◌, Bool, true, false, cond, ◌&&◌, ◌==◌, inl, inr, List, [], ◌∷◌, map, filter}
use Rattle.std.proofs.Common.{find, Option, Some, None, option_map, refl, sym, ap, ap₂, subst, ◌∙◌, arith, eq-eqb}
use Rattle.std.specs.List.{AllByRecursion}
use Rattle.std.specs.Borrow.{Bor}
use Rattle.std.specs.BTreeMap.{is_at, get}
use Rattle.std.specs.Map.{lookup}
use Rattle.std.specs.Option.{unwrap_or, IfSome}
use Rattle.std.specs.declared.cmp.Ordering.TheVariants.{Less, Equal}
use Rattle.std.specs.declared.cmp.Ordering.{Ordering}
use Rattle.std.specs.Ordering.{nat_cmp, ordering_then, is_eq}
use Rattle.std.specs.Cmp.{both_tied}
use Rattle.std.proofs.lemmas.Map.Text.{is_eq-slice_cmp}
use Rattle.std.proofs.lemmas.Bool.{and_parts}
use Rattle.std.proofs.lemmas.Bool.Decides.{nat_tests}
use Rattle.std.proofs.lemmas.Cmp.{tied_itself}
use Rattle.hub_parties.specs.KeyOrder.{bytes_cmp, Rises}
use Rattle.hub_tables.specs.Rows.{same, same_line}
use Rattle.hub_tables.specs.State.{the_only}
use Rattle.hub_tables.specs.declared.rows.LineRow.{LineRow}
use Rattle.hub_tables.proofs.KindOrders.{line_key}
use Rattle.hub_tables.proofs.Lists.{decide, same_is, same_if, all_weaker, all_found, all_filter, all_only}
use Rattle.hub_order_lines.specs.Book.{Orders, facts_cmp, facts_among, lines_in, has_order, order_in, each_line, set_row, with_row}
use Rattle.hub_order_lines.specs.Book.{answered_row}
use Rattle.hub_order_lines.specs.Changed.{SetLines, set_at, now_of, IsSetOf, KeepKeys}
use Rattle.hub_order_lines.specs.KnownOrders.{IsKnownOnce, AreKnownOnce}
use Rattle.hub_order_lines.specs.declared.facts.LineFacts.{LineFacts}
use Rattle.hub_order_lines.proofs.ByNumber.{key_total, is_eq-nat_cmp}
use Rattle.hub_order_lines.specs.Key.{key_of}

-- Each line is mapped by `make`.
module _ (make : LineFacts → LineFacts) where
  abbrev one_made : List ℕ × (Bool × List LineFacts) → List ℕ × (Bool × List LineFacts)
  one_made known = (known.0, (known.1.0, map make known.1.1))

  order_made : (orders : Orders) (order : List ℕ)
      → order_in (each_line make orders) order ≡ option_map (λ known. (known.0, map make known.1)) (order_in orders order)
  order_made [] order = refl
  order_made (known ∷ orders) order =
      elim (same order known.0) as (λ v. option_map (λ (one : List ℕ × (Bool × List LineFacts)). one.1)
      (cond v (Some (one_made known)) (find (λ one. same order one.0) (each_line make orders)))
      ≡ option_map (λ (known : Bool × List LineFacts). (known.0, map make known.1))
      (option_map (λ (one : List ℕ × (Bool × List LineFacts)). one.1) (cond v (Some known) (find (λ one. same order one.0) orders))))
      [ true ↦ refl | false ↦ order_made orders order ]

  pub lines_made : (orders : Orders) (order : List ℕ) → lines_in (each_line make orders) order ≡ map make (lines_in orders order)
  lines_made orders order =
      ap (λ o. unwrap_or (option_map (λ (known : Bool × List LineFacts). known.1) o) []) (order_made orders order)
      ∙ by (order_in orders order)
    where
      by : (o : Option (Bool × List LineFacts))
          → unwrap_or (option_map (λ (known : Bool × List LineFacts). known.1)
          (option_map (λ (known : Bool × List LineFacts). (known.0, map make known.1)) o)) []
          ≡ map make (unwrap_or (option_map (λ (known : Bool × List LineFacts). known.1) o) [])
      by None = refl
      by (Some known) = refl

  pub has_made : (orders : Orders) (order : List ℕ) → has_order (each_line make orders) order ≡ has_order orders order
  has_made orders order =
      ap (λ o. unwrap_or (option_map (λ (known : Bool × List LineFacts). known.0) o) false) (order_made orders order)
      ∙ by (order_in orders order)
    where
      by : (o : Option (Bool × List LineFacts))
          → unwrap_or (option_map (λ (known : Bool × List LineFacts). known.0)
          (option_map (λ (known : Bool × List LineFacts). (known.0, map make known.1)) o)) false
          ≡ unwrap_or (option_map (λ (known : Bool × List LineFacts). known.0) o) false
      by None = refl
      by (Some known) = refl

  -- if each line keeps its line number and its article, it is found as before
  abbrev pub KeepsLineKeys : LineFacts → Type 0
  KeepsLineKeys line = ((make line).row.line ≡ line.row.line) × ((make line).row.gtin ≡ line.row.gtin)

  found_made : (number : ℕ) (lines : List LineFacts) → AllByRecursion KeepsLineKeys lines
      → find (λ line. line.row.line == number) (map make lines) ≡ option_map make (find (λ line. line.row.line == number) lines)
  found_made number [] all = refl
  found_made number (line ∷ lines) all =
      ap (λ (n : ℕ). cond (n == number) (Some (make line)) (find (λ line. line.row.line == number) (map make lines))) all.0.0
      ∙ elim (line.row.line == number) as (λ v. cond v (Some (make line)) (find (λ line. line.row.line == number) (map make lines))
      ≡ option_map make (cond v (Some line) (find (λ line. line.row.line == number) lines)))
      [ true ↦ refl | false ↦ found_made number lines all.1 ]

  filter_made : (gtin : List ℕ) (lines : List LineFacts) → AllByRecursion KeepsLineKeys lines
      → filter (λ line. same line.row.gtin gtin) (map make lines) ≡ map make (filter (λ line. same line.row.gtin gtin) lines)
  filter_made gtin [] all = refl
  filter_made gtin (line ∷ lines) all =
      ap (λ (g : List ℕ). cond (same g gtin) (make line ∷ filter (λ line. same line.row.gtin gtin) (map make lines))
      (filter (λ line. same line.row.gtin gtin) (map make lines))) all.0.1
      ∙ elim (same line.row.gtin gtin) as (λ v. cond v (make line ∷ filter (λ line. same line.row.gtin gtin) (map make lines))
      (filter (λ line. same line.row.gtin gtin) (map make lines))
      ≡ map make (cond v (line ∷ filter (λ line. same line.row.gtin gtin) lines) (filter (λ line. same line.row.gtin gtin) lines)))
      [ true ↦ ap (λ rest. make line ∷ rest) (filter_made gtin lines all.1) | false ↦ filter_made gtin lines all.1 ]

  only_made : (lines : List LineFacts) → the_only (map make lines) ≡ option_map make (the_only lines)
  only_made [] = refl
  only_made (line ∷ []) = refl
  only_made (line ∷ other ∷ lines) = refl

  pub among_made : (lines : List LineFacts) (number : Option ℕ) (gtin : List ℕ) → AllByRecursion KeepsLineKeys lines
      → facts_among (map make lines) number gtin ≡ option_map make (facts_among lines number gtin)
  among_made lines (Some number) gtin all = found_made number lines all
  among_made lines None gtin all =
      ap the_only (filter_made gtin lines all) ∙ only_made (filter (λ line. same line.row.gtin gtin) lines)

pub all_made : (make : LineFacts → LineFacts) → ((line : LineFacts) → make line ≡ line) → (orders : Orders) → each_line make orders ≡ orders
all_made make itself [] = refl
all_made make itself (known ∷ orders) =
    ap₂ (λ lines rest. (known.0, (known.1.0, lines)) ∷ rest) (each known.1.1) (all_made make itself orders)
  where
    each : (lines : List LineFacts) → map make lines ≡ lines
    each [] = refl
    each (line ∷ lines) = ap₂ (λ one rest. one ∷ rest) (itself line) (each lines)

-- what holds for each line of all orders holds for each line of one
pub all_in : (P : LineFacts → Type 0) (orders : Orders) (order : List ℕ)
    → AllByRecursion (λ known. AllByRecursion P known.1.1) orders
    → AllByRecursion P (lines_in orders order)
all_in P [] order all = tt
all_in P (known ∷ orders) order all =
    elim (same order known.0) as (λ v. AllByRecursion P (unwrap_or (option_map (λ (known : Bool × List LineFacts). known.1)
    (option_map (λ (one : List ℕ × (Bool × List LineFacts)). one.1) (cond v (Some known) (find (λ one. same order one.0) orders)))) []))
    [ true ↦ all.0 | false ↦ all_in P orders order all.1 ]

pub own_in : (whole orders : Orders) (order : List ℕ)
    → AllByRecursion (IsKnownOnce whole) orders
    → AllByRecursion (λ line. line.row.number ≡ order) (lines_in orders order)
own_in whole [] order all = tt
own_in whole (known ∷ orders) order all =
    elim (same order known.0) as (λ v. same order known.0 ≡ v
    → AllByRecursion (λ line. line.row.number ≡ order) (unwrap_or (option_map (λ (known : Bool × List LineFacts). known.1)
    (option_map (λ (one : List ℕ × (Bool × List LineFacts)). one.1) (cond v (Some known) (find (λ one. same order one.0) orders)))) [])) [
      | true ↦ λ its. all_weaker (λ line. line.row.number ≡ known.0) (λ line. line.row.number ≡ order)
          (λ line own. own ∙ sym (same_is order known.0 its)) known.1.1 all.0.own
      | false ↦ λ its. own_in whole orders order all.1
    ] refl

-- what is looked up is one of the lines
pub looked_up_in : (P : LineFacts → Type 0) (lines : List LineFacts) (number : Option ℕ) (gtin : List ℕ) (line : LineFacts)
    → AllByRecursion P lines
    → facts_among lines number gtin ≡ Some line
    → P line
looked_up_in P lines (Some number) gtin line all e = (all_found P (λ line. line.row.line == number) lines line all e).0
looked_up_in P lines None gtin line all e =
    all_only P (filter (λ line. same line.row.gtin gtin) lines) line
    (all_filter P (λ line. same line.row.gtin gtin) lines all) e

-- no two rising lines have the same key
abbrev pub SameKey : LineFacts → LineFacts → Type 0
SameKey a b = (a.row.number ≡ b.row.number) × (a.row.line ≡ b.row.line)

not_alike : (a b : LineFacts) → facts_cmp a b ≡ Less → SameKey a b → ⊥
not_alike a b less alike =
    let tied : facts_cmp a b ≡ Equal =
    ap₂ (λ n l. ordering_then (bytes_cmp a.row.number n) (nat_cmp a.row.line l)) (sym alike.0) (sym alike.1)
    ∙ tied_itself key_total (key_of a) in
    cc

none_alike : (x : LineFacts) (xs : List LineFacts)
    → AllByRecursion (λ later. facts_cmp x later ≡ Less) xs
    → AllByRecursion (λ l. SameKey l x → l ≡ x) xs
none_alike x xs less =
    all_weaker (λ later. facts_cmp x later ≡ Less) (λ l. SameKey l x → l ≡ x)
    (λ l below alike. absurd (not_alike x l below (sym alike.0, sym alike.1))) xs less

apart : (xs : List LineFacts) → Rises facts_cmp xs → AllByRecursion (λ y. AllByRecursion (λ l. SameKey l y → l ≡ y) xs) xs
apart [] rise = tt
apart (x ∷ xs) rise = (
  ((λ alike. refl), none_alike x xs rise.0),
  both xs rise.0 (apart xs rise.1),
)
  where
    both : (ys : List LineFacts) → AllByRecursion (λ later. facts_cmp x later ≡ Less) ys
        → AllByRecursion (λ y. AllByRecursion (λ l. SameKey l y → l ≡ y) xs) ys
        → AllByRecursion (λ y. (SameKey x y → x ≡ y) × AllByRecursion (λ l. SameKey l y → l ≡ y) xs) ys
    both [] less all = tt
    both (y ∷ ys) less all = (((λ alike. absurd (not_alike x y less.0 alike)), all.0), both ys less.1 all.1)

-- A line that is found in the orders, and what it is set to.
module _ (orders : Orders) (order : List ℕ) (number : Option ℕ) (gtin : List ℕ) (base : LineFacts)
    (once : AreKnownOnce orders) (rise : Rises facts_cmp (lines_in orders order))
    (found : facts_among (lines_in orders order) number gtin ≡ Some base) where
  base_own : base.row.number ≡ order
  base_own = looked_up_in (λ line. line.row.number ≡ order) (lines_in orders order) number gtin base (own_in orders orders order once) found

  only_it : AllByRecursion (λ l. SameKey l base → l ≡ base) (lines_in orders order)
  only_it =
      looked_up_in (λ y. AllByRecursion (λ l. SameKey l y → l ≡ y) (lines_in orders order)) (lines_in orders order) number gtin base
      (apart (lines_in orders order) rise) found

  -- no other line of any order has its key
  only_of : (known : List ℕ × (Bool × List LineFacts)) → IsKnownOnce orders known
      → AllByRecursion (λ l. SameKey l base → l ≡ base) known.1.1
  only_of known its = by (decide (same known.0 order))
    where
      by : (same known.0 order ≡ true) ⊎ (same known.0 order ≡ false) → AllByRecursion (λ l. SameKey l base → l ≡ base) known.1.1
      by (inl here) =
          subst (AllByRecursion (λ l. SameKey l base → l ≡ base))
          (ap (lines_in orders) (sym (same_is known.0 order here)) ∙ its.once) only_it
      by (inr other) =
          all_weaker (λ line. line.row.number ≡ known.0) (λ l. SameKey l base → l ≡ base)
          (λ l own alike. absurd (elsewhere (sym own ∙ alike.0 ∙ base_own) other)) known.1.1 its.own
        where
          elsewhere : known.0 ≡ order → same known.0 order ≡ false → ⊥
          elsewhere e no_one = let yes = same_if known.0 order e in cc

  pub only_of_all : (some : Orders) → AllByRecursion (IsKnownOnce orders) some
      → AllByRecursion (λ known. AllByRecursion (λ l. SameKey l base → l ≡ base) known.1.1) some
  only_of_all [] all = tt
  only_of_all (known ∷ some) all = (only_of known all.0, only_of_all some all.1)

  -- the set lines, with one more
  module _ (changed new : SetLines) (keep : KeepKeys changed orders) (x : LineFacts)
      (becomes : (n : List ℕ) (l : ℕ)
      → set_at new n l ≡ cond (same base.row.number n && (base.row.line == l)) (Some x) (set_at changed n l))
      (it : IsSetOf base x) where
    here : (l : LineFacts) → (same base.row.number l.row.number && (base.row.line == l.row.line)) ≡ true → SameKey l base
    here l h =
        let parts = and_parts (same base.row.number l.row.number) (base.row.line == l.row.line) h in
        (sym (same_is base.row.number l.row.number parts.0), sym (line_is parts.1))
      where
        line_is : (base.row.line == l.row.line) ≡ true → base.row.line ≡ l.row.line
        line_is e = grind (arith, nat_tests, e)

    kept_one : (l : LineFacts) → (SameKey l base → l ≡ base)
        → IfSome (set_at changed l.row.number l.row.line) (IsSetOf l)
        → IfSome (set_at new l.row.number l.row.line) (IsSetOf l)
    kept_one l same_line before =
        elim (decide (same base.row.number l.row.number && (base.row.line == l.row.line))) [
          | inl e ↦
              subst (λ o. IfSome o (IsSetOf l))
              (sym (becomes l.row.number l.row.line ∙ ap (λ (v : Bool). cond v (Some x) (set_at changed l.row.number l.row.line)) e))
              (subst (λ l. IsSetOf l x) (sym (same_line (here l e))) it)
          | inr e ↦
              subst (λ o. IfSome o (IsSetOf l))
              (sym (becomes l.row.number l.row.line ∙ ap (λ (v : Bool). cond v (Some x) (set_at changed l.row.number l.row.line)) e))
              before
        ]

    kept_all : (some : Orders) → AllByRecursion (IsKnownOnce orders) some → KeepKeys changed some → KeepKeys new some
    kept_all [] all before = tt
    kept_all (known ∷ some) all before = (each known.1.1 (only_of known all.0) before.0, kept_all some all.1 before.1)
      where
        each : (lines : List LineFacts) → AllByRecursion (λ l. SameKey l base → l ≡ base) lines
            → AllByRecursion (λ line. IfSome (set_at changed line.row.number line.row.line) (IsSetOf line)) lines
            → AllByRecursion (λ line. IfSome (set_at new line.row.number line.row.line) (IsSetOf line)) lines
        each [] only before = tt
        each (l ∷ lines) only before = (kept_one l only.0 before.0, each lines only.1 before.1)

    pub keeps_after : KeepKeys new orders
    keeps_after = kept_all orders once keep

-- nothing is set
pub none_at : (changed : SetLines) → changed.entries ≡ [] → (number : List ℕ) (line : ℕ) → set_at changed number line ≡ None
none_at changed empty number line =
    ap (lookup (is_at (λ at. ordering_then (bytes_cmp number at.0.now) (nat_cmp line at.1)))) empty

pub none_now : (changed : SetLines) → changed.entries ≡ [] → (line : LineFacts) → now_of changed line ≡ line
none_now changed empty line = ap (λ o. unwrap_or o line) (none_at changed empty line.row.number line.row.line)

pub none_set : (changed : SetLines) → changed.entries ≡ [] → (orders : Orders) → KeepKeys changed orders
none_set changed empty [] = tt
none_set changed empty (known ∷ orders) = (each known.1.1, none_set changed empty orders)
  where
    each : (lines : List LineFacts)
        → AllByRecursion (λ line. IfSome (set_at changed line.row.number line.row.line) (IsSetOf line)) lines
    each [] = tt
    each (line ∷ lines) =
        (subst (λ o. IfSome o (IsSetOf line)) (sym (none_at changed empty line.row.number line.row.line)) tt, each lines)

-- what is looked up is the current form of the line
keeps_one : (changed : SetLines) (line : LineFacts)
    → IfSome (set_at changed line.row.number line.row.line) (IsSetOf line)
    → KeepsLineKeys (now_of changed) line
keeps_one changed line = by (set_at changed line.row.number line.row.line)
  where
    by : (o : Option LineFacts) → IfSome o (IsSetOf line)
        → ((unwrap_or o line).row.line ≡ line.row.line) × ((unwrap_or o line).row.gtin ≡ line.row.gtin)
    by None its = (refl, refl)
    by (Some set) its = (ap (λ row. row.line) (sym its.row), ap (λ row. row.gtin) (sym its.row))

pub now_found : (orders : Orders) (changed : SetLines) → KeepKeys changed orders
    → (order : List ℕ) (number : Option ℕ) (gtin : List ℕ)
    → facts_among (lines_in (each_line (now_of changed) orders) order) number gtin
    ≡ option_map (now_of changed) (facts_among (lines_in orders order) number gtin)
now_found orders changed keep order number gtin =
    ap (λ lines. facts_among lines number gtin) (lines_made (now_of changed) orders order)
    ∙ among_made (now_of changed) (lines_in orders order) number gtin
    (all_weaker (λ line. IfSome (set_at changed line.row.number line.row.line) (IsSetOf line)) (KeepsLineKeys (now_of changed))
    (λ line its. keeps_one changed line its) (lines_in orders order)
    (all_in (λ line. IfSome (set_at changed line.row.number line.row.line) (IsSetOf line)) orders order keep))

-- what a line that is looked up was set to
pub set_of_found : (orders : Orders) (changed : SetLines) → KeepKeys changed orders
    → (order : List ℕ) (number : Option ℕ) (gtin : List ℕ) (base : LineFacts)
    → facts_among (lines_in orders order) number gtin ≡ Some base
    → IfSome (set_at changed base.row.number base.row.line) (IsSetOf base)
set_of_found orders changed keep order number gtin base found =
    looked_up_in (λ line. IfSome (set_at changed line.row.number line.row.line) (IsSetOf line)) (lines_in orders order) number gtin base
    (all_in (λ line. IfSome (set_at changed line.row.number line.row.line) (IsSetOf line)) orders order keep) found

-- Setting a line replaces the row that has its key.
module _ (orders : Orders) (order : List ℕ) (number : Option ℕ) (gtin : List ℕ) (base : LineFacts)
    (once : AreKnownOnce orders) (rise : Rises facts_cmp (lines_in orders order))
    (found : facts_among (lines_in orders order) number gtin ≡ Some base)
    (changed new : SetLines) (keep : KeepKeys changed orders) (x : LineFacts)
    (becomes : (n : List ℕ) (l : ℕ) → set_at new n l ≡ cond (same base.row.number n && (base.row.line == l)) (Some x) (set_at changed n l))
    (open_qty refused cancelled answer : ℕ)
    (row_is : x.row ≡ answered_row base.row open_qty refused cancelled answer)
    (despatched_is : x.despatched ≡ base.despatched) where
  abbrev now : LineFacts
  now = now_of changed base

  abbrev row : LineRow
  row = answered_row now.row open_qty refused cancelled answer

  -- the current form of a line has the line's key and its despatched quantity
  now_alike : (l : LineFacts) → IfSome (set_at changed l.row.number l.row.line) (IsSetOf l)
      → ((now_of changed l).despatched ≡ l.despatched)
      × ((q r s t : ℕ) → answered_row (now_of changed l).row q r s t ≡ answered_row l.row q r s t)
  now_alike l = by (set_at changed l.row.number l.row.line)
    where
      by : (o : Option LineFacts) → IfSome o (IsSetOf l)
          → ((unwrap_or o l).despatched ≡ l.despatched)
          × ((q r s t : ℕ) → answered_row (unwrap_or o l).row q r s t ≡ answered_row l.row q r s t)
      by None its = (refl, (λ q r s t. refl))
      by (Some set) its = (its.despatched, (λ q r s t. ap (λ one. answered_row one q r s t) (sym its.row)))

  base_set : IfSome (set_at changed base.row.number base.row.line) (IsSetOf base)
  base_set = set_of_found orders changed keep order number gtin base found

  new_is : x ≡ record now { row = row }
  new_is =
      let alike = now_alike base base_set in
      ap₂ (λ (r : LineRow) (d : ℕ). record base { row = r; despatched = d })
      (row_is ∙ sym (alike.1 open_qty refused cancelled answer)) (despatched_is ∙ sym alike.0)

  -- for each line of the orders
  one_set : (l : LineFacts) → (SameKey l base → l ≡ base) → IfSome (set_at changed l.row.number l.row.line) (IsSetOf l)
      → now_of new l ≡ set_row row (now_of changed l)
  one_set l only its = by (decide (same base.row.number l.row.number && (base.row.line == l.row.line)))
    where
      alike_l : (now_of changed l).row.number ≡ l.row.number
      alike_l = ap (λ one. one.number) ((now_alike l its).1 0 0 0 0)

      line_l : (now_of changed l).row.line ≡ l.row.line
      line_l = ap (λ one. one.line) ((now_alike l its).1 0 0 0 0)

      number_row : row.number ≡ base.row.number
      number_row = ap (λ one. one.number) ((now_alike base base_set).1 0 0 0 0)

      line_row : row.line ≡ base.row.line
      line_row = ap (λ one. one.line) ((now_alike base base_set).1 0 0 0 0)

      same_key : (same base.row.number l.row.number && (base.row.line == l.row.line)) ≡ true → SameKey l base
      same_key h =
          let parts = and_parts (same base.row.number l.row.number) (base.row.line == l.row.line) h in
          (sym (same_is base.row.number l.row.number parts.0), sym (line_is parts.1))
        where
          line_is : (base.row.line == l.row.line) ≡ true → base.row.line ≡ l.row.line
          line_is e = grind (arith, nat_tests, e)

      -- the row has the key of the line
      own_key : same_line row now.row ≡ true
      own_key =
          let alike = (now_alike base base_set).1 open_qty refused cancelled answer in
          ap₂ (λ a b. a && (b && (now.row.line == now.row.line))) (same_if now.row.supplier now.row.supplier refl)
          (same_if now.row.number now.row.number refl)
          ∙ eq-eqb now.row.line now.row.line refl

      by : ((same base.row.number l.row.number && (base.row.line == l.row.line)) ≡ true)
          ⊎ ((same base.row.number l.row.number && (base.row.line == l.row.line)) ≡ false)
          → now_of new l ≡ set_row row (now_of changed l)
      by (inl e) =
          ap (λ o. unwrap_or o l) (becomes l.row.number l.row.line
          ∙ ap (λ (v : Bool). cond v (Some x) (set_at changed l.row.number l.row.line)) e)
          ∙ new_is
          ∙ sym (ap (λ (v : Bool). cond v (record now { row = row }) now) own_key)
          ∙ ap (λ l. set_row row (now_of changed l)) (sym (only (same_key e)))
      by (inr e) =
          ap (λ o. unwrap_or o l) (becomes l.row.number l.row.line
          ∙ ap (λ (v : Bool). cond v (Some x) (set_at changed l.row.number l.row.line)) e)
          ∙ sym (ap (λ (v : Bool). cond v (record (now_of changed l) { row = row }) (now_of changed l)) not_it)
        where
          not_it : same_line row (now_of changed l).row ≡ false
          not_it =
              elim (decide (same_line row (now_of changed l).row)) [
                | inl alike ↦
                    let key = line_key row (now_of changed l).row alike in
                    let n : base.row.number ≡ l.row.number = sym number_row ∙ sym key.1 ∙ alike_l in
                    let m : base.row.line ≡ l.row.line = sym line_row ∙ sym key.2 ∙ line_l in
                    let also : (same base.row.number l.row.number && (base.row.line == l.row.line)) ≡ true =
                    ap₂ (λ a b. a && b) (same_if base.row.number l.row.number n) (eq-eqb base.row.line l.row.line m) in
                    absurd (cc)
                | inr not_alike ↦ not_alike
              ]

  all_set : (some : Orders) → AllByRecursion (λ known. AllByRecursion (λ l. SameKey l base → l ≡ base) known.1.1) some
      → KeepKeys changed some
      → each_line (now_of new) some ≡ each_line (set_row row) (each_line (now_of changed) some)
  all_set [] only before = refl
  all_set (known ∷ some) only before =
      ap₂ (λ lines rest. (known.0, (known.1.0, lines)) ∷ rest) (each known.1.1 only.0 before.0) (all_set some only.1 before.1)
    where
      each : (lines : List LineFacts) → AllByRecursion (λ l. SameKey l base → l ≡ base) lines
          → AllByRecursion (λ line. IfSome (set_at changed line.row.number line.row.line) (IsSetOf line)) lines
          → map (now_of new) lines ≡ map (set_row row) (map (now_of changed) lines)
      each [] only before = refl
      each (l ∷ lines) only before = ap₂ (λ one rest. one ∷ rest) (one_set l only.0 before.0) (each lines only.1 before.1)

  pub set_is : each_line (now_of new) orders ≡ with_row row (each_line (now_of changed) orders)
  set_is = all_set orders (only_of_all orders order number gtin base once rise found orders once) keep

-- what was inserted into the set lines
abbrev pub place_cmp : Bor (List ℕ) × ℕ → Bor (List ℕ) × ℕ → Ordering
place_cmp a b = ordering_then (bytes_cmp a.0.now b.0.now) (nat_cmp a.1 b.1)

pub becomes_set : (changed new : SetLines) (key : Bor (List ℕ)) (base x : LineFacts)
    → key.now ≡ base.row.number
    → ((q : Bor (List ℕ) × ℕ) → get place_cmp new q
    ≡ cond (is_at (place_cmp (key, base.row.line)) q) (Some x) (get place_cmp changed q))
    → (n : List ℕ) (l : ℕ)
    → set_at new n l ≡ cond (same base.row.number n && (base.row.line == l)) (Some x) (set_at changed n l)
becomes_set changed new key base x key_is updates n l =
    updates (record key { now = n }, l)
    ∙ ap (λ (v : Bool). cond v (Some x) (set_at changed n l)) (
    ap (λ (k : List ℕ). is_eq (ordering_then (bytes_cmp k n) (nat_cmp base.row.line l))) key_is
    ∙ sym (both_tied (same base.row.number n) (base.row.line == l) (bytes_cmp base.row.number n) (nat_cmp base.row.line l)
    (sym (is_eq-slice_cmp base.row.number n)) (sym (is_eq-nat_cmp base.row.line l))))

-- it is the line with other quantities and another answer
pub is_set_of : (base x : LineFacts) (open_qty refused cancelled answer : ℕ)
    → x.row ≡ answered_row base.row open_qty refused cancelled answer
    → x.despatched ≡ base.despatched
    → open_qty + refused + cancelled ≤ base.row.ordered
    → IsSetOf base x
is_set_of base x open_qty refused cancelled answer row_is despatched_is covered = record {
  row = ap (λ (r : LineRow). answered_row base.row r.open_qty r.refused r.cancelled r.answer) row_is ∙ sym row_is;
  despatched = despatched_is;
  covered = subst (λ (r : LineRow). r.open_qty + r.refused + r.cancelled ≤ r.ordered) (sym row_is) covered;
}

pub now_ordered : (orders : Orders) (changed : SetLines) → KeepKeys changed orders
    → (order : List ℕ) (number : Option ℕ) (gtin : List ℕ) (base : LineFacts)
    → facts_among (lines_in orders order) number gtin ≡ Some base
    → (now_of changed base).row.ordered ≡ base.row.ordered
now_ordered orders changed keep order number gtin base found =
    by (set_at changed base.row.number base.row.line) (set_of_found orders changed keep order number gtin base found)
  where
    by : (o : Option LineFacts) → IfSome o (IsSetOf base) → (unwrap_or o base).row.ordered ≡ base.row.ordered
    by None its = refl
    by (Some set) its = ap (λ row. row.ordered) (sym its.row)

-- if the entries are the same, everything is kept
pub keeps_same : (changed new : SetLines) → new.entries ≡ changed.entries → (orders : Orders)
    → KeepKeys changed orders
    → KeepKeys new orders
keeps_same changed new alike [] keep = tt
keeps_same changed new alike (known ∷ orders) keep =
    (each known.1.1 keep.0, keeps_same changed new alike orders keep.1)
  where
    each : (lines : List LineFacts)
        → AllByRecursion (λ line. IfSome (set_at changed line.row.number line.row.line) (IsSetOf line)) lines
        → AllByRecursion (λ line. IfSome (set_at new line.row.number line.row.line) (IsSetOf line)) lines
    each [] keep = tt
    each (line ∷ lines) keep = (
      subst (λ o. IfSome o (IsSetOf line))
          (sym (ap (lookup (is_at (λ at. ordering_then (bytes_cmp line.row.number at.0.now) (nat_cmp line.row.line at.1)))) alike)) keep.0,
      each lines keep.1,
    )

-- a line that is looked up in a book is the current form of the line
pub looked_up_now : (orders book : Orders) (changed : SetLines) → KeepKeys changed orders → each_line (now_of changed) orders ≡ book
    → (order : List ℕ) (number : Option ℕ) (gtin : List ℕ) (base : LineFacts)
    → facts_among (lines_in orders order) number gtin ≡ Some base
    → (set : Option LineFacts) → set_at changed base.row.number base.row.line ≡ set
    → facts_among (lines_in book order) number gtin ≡ Some (unwrap_or set base)
looked_up_now orders book changed keep view_is order number gtin base found set is =
    ap (λ book. facts_among (lines_in book order) number gtin) (sym view_is)
    ∙ now_found orders changed keep order number gtin
    ∙ ap (option_map (now_of changed)) found
    ∙ ap (λ o. Some (unwrap_or o base)) is

-- a line that is looked up in the orders is in the book too
pub found_there : (orders book : Orders) (changed : SetLines) → KeepKeys changed orders
    → each_line (now_of changed) orders ≡ book
    → (order : List ℕ) (number : Option ℕ) (gtin : List ℕ) (base : LineFacts)
    → facts_among (lines_in orders order) number gtin ≡ Some base
    → facts_among (lines_in book order) number gtin ≡ None
    → ⊥
found_there orders book changed keep view_is order number gtin base found none =
    let there = looked_up_now orders book changed keep view_is order number gtin base found
    (set_at changed base.row.number base.row.line) refl in
    cc

-- if the entries are the same, each line is as it was
pub now_same : (changed new : SetLines) → new.entries ≡ changed.entries → (orders : Orders)
    → each_line (now_of new) orders ≡ each_line (now_of changed) orders
now_same changed new alike orders =
    let key : LineFacts → Bor (List ℕ) × ℕ → Ordering =
    λ line at. ordering_then (bytes_cmp line.row.number at.0.now) (nat_cmp line.row.line at.1) in
    ap (λ (entries : List ((Bor (List ℕ) × ℕ) × LineFacts)).
    each_line (λ line. unwrap_or (lookup (is_at (key line)) entries) line) orders) alike
