-- Shows what setting a line at its position does.
use Rattle.std.proofs.Common.{◌≡◌, ℕ, zero, suc, ◌+◌, ◌<◌, Bool, true, false, cond, ◌&&◌, ◌==◌, inl, inr, List, [], ◌∷◌, length}
use Rattle.std.proofs.Common.{find, get_or, slice_get, slice_set, Option, Some, None, refl, sym, ap, ap₂, subst, ◌∙◌, arith}
use Rattle.std.specs.BTreeMap.{BTreeMap}
use Rattle.std.specs.List.{AllByRecursion}
use Rattle.std.specs.Option.{IfSome}
use Rattle.std.specs.declared.cmp.Ordering.TheVariants.{Less, Equal}
use Rattle.std.specs.Ordering.{nat_cmp, ordering_then}
use Rattle.std.proofs.lemmas.Bool.Decides.{nat_tests}
use Rattle.std.proofs.lemmas.Cmp.{tied_itself}
use Rattle.std.proofs.lemmas.List.{map-set, set-get_or, get_or-map}
use Rattle.std.proofs.lemmas.List.Elements.{All-from_recursion, All-get_or, recursion_from_All, filter_passes}
use Rattle.std.proofs.lemmas.Option.{same_Some, slice_get_within, slice_get-get_or, get_or_from_slice_get}
use Rattle.hub_parties.specs.KeyOrder.{bytes_cmp, replace, Rises}
use Rattle.hub_tables.specs.Rows.{same, same_line}
use Rattle.hub_tables.specs.declared.rows.LineRow.{LineRow}
use Rattle.hub_tables.proofs.KindOrders.{line_key}
use Rattle.hub_tables.proofs.Lists.{decide, same_is, same_if, all_weaker, all_found}
use Rattle.hub_order_lines.specs.Book.{facts_cmp, facts_of, rows}
use Rattle.hub_order_lines.specs.ArticleIndex.{OrderArticle, Indexed, IsArticleIndex}
use Rattle.hub_order_lines.specs.Key.{key_of, keys_of}
use Rattle.hub_order_lines.specs.KnownLines.{AddsUp, AreKnown}
use Rattle.hub_order_lines.specs.declared.by_article.ArticleLines.{ArticleLines}
use Rattle.hub_order_lines.specs.declared.facts.LineFacts.{LineFacts}
use Rattle.hub_order_lines.proofs.ByNumber.{key_cmp, key_total}

-- Neither of two lines with the key of a row comes before the other.
clash : (row : LineRow) (x y : LineFacts) → same_line row x.row ≡ true → same_line row y.row ≡ true → facts_cmp x y ≡ Equal
clash row x y at_x at_y =
    let a = line_key row x.row at_x in
    let b = line_key row y.row at_y in
    ap₂ ordering_then (ap₂ bytes_cmp (a.1 ∙ sym b.1) refl) (ap₂ nat_cmp (a.2 ∙ sym b.2) refl) ∙ tied_itself key_total (key_of y)

not_both : (row : LineRow) (x y : LineFacts) → facts_cmp x y ≡ Less → same_line row x.row ≡ true → same_line row y.row ≡ false
not_both row x y less at_x =
    elim (decide (same_line row y.row)) [ inl at_y ↦ let tied = clash row x y at_x at_y in absurd (cc) | inr e ↦ e ]

not_before : (row : LineRow) (x y : LineFacts) → facts_cmp x y ≡ Less → same_line row y.row ≡ true → same_line row x.row ≡ false
not_before row x y less at_y =
    elim (decide (same_line row x.row)) [ inl at_x ↦ let tied = clash row x y at_x at_y in absurd (cc) | inr e ↦ e ]

unset : (row : LineRow) (lines : List LineFacts)
    → AllByRecursion (λ line. same_line row line.row ≡ false) lines
    → rows lines ≡ replace (same_line row) row (rows lines)
unset row [] all = refl
unset row (line ∷ lines) all =
    ap₂ (λ (v : Bool) rest. cond v row line.row ∷ rest) (sym all.0) (unset row lines all.1)

at_place : (P : LineFacts → Type 0) (lines : List LineFacts) (place : ℕ) (line : LineFacts)
    → AllByRecursion P lines
    → slice_get lines place ≡ Some line
    → P line
at_place P lines place line all at =
    subst P (get_or_from_slice_get lines place line line at)
    (All-get_or P lines place line (slice_get_within lines place line at) (All-from_recursion P lines all))

-- the rows after a line is set: the new row replaces the one that has its key
pub set_is : (lines : List LineFacts) (place : ℕ) (line new : LineFacts) (row : LineRow)
    → Rises facts_cmp lines
    → slice_get lines place ≡ Some line
    → same_line row line.row ≡ true
    → new.row ≡ row
    → rows (slice_set lines place new) ≡ replace (same_line row) row (rows lines)
set_is [] place line new row rise at alike is = absurd (cc)
set_is (x ∷ xs) zero line new row rise at alike is =
    let here : x ≡ line = same_Some x line at in
    let first : same_line row x.row ≡ true = ap (λ (one : LineFacts). same_line row one.row) here ∙ alike in
    ap₂ (λ one rest. one ∷ rest) is
    (unset row xs (all_weaker (λ later. facts_cmp x later ≡ Less) (λ later. same_line row later.row ≡ false)
    (λ later less. not_both row x later less first) xs rise.0))
    ∙ ap (λ (v : Bool). cond v row x.row ∷ replace (same_line row) row (rows xs)) (sym first)
set_is (x ∷ xs) (suc place) line new row rise at alike is =
    let other : same_line row x.row ≡ false =
    not_before row x line (at_place (λ later. facts_cmp x later ≡ Less) xs place line rise.0 at) alike in
    ap₂ (λ (v : Bool) rest. cond v row x.row ∷ rest) (sym other) (set_is xs place line new row rise.1 at alike is)

-- Lines with the same keys.
later_kept : (x y : LineFacts) (xs ys : List LineFacts)
    → key_of x ≡ key_of y
    → keys_of xs ≡ keys_of ys
    → AllByRecursion (λ later. facts_cmp x later ≡ Less) xs
    → AllByRecursion (λ later. facts_cmp y later ≡ Less) ys
later_kept x y [] [] e es all = tt
later_kept x y [] (b ∷ ys) e es all = absurd (cc)
later_kept x y (a ∷ xs) [] e es all = absurd (cc)
later_kept x y (a ∷ xs) (b ∷ ys) e es all =
    let first : key_of a ≡ key_of b = cc in
    (sym (ap₂ key_cmp e first) ∙ all.0, later_kept x y xs ys e (cc) all.1)

rise_kept : (xs ys : List LineFacts) → keys_of xs ≡ keys_of ys → Rises facts_cmp xs → Rises facts_cmp ys
rise_kept [] [] es rise = tt
rise_kept [] (y ∷ ys) es rise = absurd (cc)
rise_kept (x ∷ xs) [] es rise = absurd (cc)
rise_kept (x ∷ xs) (y ∷ ys) es rise = (later_kept x y xs ys (cc) (cc) rise.0, rise_kept xs ys (cc) rise.1)

-- setting a line keeps the keys, and so the index
pub keys_kept : (lines : List LineFacts) (place : ℕ) (line new : LineFacts)
    → place < length lines
    → line ≡ get_or lines place line
    → key_of new ≡ key_of line
    → keys_of (slice_set lines place new) ≡ keys_of lines
keys_kept lines place line new within at same_key =
    map-set key_of lines place new
    ∙ ap (slice_set (keys_of lines) place) (same_key ∙ ap key_of at ∙ sym (get_or-map key_of lines place line (key_of line) within))
    ∙ set-get_or (keys_of lines) place (key_of line)

pub indexed_kept : (xs ys : List LineFacts) (articles : BTreeMap OrderArticle ArticleLines)
    → keys_of ys ≡ keys_of xs
    → Indexed xs articles
    → Indexed ys articles
indexed_kept xs ys articles same_keys old = record {
  rise = rise_kept xs ys (sym same_keys) old.rise;
  index = subst (λ keys. IsArticleIndex keys articles) (sym same_keys) old.index;
}

all_set : (P : LineFacts → Type 0) (lines : List LineFacts) (place : ℕ) (new : LineFacts)
    → AllByRecursion P lines
    → P new
    → AllByRecursion P (slice_set lines place new)
all_set P [] place new all it = all
all_set P (x ∷ xs) zero new all it = (it, all.1)
all_set P (x ∷ xs) (suc place) new all it = (all.0, all_set P xs place new all.1 it)

-- A line that a search finds by its order number and its line number, and a row with its key.
module _ (lines : List LineFacts) (row : LineRow) (place : ℕ) (line : LineFacts)
    (within : place < length lines) (at : line ≡ get_or lines place line)
    (found : find (λ (line : LineFacts). line.row.line == row.line) (facts_of lines row.number) ≡ slice_get lines place) where
  at_it : slice_get lines place ≡ Some line
  at_it = slice_get-get_or lines place line within ∙ ap Some (sym at)

  both : (same line.row.number row.number ≡ true) × ((line.row.line == row.line) ≡ true)
  both =
      all_found (λ line. same line.row.number row.number ≡ true) (λ line. line.row.line == row.line) (facts_of lines row.number) line
      (recursion_from_All (λ line. same line.row.number row.number ≡ true) (facts_of lines row.number)
      (filter_passes (λ line. same line.row.number row.number) lines)) (found ∙ at_it)

  number_is : line.row.number ≡ row.number
  number_is = same_is line.row.number row.number both.0

  line_is : line.row.line ≡ row.line
  line_is = grind (arith, nat_tests, both.1)

  -- another row with the same key in its place
  module _ (supplier_is : line.row.supplier ≡ row.supplier) (gtin_is : line.row.gtin ≡ row.gtin)
      (ordered open_qty refused cancelled answer despatched : ℕ)
      (same_ordered : ordered ≡ row.ordered) (same_open : open_qty ≡ row.open_qty) (same_refused : refused ≡ row.refused)
      (same_cancelled : cancelled ≡ row.cancelled) (same_answer : answer ≡ row.answer) where
    abbrev pub new : LineFacts
    new = record {
      row = record {
        supplier = line.row.supplier;
        number = line.row.number;
        line = line.row.line;
        gtin = line.row.gtin;
        ordered = ordered;
        open_qty = open_qty;
        refused = refused;
        cancelled = cancelled;
        answer = answer;
      };
      despatched = despatched;
    }

    row_is : new.row ≡ row
    row_is i = record {
      supplier = supplier_is i;
      number = number_is i;
      line = line_is i;
      gtin = gtin_is i;
      ordered = same_ordered i;
      open_qty = same_open i;
      refused = same_refused i;
      cancelled = same_cancelled i;
      answer = same_answer i;
    }

    alike : same_line row line.row ≡ true
    alike =
        ap₂ (λ a b. a && (b && (line.row.line == row.line))) (same_if line.row.supplier row.supplier supplier_is) both.0 ∙ both.1

    pub rows_set : Rises facts_cmp lines → rows (slice_set lines place new) ≡ replace (same_line row) row (rows lines)
    rows_set rise = set_is lines place line new row rise at_it alike row_is

    pub keys_stay : keys_of (slice_set lines place new) ≡ keys_of lines
    keys_stay = keys_kept lines place line new within at refl

    pub known_still : row.ordered ≡ row.open_qty + row.refused + row.cancelled + despatched
        → AreKnown lines
        → AreKnown (slice_set lines place new)
    known_still adds known = record {
      rise = rise_kept lines (slice_set lines place new) (sym keys_stay) known.rise;
      adds_up = all_set AddsUp lines place new known.adds_up
          (subst (λ (one : LineRow). one.ordered ≡ one.open_qty + one.refused + one.cancelled + despatched) (sym row_is) adds);
    }

pub still_indexed : (xs ys : List LineFacts) (articles : Option (BTreeMap OrderArticle ArticleLines))
    → keys_of ys ≡ keys_of xs
    → IfSome articles (Indexed xs)
    → IfSome articles (Indexed ys)
still_indexed xs ys None same_keys old = tt
still_indexed xs ys (Some articles) same_keys old = indexed_kept xs ys articles same_keys old
