-- Shows that kept orders follow changes.
use Rattle.std.proofs.Common.{◌≡◌, ◌⊎◌, ℕ, Bool, true, false, cond, List, [], ◌∷◌, map, inl, inr, Option, Some, None, is_some}
use Rattle.std.proofs.Common.{◌||◌, refl, sym, ap, ◌∙◌, subst, Vec}
use Rattle.std.specs.BTreeMap.{insert_entry}
use Rattle.std.specs.List.{AllByRecursion}
use Rattle.std.specs.Map.{lookup, remove_entry, set_value}
use Rattle.hub_parties.specs.KeyOrder.{replace}
use Rattle.hub_tables.specs.Rows.{same, same_line}
use Rattle.hub_tables.specs.declared.change.Change.{Change}
use Rattle.hub_tables.specs.declared.change.Change.TheVariants.{AddHub, SetHub, AddKey, SetKey, AddPrefix}
use Rattle.hub_tables.specs.declared.change.Change.TheVariants.{AddOrder, AddLine, SetLine, AddAdvice}
use Rattle.hub_tables.specs.declared.change.Change.TheVariants.{AddPallet, SetPallet, AddContent, AddReceipt, ClearReceipts}
use Rattle.hub_tables.specs.declared.change.Change.TheVariants.{Remember, AddMail, SetMail}
use Rattle.hub_tables.specs.declared.rows.LineRow.{LineRow}
use Rattle.hub_tables.proofs.Lists.{decide, same_is, same_if, all_filter}
use Rattle.hub_order_lines.specs.Book.{Orders, facts_of, has_order, lines_in, order_in, rows}
use Rattle.hub_order_lines.specs.KnownLines.{AddsUp}
use Rattle.hub_order_lines.specs.KnownOrders.{is_kept, rows_after, adds_lines, AddsOrder, Follows, ForgetsOrder}
use Rattle.hub_order_lines.specs.declared.known_orders.KnownOrder.{KnownOrder}
use Rattle.hub_order_lines.proofs.Entries.{OrderEntry, shown, at, key_cmp, kept_is, has_is, lines_are, put_known, put_others}
use Rattle.hub_order_lines.proofs.Entries.{removed_others}
use Rattle.hub_order_lines.proofs.Entries.{set_found}
use Rattle.hub_order_lines.proofs.RowsOfOrder.{set_of_order, other_untouched}

module _ {Z : Type 0} (row : LineRow) (es : List (OrderEntry Z)) where
  untouched : (order : List ℕ) → same order row.number ≡ false
      → rows (lines_in (map shown es) order) ≡ replace (same_line row) row (rows (lines_in (map shown es) order))
  untouched order apart = by (lookup (at order) es) refl
    where
      by : (found : Option KnownOrder) → lookup (at order) es ≡ found
          → rows (lines_in (map shown es) order) ≡ replace (same_line row) row (rows (lines_in (map shown es) order))
      by None is =
          let none = lines_are order es None is in
          ap rows none ∙ sym (ap (λ lines. replace (same_line row) row (rows lines)) none)
      by (Some known) is =
          let its = lines_are order es (Some known) is in
          ap rows its ∙ other_untouched row order known.lines apart
          ∙ sym (ap (λ lines. replace (same_line row) row (rows lines)) its)

  -- if the order is not kept
  pub not_kept : lookup (at row.number) es ≡ None → Follows (SetLine row ∷ []) (map shown es) (map shown es)
  not_kept none = record {
    was = λ order kept. kept;
    none_added = λ order kept. refl;
    there = λ order kept. refl;
    add_up = λ order kept add. add;
    lines = λ order kept. elim (decide (same order row.number)) [
      | inl its ↦
          let here : is_kept (map shown es) order ≡ false =
          ap (is_kept (map shown es)) (same_is order row.number its) ∙ kept_is row.number es ∙ ap is_some none in
          absurd (cc)
      | inr apart ↦ untouched order apart
    ];
  }

  -- if it is kept, its lines are set
  pub kept_set : (known w : KnownOrder) (new : List (OrderEntry Z))
      → lookup (at row.number) es ≡ Some known
      → new ≡ set_value (at row.number) es w
      → w.is_there ≡ known.is_there
      → rows w.lines ≡ replace (same_line row) row (rows known.lines)
      → AllByRecursion AddsUp w.lines
      → Follows (SetLine row ∷ []) (map shown es) (map shown new)
  kept_set known w new found becomes there set adds =
      subst (λ new. Follows (SetLine row ∷ []) (map shown es) (map shown new)) (sym becomes) (record {
        was = λ order kept. was_kept order (decide (same order row.number)) kept;
        none_added = λ order kept. refl;
        add_up = λ order kept add. still_add_up order (decide (same order row.number)) add;
        there = λ order kept. there_still order (decide (same order row.number));
        lines = λ order kept. lines_set order (decide (same order row.number));
      })
    where
      found_after : (order : List ℕ) (v : Bool) → same order row.number ≡ v
          → lookup (at order) (set_value (at row.number) es w) ≡ cond v (Some w) (lookup (at order) es)
      found_after order v is = set_found row.number order known w es found ∙ ap (λ (v : Bool). cond v (Some w) (lookup (at order) es)) is

      was_kept : (order : List ℕ) → (same order row.number ≡ true) ⊎ (same order row.number ≡ false)
          → is_kept (map shown (set_value (at row.number) es w)) order ≡ true
          → is_kept (map shown es) order ≡ true
      was_kept order (inl its) kept =
          ap (is_kept (map shown es)) (same_is order row.number its) ∙ kept_is row.number es ∙ ap is_some found
      was_kept order (inr apart) kept =
          kept_is order es ∙ sym (ap is_some (found_after order false apart)) ∙ sym (kept_is order (set_value (at row.number) es w)) ∙ kept

      there_still : (order : List ℕ) → (same order row.number ≡ true) ⊎ (same order row.number ≡ false)
          → has_order (map shown (set_value (at row.number) es w)) order ≡ has_order (map shown es) order
      there_still order (inl its) =
          has_is order (set_value (at row.number) es w) (Some w) (found_after order true its)
          ∙ there ∙ sym (has_is order es (Some known) (ap (λ n. lookup (at n) es) (same_is order row.number its) ∙ found))
      there_still order (inr apart) =
          has_is order (set_value (at row.number) es w) (lookup (at order) es) (found_after order false apart)
          ∙ sym (has_is order es (lookup (at order) es) refl)

      lines_set : (order : List ℕ) → (same order row.number ≡ true) ⊎ (same order row.number ≡ false)
          → rows (lines_in (map shown (set_value (at row.number) es w)) order)
          ≡ replace (same_line row) row (rows (lines_in (map shown es) order))
      lines_set order (inl its) =
          ap rows (lines_are order (set_value (at row.number) es w) (Some w) (found_after order true its))
          ∙ set_of_order row order known.lines w.lines set
          ∙ sym (ap (λ lines. replace (same_line row) row (rows lines))
          (lines_are order es (Some known) (ap (λ n. lookup (at n) es) (same_is order row.number its) ∙ found)))
      lines_set order (inr apart) =
          ap rows (lines_are order (set_value (at row.number) es w) (lookup (at order) es) (found_after order false apart)
          ∙ sym (lines_are order es (lookup (at order) es) refl))
          ∙ untouched order apart

      still_add_up : (order : List ℕ) → (same order row.number ≡ true) ⊎ (same order row.number ≡ false)
          → AllByRecursion AddsUp (lines_in (map shown es) order)
          → AllByRecursion AddsUp (lines_in (map shown (set_value (at row.number) es w)) order)
      still_add_up order (inl its) add =
          subst (AllByRecursion AddsUp)
          (sym (lines_are order (set_value (at row.number) es w) (Some w) (found_after order true its)))
          (all_filter AddsUp (λ line. same line.row.number order) w.lines adds)
      still_add_up order (inr apart) add =
          subst (AllByRecursion AddsUp)
          (sym (lines_are order (set_value (at row.number) es w) (lookup (at order) es) (found_after order false apart)
          ∙ sym (lines_are order es (lookup (at order) es) refl))) add

-- an order that is removed
pub taken_out : {Z : Type 0} (order : List ℕ) (es new : List (OrderEntry Z))
    → new ≡ remove_entry (at order) es
    → lookup (at order) new ≡ None
    → ForgetsOrder order (map shown es) (map shown new)
taken_out order es new becomes none = record {
  gone = kept_is order new ∙ ap is_some none;
  others = λ other apart. ap (λ es. order_in (map shown es) other) becomes ∙ removed_others order other apart es;
}

-- an order that is added
pub put_ok : {Z : Type 0} (order : List ℕ) (is_there : Bool) (given : List LineRow) (es new : List (OrderEntry Z)) (key : Vec ℕ Z)
    (known : KnownOrder)
    → key.items ≡ order
    → new ≡ insert_entry key_cmp es key known
    → known.is_there ≡ is_there
    → rows known.lines ≡ given
    → AllByRecursion AddsUp known.lines
    → AddsOrder order is_there given (map shown es) (map shown new)
put_ok order is_there given es new key known number becomes there rows_are adds_up =
    subst (λ new. AddsOrder order is_there given (map shown es) (map shown new)) (sym becomes) (record {
      facts = known.lines;
      rows_are = rows_are;
      adds_up = adds_up;
      known = put_known key known order es (same_if order key.items (sym number))
          ∙ ap (λ v. Some (v, facts_of known.lines order)) there;
      others = λ other apart. put_others key known other es (ap (same other) number ∙ apart);
    })

-- one change, then the others
pub in_turn : (change : Change) (changes : List Change) (given : List LineRow)
    → rows_after (change ∷ changes) given ≡ rows_after changes (rows_after (change ∷ []) given)
in_turn (SetLine row) changes given = refl
in_turn (AddHub row) changes given = refl
in_turn (SetHub row) changes given = refl
in_turn (AddKey row) changes given = refl
in_turn (SetKey row) changes given = refl
in_turn (AddPrefix row) changes given = refl
in_turn (AddOrder row) changes given = refl
in_turn (AddLine row) changes given = refl
in_turn (AddAdvice row) changes given = refl
in_turn (AddPallet row) changes given = refl
in_turn (SetPallet row) changes given = refl
in_turn (AddContent row) changes given = refl
in_turn (AddReceipt row) changes given = refl
in_turn (ClearReceipts sscc) changes given = refl
in_turn (Remember row) changes given = refl
in_turn (AddMail row) changes given = refl
in_turn (SetMail row) changes given = refl

pub follows_on : (change : Change) (changes : List Change) (a b c : Orders)
    → Follows (change ∷ []) a b
    → Follows changes b c
    → Follows (change ∷ changes) a c
follows_on change changes a b c first rest = record {
  was = λ order kept. first.was order (rest.was order kept);
  none_added = λ order kept. ap (λ v. adds_lines change || v) (rest.none_added order kept)
      ∙ first.none_added order (rest.was order kept);
  there = λ order kept. rest.there order kept ∙ first.there order (rest.was order kept);
  lines = λ order kept. rest.lines order kept
      ∙ ap (rows_after changes) (first.lines order (rest.was order kept))
      ∙ sym (in_turn change changes (rows (lines_in a order)));
  add_up = λ order kept add. rest.add_up order kept (first.add_up order (rest.was order kept) add);
}

-- without changes everything stays the same
pub follows_itself : (orders : Orders) → Follows [] orders orders
follows_itself orders = record {
  was = λ order kept. kept;
  none_added = λ order kept. refl;
  there = λ order kept. refl;
  lines = λ order kept. refl;
  add_up = λ order kept add. add;
}
