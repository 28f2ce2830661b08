-- Finds the first line of an order.
use Rattle.std.proofs.Common.{◌≡◌, ℕ, Bool, true, false, cond, ◌||◌, ◌==◌, List, [], ◌∷◌, find, slice_get, Option, Some}
use Rattle.std.proofs.Common.{None, refl, sym, ap, ◌∙◌, arith, eq-eqb}
use Rattle.std.specs.List.{list_any}
use Rattle.std.specs.declared.cmp.Ordering.{Ordering}
use Rattle.std.specs.declared.cmp.Ordering.TheVariants.{Less, Equal, Greater}
use Rattle.std.specs.Ordering.{nat_cmp, ordering_then, is_gt, is_lt}
use Rattle.std.specs.Cmp.{both_ways}
use Rattle.std.proofs.lemmas.Bool.Decides.{nat_tests}
use Rattle.std.proofs.lemmas.Cmp.{on_total, nat_list_cmp_total}
use Rattle.std.proofs.lemmas.Map.Entries.{option_filter}
use Rattle.std.proofs.lemmas.Map.Text.{is_eq-slice_cmp}
use Rattle.std.proofs.lemmas.Option.{cond_some, same_Some}
use Rattle.hub_parties.specs.KeyOrder.{bytes_cmp, InOrder, Rises}
use Rattle.hub_tables.specs.Rows.{same}
use Rattle.hub_tables.proofs.Lists.{same_is, same_if, all_weaker}
use Rattle.hub_order_lines.specs.Book.{facts_cmp}
use Rattle.hub_order_lines.specs.Key.{LineKey, key_of, keys_of, is_below, place_from}
use Rattle.hub_order_lines.specs.declared.facts.LineFacts.{LineFacts}
use Rattle.hub_order_lines.proofs.InOrder.{first_at}
use Rattle.hub_order_lines.proofs.ByNumber.{number_key}

then_less : (o p : Ordering) → ordering_then o p ≡ Less → is_gt o ≡ false
then_less Less p h = refl
then_less Equal p h = refl
then_less Greater p h = cc

order_in_order : (lines : List LineFacts) → Rises facts_cmp lines → InOrder (λ a b. bytes_cmp (key_of a).number (key_of b).number) lines
order_in_order [] rise = tt
order_in_order (line ∷ lines) rise = (
  all_weaker (λ later. facts_cmp line later ≡ Less)
      (λ later. is_gt (bytes_cmp line.row.number later.row.number) ≡ false) (λ later less.
      then_less (bytes_cmp line.row.number later.row.number) (nat_cmp line.row.line later.row.line) less) lines rise.0,
  order_in_order lines rise.1,
)

-- no line comes before number 0 of its order
below_first : (o : Ordering) (number : ℕ) → is_lt (ordering_then o (nat_cmp number 0)) ≡ is_lt o
below_first Less number = refl
below_first Equal number = grind (arith, nat_tests)
below_first Greater number = refl

by_order : (lines : List LineFacts) (order : List ℕ) → Rises facts_cmp lines
    → find (λ line. same line.row.number order) lines
    ≡ option_filter (λ line. same line.row.number order) (slice_get lines (place_from order 0 (keys_of lines)))
by_order lines order rise =
    sym (λ i. find (λ (line : LineFacts). is_eq-slice_cmp line.row.number order i) lines)
    ∙ first_at (on_total (λ (key : LineKey). key.number) nat_list_cmp_total) key_of (number_key order 0) (is_below order 0)
    (λ key. below_first (bytes_cmp key.number order) key.line) lines (order_in_order lines rise)
    ∙ (λ i. option_filter (λ (line : LineFacts). is_eq-slice_cmp line.row.number order i)
    (slice_get lines (place_from order 0 (keys_of lines))))

some_found : {X : Type 0} (p : X → Bool) (xs : List X) → list_any p xs ≡ true → (x : X) × (find p xs ≡ Some x)
some_found p [] h = absurd (cc)
some_found p (x ∷ xs) h =
    elim (p x) as (λ v. (v || list_any p xs) ≡ true → (y : _) × (cond v (Some x) (find p xs) ≡ Some y))
    [ true ↦ λ e. (x, refl) | false ↦ λ e. some_found p xs e ] h

filtered_some : {X : Type 0} (p : X → Bool) (o : Option X) (x : X) → option_filter p o ≡ Some x → (o ≡ Some x) × (p x ≡ true)
filtered_some p None x h = absurd (cc)
filtered_some p (Some y) x h = let e = cond_some (p y) y x h in (ap Some e.1, sym (ap p e.1) ∙ e.0)

-- the first line of an order, if there is one
first_line : (lines : List LineFacts) (order : List ℕ) → Rises facts_cmp lines → list_any (λ line. same line.row.number order) lines ≡ true
    → (first : LineFacts) × (slice_get lines (place_from order 0 (keys_of lines)) ≡ Some first) × (first.row.number ≡ order)
first_line lines order rise some =
    let found = some_found (λ (line : LineFacts). same line.row.number order) lines some in
    let at = filtered_some (λ (line : LineFacts). same line.row.number order)
    (slice_get lines (place_from order 0 (keys_of lines))) found.0 (sym (by_order lines order rise) ∙ found.1) in
    (found.0, at.0, same_is found.0.row.number order at.1)

-- two lines belong to the same order if the first lines of their orders are the same
pub same_order : (lines : List LineFacts) (a b : List ℕ)
    → Rises facts_cmp lines
    → list_any (λ line. same line.row.number a) lines ≡ true
    → list_any (λ line. same line.row.number b) lines ≡ true
    → (place_from a 0 (keys_of lines) == place_from b 0 (keys_of lines)) ≡ same a b
same_order lines a b rise some_a some_b =
    let keys = keys_of lines in
    let first_a = first_line lines a rise some_a in
    let first_b = first_line lines b rise some_b in
    both_ways (place_from a 0 keys == place_from b 0 keys) (same a b)
    (λ e.
    let places : place_from a 0 keys ≡ place_from b 0 keys = grind (arith, nat_tests, e) in
    let one : first_a.0 ≡ first_b.0 = same_Some first_a.0 first_b.0 (sym first_a.1 ∙ ap (slice_get lines) places ∙ first_b.1) in
    same_if a b (sym first_a.2 ∙ ap (λ (line : LineFacts). line.row.number) one ∙ first_b.2))
    (λ e. eq-eqb (place_from a 0 keys) (place_from b 0 keys) (ap (λ order. place_from order 0 keys) (same_is a b e)))
