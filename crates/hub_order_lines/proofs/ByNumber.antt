-- Shows what is found when looking for an order's line by its number.
use Rattle.std.proofs.Common.{◌≡◌, ℕ, Bool, true, false, cond, ◌&&◌, ◌==◌, List, [], ◌∷◌, filter, find, slice_get, Option}
use Rattle.std.proofs.Common.{Some, refl, sym, ap, ◌∙◌, arith}
use Rattle.std.specs.declared.cmp.Ordering.{Ordering}
use Rattle.std.specs.declared.cmp.Ordering.TheVariants.{Less}
use Rattle.std.specs.Ordering.{nat_cmp, ordering_then, is_eq, is_gt}
use Rattle.std.specs.Cmp.{IsTotalOrder, both_tied}
use Rattle.std.proofs.lemmas.Bool.Decides.{nat_tests}
use Rattle.std.proofs.lemmas.Cmp.{on_total, then_total, nat_cmp_total, nat_list_cmp_total}
use Rattle.std.proofs.lemmas.Map.Entries.{option_filter}
use Rattle.std.proofs.lemmas.Map.Text.{is_eq-slice_cmp}
use Rattle.hub_parties.specs.KeyOrder.{bytes_cmp, InOrder, Rises}
use Rattle.hub_tables.specs.Rows.{same}
use Rattle.hub_tables.proofs.Lists.{all_weaker}
use Rattle.hub_order_lines.specs.Book.{facts_cmp, facts_of}
use Rattle.hub_order_lines.specs.Key.{LineKey, key_of, keys_of, is_below, place_from}
use Rattle.hub_order_lines.specs.declared.facts.LineFacts.{LineFacts}
use Rattle.hub_order_lines.proofs.InOrder.{first_at}

abbrev pub key_cmp : LineKey → LineKey → Ordering
key_cmp a b = ordering_then (bytes_cmp a.number b.number) (nat_cmp a.line b.line)

pub key_total : IsTotalOrder key_cmp
key_total = then_total (on_total (λ k. k.number) nat_list_cmp_total) (on_total (λ k. k.line) nat_cmp_total)

-- the key of a line number of an order
abbrev pub number_key : List ℕ → ℕ → LineKey
number_key number line = record { number = number; line = line; gtin = [] }

pub rise_in_order : (lines : List LineFacts) → Rises facts_cmp lines → InOrder (λ a b. key_cmp (key_of a) (key_of b)) lines
rise_in_order [] rise = tt
rise_in_order (line ∷ lines) rise = (
  all_weaker (λ later. facts_cmp line later ≡ Less) (λ later. is_gt (facts_cmp line later) ≡ false)
      (λ later less. ap is_gt less) lines rise.0,
  rise_in_order lines rise.1,
)

pub is_eq-nat_cmp : (x y : ℕ) → is_eq (nat_cmp x y) ≡ (x == y)
is_eq-nat_cmp x y = grind (arith, nat_tests)

pub find-filter : {X : Type 0} (p q : X → Bool) (xs : List X) → find p (filter q xs) ≡ find (λ x. q x && p x) xs
find-filter p q [] = refl
find-filter p q (x ∷ xs) =
    elim (q x) as
    (λ v. find p (cond v (x ∷ filter q xs) (filter q xs)) ≡ cond (v && p x) (Some x) (find (λ x. q x && p x) xs)) [
      | true ↦ ap (cond (p x) (Some x)) (find-filter p q xs)
      | false ↦ find-filter p q xs
    ]

-- the line that a search finds by order number and line number
pub by_number : (lines : List LineFacts) (order : List ℕ) (number : ℕ) → Rises facts_cmp lines
    → find (λ (line : LineFacts). line.row.line == number) (facts_of lines order)
    ≡ option_filter (λ line. same line.row.number order && (line.row.line == number))
    (slice_get lines (place_from order number (keys_of lines)))
by_number lines order number rise =
    find-filter (λ line. line.row.line == number) (λ line. same line.row.number order) lines
    ∙ sym (λ i. find (λ line. alike line i) lines)
    ∙ first_at key_total key_of (number_key order number) (is_below order number) (λ key. refl) lines (rise_in_order lines rise)
    ∙ (λ i. option_filter (λ line. alike line i) (slice_get lines (place_from order number (keys_of lines))))
  where
    alike : (line : LineFacts)
        → is_eq (key_cmp (key_of line) (number_key order number)) ≡ (same line.row.number order && (line.row.line == number))
    alike line =
        sym (both_tied (same line.row.number order) (line.row.line == number) (bytes_cmp line.row.number order)
        (nat_cmp line.row.line number) (sym (is_eq-slice_cmp line.row.number order))
        (sym (is_eq-nat_cmp line.row.line number)))

-- like `by_number`, at the position that a search returns
pub by_number_at : (lines : List LineFacts) (order : List ℕ) (number place : ℕ)
    → Rises facts_cmp lines
    → place ≡ place_from order number (keys_of lines)
    → (found : Option LineFacts)
    → slice_get lines place ≡ found
    → find (λ (line : LineFacts). line.row.line == number) (facts_of lines order)
    ≡ option_filter (λ line. same line.row.number order && (line.row.line == number)) found
by_number_at lines order number place rise is found at =
    by_number lines order number rise
    ∙ ap (λ n.
    option_filter (λ (line : LineFacts). same line.row.number order && (line.row.line == number)) (slice_get lines n))
    (sym is)
    ∙ ap (option_filter (λ (line : LineFacts). same line.row.number order && (line.row.line == number))) at
