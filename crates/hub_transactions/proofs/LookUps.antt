-- Proves that the look-ups in a supplier's rows return what the rules ask.
use Rattle.std.proofs.Common.{◌≡◌, ℕ, ◌+◌, Bool, true, false, cond, inl, inr, List, [], ◌∷◌, length, filter, is_some, Option, Some}
use Rattle.std.proofs.Common.{None, option_map, refl, sym, subst, ◌∙◌, ap, arith}
use Rattle.std.specs.List.{AllByRecursion, last_or}
use Rattle.std.specs.Option.{unwrap_or}
use Rattle.hub_tables.specs.Rows.{same}
use Rattle.hub_tables.specs.State.{knows_order, lines_of, despatched, last_mail}
use Rattle.hub_tables.specs.Tables.{Tables}
use Rattle.hub_tables.specs.declared.rows.MailRow.{MailRow}
use Rattle.hub_tables.specs.declared.rows.LineRow.{LineRow}
use Rattle.hub_tables.proofs.Lists.{decide, same_is, all_filter}
use Rattle.hub_order_lines.specs.Book.{Orders, facts_of, has_order, lines_in, order_in, rows}
use Rattle.hub_order_lines.specs.KnownLines.{AddsUp}
use Rattle.hub_order_lines.specs.KnownOrders.{is_kept, AddsOrder}
use Rattle.hub_order_lines.specs.declared.facts.LineFacts.{LineFacts}
use Rattle.hub_rules.specs.Sound.{Balanced, Kept, Numbered}
use Rattle.hub_judges.specs.Known.{TellsDespatched}
use Rattle.hub_transactions.specs.Orders.{KeepsOrders}

-- The number of the last entry is the number of entries.
abbrev number_of : Option MailRow → ℕ
number_of entry = unwrap_or (option_map (λ entry. entry.number) entry) 0

last_above : (before : Option MailRow) (mail : List MailRow)
    → Numbered (number_of before) mail
    → number_of (last_or before mail) ≡ number_of before + length mail
last_above before [] h = omega arith
last_above before (entry ∷ entries) h =
    let rest : number_of (last_or (Some entry) entries) ≡ entry.number + length entries =
    last_above (Some entry) entries (subst (λ n. Numbered n entries) (sym h.0) h.1) in
    omega (arith, rest, h.0)

pub mails_known : (state : Tables) → Kept state → length state.mail ≡ last_mail state
mails_known state kept = let e : last_mail state ≡ 0 + length state.mail = last_above None state.mail kept.mail in omega (arith, e)

-- The lines of an order.
pub same_rows : (order : List ℕ) (facts : List LineFacts) → rows (facts_of facts order) ≡ filter (λ row. same row.number order) (rows facts)
same_rows order [] = refl
same_rows order (line ∷ lines) =
    elim (same line.row.number order) as (λ v. rows (cond v (line ∷ facts_of lines order) (facts_of lines order))
    ≡ cond v (line.row ∷ filter (λ row. same row.number order) (rows lines))
    (filter (λ row. same row.number order) (rows lines))) [
      | true ↦ ap (λ xs. line.row ∷ xs) (same_rows order lines)
      | false ↦ same_rows order lines
    ]

pub filter_twice : {X : Type 0} (p : X → Bool) (xs : List X) → filter p (filter p xs) ≡ filter p xs
filter_twice p [] = refl
filter_twice p (x ∷ xs) =
    elim (decide (p x)) [
      | inl e ↦ let ih = filter_twice p xs in grind (arith, e, ih)
      | inr e ↦ let ih = filter_twice p xs in grind (arith, e, ih)
    ]

-- A line's despatched quantity is what its row leaves of the ordered one.
pub all_despatched : (state : Tables) (facts : List LineFacts)
    → AllByRecursion AddsUp facts
    → AllByRecursion (Balanced state) (rows facts)
    → AllByRecursion (λ line. despatched state line.row ≡ line.despatched) facts
all_despatched state [] adds balanced = tt
all_despatched state (line ∷ lines) adds balanced = (omega (arith, adds.0, balanced.0), all_despatched state lines adds.1 balanced.1)

pub despatched_known : (state : Tables) (order : List ℕ) (orders : Orders)
    → Kept state
    → lines_of state order ≡ rows (lines_in orders order)
    → AllByRecursion AddsUp (lines_in orders order)
    → TellsDespatched state orders order
despatched_known state order orders kept e adds =
    all_despatched state (lines_in orders order) adds (subst (AllByRecursion (Balanced state)) e
    (all_filter (Balanced state) (λ line. same line.number order) state.lines kept.balanced))

-- Orders that are looked up one after another.
pub none_kept : (state : Tables) → KeepsOrders [] state
none_kept state = record { there = λ order kept. absurd (cc); lines = λ order kept. absurd (cc); adds_up = λ order kept. absurd (cc) }

module _ (state : Tables) (number : List ℕ) (is_there : Bool) (given : List LineRow) (old new : Orders)
    (put : AddsOrder number is_there given old new) where
  pub also_kept : is_kept new number ≡ true
  also_kept = ap is_some put.known

  same_as_before : (order : List ℕ) → same order number ≡ false → is_kept new order ≡ is_kept old order
  same_as_before order apart = ap is_some (put.others order apart)

  pub still_kept : (order : List ℕ) → is_kept old order ≡ true → is_kept new order ≡ true
  still_kept order kept =
      elim (decide (same order number)) [
        | inl its ↦ ap (is_kept new) (same_is order number its) ∙ also_kept
        | inr apart ↦ same_as_before order apart ∙ kept
      ]

  -- what was looked up is what the state has
  module _ (there : is_there ≡ knows_order state number) (found : given ≡ lines_of state number) (before : KeepsOrders old state) where
    there_now : (order : List ℕ) → is_kept new order ≡ true → knows_order state order ≡ has_order new order
    there_now order kept =
        elim (decide (same order number)) [
          | inl its ↦
              let is = same_is order number its in
              ap (knows_order state) is ∙ sym there
              ∙ sym (ap (λ o. unwrap_or (option_map (λ (known : Bool × List LineFacts). known.0) o) false)
              (ap (order_in new) is ∙ put.known))
          | inr apart ↦
              before.there order (sym (same_as_before order apart) ∙ kept)
              ∙ sym (ap (λ o. unwrap_or (option_map (λ (known : Bool × List LineFacts). known.0) o) false) (put.others order apart))
        ]

    lines_put : lines_in new number ≡ facts_of put.facts number
    lines_put = ap (λ o. unwrap_or (option_map (λ (known : Bool × List LineFacts). known.1) o) []) put.known

    lines_now : (order : List ℕ) → is_kept new order ≡ true → lines_of state order ≡ rows (lines_in new order)
    lines_now order kept =
        elim (decide (same order number)) [
          | inl its ↦
              let is = same_is order number its in
              ap (lines_of state) is
              ∙ sym (ap (λ n. rows (lines_in new n)) is ∙ ap rows lines_put
              ∙ same_rows number put.facts
              ∙ ap (filter (λ row. same row.number number)) (put.rows_are ∙ found)
              ∙ filter_twice (λ row. same row.number number) state.lines)
          | inr apart ↦
              before.lines order (sym (same_as_before order apart) ∙ kept)
              ∙ sym (ap (λ o. rows (unwrap_or (option_map (λ (known : Bool × List LineFacts). known.1) o) [])) (put.others order apart))
        ]

    adds_up_now : (order : List ℕ) → is_kept new order ≡ true → AllByRecursion AddsUp (lines_in new order)
    adds_up_now order kept =
        elim (decide (same order number)) [
          | inl its ↦
              subst (AllByRecursion AddsUp) (sym (ap (lines_in new) (same_is order number its) ∙ lines_put))
              (all_filter AddsUp (λ line. same line.row.number number) put.facts put.adds_up)
          | inr apart ↦
              subst (AllByRecursion AddsUp)
              (sym (ap (λ o. unwrap_or (option_map (λ (known : Bool × List LineFacts). known.1) o) []) (put.others order apart)))
              (before.adds_up order (sym (same_as_before order apart) ∙ kept))
        ]

    pub keeps_one_more : KeepsOrders new state
    keeps_one_more = record { there = there_now; lines = lines_now; adds_up = adds_up_now }
