-- Shows that lines rise if each comes before the next.
use Rattle.std.proofs.Common.{◌≡◌, true, List, [], ◌∷◌, Some, None, sym, subst}
use Rattle.std.specs.List.{AllByRecursion}
use Rattle.std.specs.Cmp.{IsTotalOrder}
use Rattle.std.specs.declared.cmp.Ordering.TheVariants.{Less}
use Rattle.std.specs.Ordering.{is_lt}
use Rattle.std.proofs.lemmas.Bool.{and_parts}
use Rattle.std.proofs.lemmas.Cmp.{on_total, then_total, nat_cmp_total, nat_list_cmp_total}
use Rattle.hub_tables.proofs.Lists.{all_weaker}
use Rattle.hub_parties.specs.KeyOrder.{Rises}
use Rattle.hub_tables.specs.declared.rows.LineRow.{LineRow}
use Rattle.hub_order_lines.specs.Book.{facts_cmp, place_cmp, rows}
use Rattle.hub_order_lines.specs.KnownLines.{steps_up}
use Rattle.hub_order_lines.specs.declared.facts.LineFacts.{LineFacts}
use Rattle.hub_order_lines.proofs.InOrder.{less_is}

place_total : IsTotalOrder place_cmp
place_total = then_total (on_total (λ line. line.number) nat_list_cmp_total) (on_total (λ line. line.line) nat_cmp_total)

all_above : (before : LineRow) (lines : List LineRow)
    → steps_up (Some before) lines ≡ true
    → AllByRecursion (λ later. place_cmp before later ≡ Less) lines × Rises place_cmp lines
all_above before [] h = (tt, tt)
all_above before (line ∷ lines) h =
    let parts = and_parts (is_lt (place_cmp before line)) (steps_up (Some line) lines) h in
    let less = less_is (place_cmp before line) parts.0 in
    let rest = all_above line lines parts.1 in (
      (
        less,
        all_weaker (λ later. place_cmp line later ≡ Less) (λ later. place_cmp before later ≡ Less)
            (λ later e. place_total.trans before line later less e) lines rest.0,
      ),
      rest,
    )

pub rise_if_steps : (lines : List LineRow) → steps_up None lines ≡ true → Rises place_cmp lines
rise_if_steps [] h = tt
rise_if_steps (line ∷ lines) h = all_above line lines h

-- what is known of lines rises like their rows
all_facts_above : (line : LineFacts) (lines : List LineFacts)
    → AllByRecursion (λ later. place_cmp line.row later ≡ Less) (rows lines)
    → AllByRecursion (λ later. facts_cmp line later ≡ Less) lines
all_facts_above line [] above = tt
all_facts_above line (later ∷ lines) above = (above.0, all_facts_above line lines above.1)

rows_rise : (facts : List LineFacts) → Rises place_cmp (rows facts) → Rises facts_cmp facts
rows_rise [] rises = tt
rows_rise (line ∷ lines) rises = (all_facts_above line lines rises.0, rows_rise lines rises.1)

pub facts_rise : (facts : List LineFacts) (lines : List LineRow) → rows facts ≡ lines → steps_up None lines ≡ true → Rises facts_cmp facts
facts_rise facts lines e steps = rows_rise facts (subst (Rises place_cmp) (sym e) (rise_if_steps lines steps))
