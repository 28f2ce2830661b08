-- Describes rows that are the supplier's and sound, and what a rule finds among them.
use Rattle.std.proofs.Common.{◌≡◌, ℕ, true, ◌==◌, List, [], ◌∷◌, filter, Option, Some, None}
use Rattle.std.specs.List.{AllByRecursion}
use Rattle.hub_parties.specs.declared.row.SupplierRow.{SupplierRow}
use Rattle.hub_tables.specs.Change.{apply}
use Rattle.hub_tables.specs.Rows.{same}
use Rattle.hub_tables.specs.State.{knows_order, lines_of, line_of}
use Rattle.hub_tables.specs.Tables.{Tables}
use Rattle.hub_tables.specs.declared.change.Change.{Change}
use Rattle.hub_tables.specs.declared.change.Change.TheVariants.{SetLine}
use Rattle.hub_tables.specs.declared.rows.LineRow.{LineRow}
use Rattle.hub_tables.proofs.Lists.{all_filter, all_found, all_only}
use Rattle.hub_rules.specs.Laws.{KeptOwn}
use Rattle.hub_rules.specs.Sound.{Balanced, IsOwn, Kept}
use Rattle.hub_rules.proofs.Belonging.{Belongs, KeepsSupplier}
use Rattle.hub_rules.proofs.Keeping.{kept_set_line}
use Rattle.hub_rules.proofs.Owned.{own_after}
use Rattle.hub_rules.proofs.Verdicts.{Leaves, leaves_nothing, leaves_next}

pub good_after : (s : SupplierRow) (state : Tables) (change : Change)
    → Belongs s state change
    → IsOwn s.gln state
    → Kept (apply change state)
    → KeptOwn s (apply change state)
good_after s state change belongs own kept = record { own = own_after s state change belongs own; kept = kept }

-- one change
pub leaves_good : (s : SupplierRow) (state : Tables) (change : Change)
    → Belongs s state change
    → IsOwn s.gln state
    → Kept (apply change state)
    → Leaves s (KeptOwn s) state (change ∷ [])
leaves_good s state change belongs own kept =
    leaves_next s (KeptOwn s) state change [] belongs
    (leaves_nothing s (KeptOwn s) (apply change state) (good_after s state change belongs own kept))

pub keeps_from : (s : SupplierRow) (state : Tables) (changes : List Change) → Leaves s (KeptOwn s) state changes
    → KeepsSupplier s state changes
keeps_from s state changes left = record { belong = left.belong; own = left.after.own; kept = left.after.kept }

-- the line that a rule finds is one of the lines
pub line_found : (P : LineRow → Type 0) (state : Tables) (order : List ℕ) (number : Option ℕ) (gtin : List ℕ)
    (line : LineRow)
    → AllByRecursion P state.lines
    → line_of state order number gtin ≡ Some line
    → P line
line_found P state order (Some n) gtin line all h =
    (all_found P (λ l. l.line == n) (lines_of state order) line (all_filter P (λ l. same l.number order) state.lines all) h).0
line_found P state order None gtin line all h =
    all_only P (filter (λ l. same l.gtin gtin) (lines_of state order)) line
    (all_filter P (λ l. same l.gtin gtin) (lines_of state order) (all_filter P (λ l. same l.number order) state.lines all)) h

-- what is known of each line
pub record GoodLine (s : SupplierRow) (state : Tables) (line : LineRow) : Type 0 where
  pub whose : line.supplier ≡ s.gln
  pub known : knows_order state line.number ≡ true
  pub balance : Balanced state line

pub good_lines : (s : SupplierRow) (state : Tables) → KeptOwn s state → AllByRecursion (GoodLine s state) state.lines
good_lines s state good = joined state.lines good.own.lines good.kept.line_orders good.kept.balanced
  where
    joined : (lines : List LineRow)
        → AllByRecursion (λ l. l.supplier ≡ s.gln) lines
        → AllByRecursion (λ l. knows_order state l.number ≡ true) lines
        → AllByRecursion (Balanced state) lines
        → AllByRecursion (GoodLine s state) lines
    joined [] a b c = tt
    joined (line ∷ lines) a b c = (record { whose = a.0; known = b.0; balance = c.0 }, joined lines a.1 b.1 c.1)

-- a line may be set if it stays the supplier's, known and balanced
pub leaves_set_line : (s : SupplierRow) (state : Tables) (line : LineRow)
    → KeptOwn s state
    → GoodLine s state line
    → Leaves s (KeptOwn s) state (SetLine line ∷ [])
leaves_set_line s state line good fine =
    leaves_good s state (SetLine line) fine.whose good.own (kept_set_line state good.kept line fine.known fine.balance)
