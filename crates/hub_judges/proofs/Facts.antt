-- Shows what look-ups and changes do to facts that agree with the lines of a state.
use Rattle.std.proofs.Common.{◌≡◌, ℕ, Bool, true, false, cond, ◌&&◌, ◌==◌, List, [], ◌∷◌, map, filter, find, sum_by}
use Rattle.std.proofs.Common.{Option, Some, None, option_map, refl, sym, subst, ◌∙◌, ap, ap₂}
use Rattle.std.specs.List.{AllByRecursion}
use Rattle.hub_tables.specs.Change.{apply}
use Rattle.hub_parties.specs.KeyOrder.{replace}
use Rattle.hub_tables.specs.Rows.{same, same_line}
use Rattle.hub_tables.specs.State.{line_among, line_of, despatched, the_only}
use Rattle.hub_tables.specs.Tables.{Tables}
use Rattle.hub_tables.specs.declared.change.Change.TheVariants.{SetLine}
use Rattle.hub_tables.specs.declared.rows.LineRow.{LineRow}
use Rattle.hub_tables.specs.declared.rows.ContentRow.{ContentRow}
use Rattle.hub_tables.proofs.KindOrders.{line_key}
use Rattle.hub_order_lines.specs.Book.{Orders, facts_among, lines_in, rows, with_row, set_row}
use Rattle.hub_order_lines.specs.declared.facts.LineFacts.{LineFacts}
use Rattle.hub_order_lines.proofs.RowsOfOrder.{filter_rows, set_among_order}
use Rattle.hub_order_lines.proofs.Setting.{lines_made}
use Rattle.hub_judges.specs.Known.{TellsLines, TellsDespatched}

-- look-ups
find_rows : (p : LineRow → Bool) (lines : List LineFacts)
    → find p (rows lines) ≡ option_map (λ line. line.row) (find (λ line. p line.row) lines)
find_rows p [] = refl
find_rows p (line ∷ lines) =
    elim (p line.row) as (λ v. cond v (Some line.row) (find p (rows lines))
    ≡ option_map (λ line. line.row) (cond v (Some line) (find (λ line. p line.row) lines))) [
      | true ↦ refl
      | false ↦ find_rows p lines
    ]

only_rows : (lines : List LineFacts) → the_only (rows lines) ≡ option_map (λ line. line.row) (the_only lines)
only_rows [] = refl
only_rows (line ∷ []) = refl
only_rows (line ∷ other ∷ lines) = refl

among_rows : (lines : List LineFacts) (number : Option ℕ) (gtin : List ℕ)
    → line_among (rows lines) number gtin ≡ option_map (λ line. line.row) (facts_among lines number gtin)
among_rows lines (Some number) gtin = find_rows (λ line. line.line == number) lines
among_rows lines None gtin =
    ap the_only (filter_rows (λ line. same line.gtin gtin) lines) ∙ only_rows (filter (λ line. same line.row.gtin gtin) lines)

pub line_told : (state : Tables) (lines : Orders) (order : List ℕ) (number : Option ℕ) (gtin : List ℕ)
    → TellsLines state lines order
    → line_of state order number gtin ≡ option_map (λ line. line.row) (facts_among (lines_in lines order) number gtin)
line_told state lines order number gtin told = ap (λ xs. line_among xs number gtin) told ∙ among_rows (lines_in lines order) number gtin

-- setting a line
rows_set : (row : LineRow) (lines : List LineFacts) → rows (map (set_row row) lines) ≡ replace (same_line row) row (rows lines)
rows_set row [] = refl
rows_set row (line ∷ lines) =
    ap₂ (λ one rest. one ∷ rest)
    (elim (same_line row line.row) as (λ v. (cond v (record line { row = row }) line).row ≡ cond v row line.row)
    [ true ↦ refl | false ↦ refl ]) (rows_set row lines)

pub lines_told_after : (state : Tables) (lines : Orders) (row : LineRow) (order : List ℕ)
    → TellsLines state lines order
    → TellsLines (apply (SetLine row) state) (with_row row lines) order
lines_told_after state lines row order told =
    set_among_order row order state.lines
    ∙ ap (replace (same_line row) row) told
    ∙ sym (ap rows (lines_made (set_row row) lines order) ∙ rows_set row (lines_in lines order))

-- the despatched quantity depends only on the order number and the line number
despatched_by_key : (state : Tables) (a b : LineRow) → a.number ≡ b.number → a.line ≡ b.line → despatched state a ≡ despatched state b
despatched_by_key state a b numbers lines =
    ap₂ (λ number line.
    sum_by (λ c. c.quantity) (filter (λ (c : ContentRow). same c.number number && (c.line == line)) state.contents)) numbers
    lines

despatched_set : (state : Tables) (row : LineRow) (lines : List LineFacts)
    → AllByRecursion (λ line. despatched state line.row ≡ line.despatched) lines
    → AllByRecursion (λ line. despatched (apply (SetLine row) state) line.row ≡ line.despatched) (map (set_row row) lines)
despatched_set state row [] told = tt
despatched_set state row (line ∷ lines) told = (one, despatched_set state row lines told.1)
  where
    one : despatched state (set_row row line).row ≡ (set_row row line).despatched
    one =
        elim (same_line row line.row) as (λ v. same_line row line.row ≡ v
        → despatched state (cond v (record line { row = row }) line).row
        ≡ (cond v (record line { row = row }) line).despatched) [
          | true ↦ λ e. despatched_by_key state row line.row (sym (line_key row line.row e).1) (sym (line_key row line.row e).2) ∙ told.0
          | false ↦ λ e. told.0
        ] refl

pub despatched_told_after : (state : Tables) (lines : Orders) (row : LineRow) (order : List ℕ)
    → TellsDespatched state lines order
    → TellsDespatched (apply (SetLine row) state) (with_row row lines) order
despatched_told_after state lines row order told =
    subst (AllByRecursion (λ line. despatched (apply (SetLine row) state) line.row ≡ line.despatched))
    (sym (lines_made (set_row row) lines order)) (despatched_set state row (lines_in lines order) told)
