-- Shows what replacing a row does to the rows of an order's lines.
use Rattle.std.proofs.Common.{◌≡◌, ℕ, Bool, true, false, cond, ◌&&◌, ◌==◌, List, [], ◌∷◌, filter, inl, inr, refl, sym, ap, ap₂, ◌∙◌, arith}
use Rattle.hub_parties.specs.KeyOrder.{replace}
use Rattle.hub_tables.specs.Rows.{same, same_line}
use Rattle.hub_tables.specs.declared.rows.LineRow.{LineRow}
use Rattle.hub_tables.proofs.KindOrders.{line_key}
use Rattle.hub_tables.proofs.Lists.{decide, same_is}
use Rattle.hub_order_lines.specs.Book.{facts_of, rows}
use Rattle.hub_order_lines.specs.declared.facts.LineFacts.{LineFacts}

pub filter_rows : (p : LineRow → Bool) (lines : List LineFacts) → filter p (rows lines) ≡ rows (filter (λ line. p line.row) lines)
filter_rows p [] = refl
filter_rows p (line ∷ lines) =
    elim (p line.row) as (λ v. cond v (line.row ∷ filter p (rows lines)) (filter p (rows lines))
    ≡ rows (cond v (line ∷ filter (λ line. p line.row) lines) (filter (λ line. p line.row) lines))) [
      | true ↦ ap (λ xs. line.row ∷ xs) (filter_rows p lines)
      | false ↦ filter_rows p lines
    ]

-- replacing a row among those that pass a test which depends only on the key
pub filter_replace : (row : LineRow) (p : LineRow → Bool) (ls : List LineRow)
    → ((old : LineRow) → same_line row old ≡ true → p old ≡ p row)
    → filter p (replace (same_line row) row ls) ≡ replace (same_line row) row (filter p ls)
filter_replace row p [] by_key = refl
filter_replace row p (old ∷ ls) by_key =
    let ih = filter_replace row p ls by_key in
    elim (decide (same_line row old)) [
      | inl e ↦
          let both : p old ≡ p row = by_key old e in
          elim (decide (p row)) [ inl k ↦ grind (arith, e, both, k, ih) | inr k ↦ grind (arith, e, both, k, ih) ]
      | inr e ↦ elim (decide (p old)) [ inl k ↦ grind (arith, e, k, ih) | inr k ↦ grind (arith, e, k, ih) ]
    ]

-- replacing a row among the lines of an order, and among those of a supplier
pub set_among_order : (row : LineRow) (order : List ℕ) (ls : List LineRow)
    → filter (λ line. same line.number order) (replace (same_line row) row ls)
    ≡ replace (same_line row) row (filter (λ line. same line.number order) ls)
set_among_order row order ls =
    filter_replace row (λ line. same line.number order) ls (λ old e. ap (λ v. same v order) (line_key row old e).1)

pub set_among_suppliers : (row : LineRow) (supplier : List ℕ) (ls : List LineRow)
    → filter (λ line. same line.supplier supplier) (replace (same_line row) row ls)
    ≡ replace (same_line row) row (filter (λ line. same line.supplier supplier) ls)
set_among_suppliers row supplier ls =
    filter_replace row (λ line. same line.supplier supplier) ls (λ old e. ap (λ v. same v supplier) (line_key row old e).0)

-- replacing a row among all lines replaces it among those of an order
pub set_of_order : (row : LineRow) (order : List ℕ) (old new : List LineFacts)
    → rows new ≡ replace (same_line row) row (rows old)
    → rows (facts_of new order) ≡ replace (same_line row) row (rows (facts_of old order))
set_of_order row order old new set =
    sym (filter_rows (λ line. same line.number order) new)
    ∙ ap (filter (λ line. same line.number order)) set
    ∙ set_among_order row order (rows old)
    ∙ ap (replace (same_line row) row) (filter_rows (λ line. same line.number order) old)

-- replacing a row of one order does not change the rows of another
pub other_untouched : (row : LineRow) (order : List ℕ) (lines : List LineFacts)
    → same order row.number ≡ false
    → rows (facts_of lines order) ≡ replace (same_line row) row (rows (facts_of lines order))
other_untouched row order [] apart = refl
other_untouched row order (line ∷ lines) apart =
    elim (decide (same line.row.number order)) [
      | inl its ↦
          let number : line.row.number ≡ order = same_is line.row.number order its in
          let not_it : same line.row.number row.number ≡ false = ap (λ n. same n row.number) number ∙ apart in
          let not_set : same_line row line.row ≡ false =
          ap (λ v. same line.row.supplier row.supplier && (v && (line.row.line == row.line))) not_it
          ∙ and_none (same line.row.supplier row.supplier) in
          ap (λ (v : Bool). rows (cond v (line ∷ facts_of lines order) (facts_of lines order))) its
          ∙ ap₂ (λ (v : Bool) rest. cond v row line.row ∷ rest) (sym not_set) (other_untouched row order lines apart)
          ∙ sym (ap (λ (v : Bool). replace (same_line row) row (rows (cond v (line ∷ facts_of lines order) (facts_of lines order)))) its)
      | inr other ↦
          ap (λ (v : Bool). rows (cond v (line ∷ facts_of lines order) (facts_of lines order))) other
          ∙ other_untouched row order lines apart
          ∙ sym (ap (λ (v : Bool). replace (same_line row) row (rows (cond v (line ∷ facts_of lines order) (facts_of lines order)))) other)
    ]
  where
    and_none : (v : Bool) → (v && false) ≡ false
    and_none true = refl
    and_none false = refl
