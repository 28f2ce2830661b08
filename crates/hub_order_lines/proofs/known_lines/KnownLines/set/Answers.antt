use Rattle.std.proofs.Common.{◌≡◌, ◌<◌, ◌==◌, List, ℕ, find, length, slice_get, refl, ap, subst, ◌∙◌}
use Rattle.hub_parties.specs.KeyOrder.{replace}
use Rattle.hub_tables.specs.Rows.{same_line}
use Rattle.hub_order_lines.specs.Book.{facts_of, rows}
use Rattle.hub_order_lines.specs.Key.{keys_of}
use Rattle.hub_order_lines.specs.declared.facts.LineFacts.{LineFacts}
use Rattle.hub_order_lines.proofs.SetLine.{rows_set, keys_stay, known_still}
use Rattle.hub_order_lines.proofs.known_lines.KnownLines.set.Goals as goal

-- the line that was searched for is at this position
found : (c : goal.After-self-2-1) → (c.in-Some.place < length c.self.inside.lines.items)
    × (find (λ (line : LineFacts). line.row.line == c.args.row.now.line) (facts_of c.self.inside.lines.items c.args.row.now.number)
    ≡ slice_get c.self.inside.lines.items c.in-Some.place)
found c =
    let place = c.in-Some.place in
    let row = c.args.row.now in
    subst (λ (lines : List LineFacts). (place < length lines)
    × (find (λ (line : LineFacts). line.row.line == row.line) (facts_of lines row.number) ≡ slice_get lines place))
    c.as_slice.ensures.value
    (subst (λ (number : List ℕ). (place < length c.as_slice.result.now)
    × (find (λ (line : LineFacts). line.row.line == row.line) (facts_of c.as_slice.result.now number)
    ≡ slice_get c.as_slice.result.now place)) c.as_slice-number.ensures c.in-Some.ensures.some)

pub invariant_of-self-2 : goal.invariant_of-self-2
invariant_of-self-2 c =
    let lines = c.self.inside.lines.items in
    let row = c.args.row.now in
    let line = c.index_mut-line.result.now in
    let alike = c.if-not-is_alike.ensures.alike refl in
    known_still lines row c.in-Some.place line (found c).0 c.index_mut-line.ensures.value (found c).1 alike.0 alike.1 row.ordered
    row.open_qty row.refused row.cancelled c.of-line.result c.in-Some-despatched_quantity.despatched refl refl refl refl
    (c.of-line.ensures ∙ c.case.ensures) c.in-Some-despatched_quantity.ensures.adds_up c.self.invariant

pub returns-clause-set : goal.returns-clause-set
returns-clause-set c is_true =
    let lines = c.self.inside.lines.items in
    let row = c.args.row.now in
    let line = c.index_mut-line.result.now in
    let alike = c.if-not-is_alike.ensures.alike refl in
    rows_set lines row c.in-Some.place line (found c).0 c.index_mut-line.ensures.value (found c).1 alike.0 alike.1 row.ordered
    row.open_qty row.refused row.cancelled c.of-line.result c.in-Some-despatched_quantity.despatched refl refl refl refl
    (c.of-line.ensures ∙ c.case.ensures) c.self.invariant.rise
    ∙ ap (λ lines. replace (same_line row) row (rows lines)) c.self.view_is

pub returns-clause-keys : goal.returns-clause-keys
returns-clause-keys c =
    let lines = c.self.inside.lines.items in
    let row = c.args.row.now in
    let line = c.index_mut-line.result.now in
    let alike = c.if-not-is_alike.ensures.alike refl in
    keys_stay lines row c.in-Some.place line (found c).0 c.index_mut-line.ensures.value (found c).1 alike.0 alike.1 row.ordered
    row.open_qty row.refused row.cancelled c.of-line.result c.in-Some-despatched_quantity.despatched refl refl refl refl
    (c.of-line.ensures ∙ c.case.ensures)
    ∙ ap keys_of c.self.view_is
