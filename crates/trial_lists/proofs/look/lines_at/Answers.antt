use Rattle.std.proofs.Common.{◌==◌, ◌++◌, append_assoc, sym, ap, ◌∙◌, ℕ, filter}
use Rattle.std.specs.List.{flat_map}
use Rattle.hub_tables.specs.Rows.{same}
use Rattle.hub_tables.specs.declared.rows.LineRow.{LineRow}
use Rattle.trial_lists.proofs.look.lines_at.Goals as goal

pub loop-line-preserved : goal.loop-line-preserved
loop-line-preserved c =
    let order = filter (λ (line : LineRow). same line.number c.args.number.now)
    (filter (λ (row : LineRow). same row.supplier c.args.supplier.now) c.args.lines.now) in
    let numbered = λ (n : ℕ). filter (λ (line : LineRow). line.line == n) order in
    let rest = c.next.new.self in
    let found = c.loop-line.found in
    ap (λ rows. rows ++ flat_map numbered rest)
    (c.in_ok-put_rows.ensures ∙ ap (λ rows. found ++ rows) c.in_ok-lines_at_number.ensures)
    ∙ append_assoc found (numbered c.in-Some.line.now) (flat_map numbered rest)
    ∙ ap (λ ahead. found ++ flat_map numbered ahead) (sym c.in-Some.ensures.steps)
    ∙ c.loop-line.invariant
