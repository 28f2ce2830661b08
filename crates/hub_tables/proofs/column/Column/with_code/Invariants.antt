use Rattle.std.proofs.Common.{◌≡◌, ◌==◌, drop}
use Rattle.std.specs.List.{list_any}
use Rattle.hub_tables.proofs.column.Column.with_code.Given as goal

-- none of the cases so far has the number
abbrev pub invariant-loop-case : goal.invariant-loop-case
invariant-loop-case g l =
    list_any (λ case. l.code == g.C.Case.number case) l.case-items
    ≡ list_any (λ case. l.code == g.C.Case.number case) (drop l.case-index l.case-items)
