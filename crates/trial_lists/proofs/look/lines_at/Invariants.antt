use Rattle.std.proofs.Common.{◌≡◌, ◌==◌, ◌++◌, filter}
use Rattle.std.specs.List.{flat_map}
use Rattle.hub_tables.specs.Rows.{same}
use Rattle.trial_lists.proofs.look.lines_at.Given as goal

-- what is found so far, then what has the other numbers
abbrev pub invariant-loop-line : goal.invariant-loop-line
invariant-loop-line l =
    l.found ++ flat_map (λ n. filter (λ line. line.line == n) (filter (λ line. same line.number l.number)
    (filter (λ row. same row.supplier l.supplier) l.lines))) l.line-iterator
    ≡ flat_map (λ n. filter (λ line. line.line == n) (filter (λ line. same line.number l.number)
    (filter (λ row. same row.supplier l.supplier) l.lines))) l.numbers.keys
