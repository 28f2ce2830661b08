use Rattle.std.proofs.Common.{◌≡◌, drop}
use Rattle.hub_register.specs.Kept.{are_in_order}
use Rattle.hub_register.proofs.rows.are_in_order.Given as goal

-- each supplier so far may come before all after it
abbrev pub invariant-loop-place : goal.invariant-loop-place
invariant-loop-place l = are_in_order l.rows ≡ are_in_order (drop l.place l.rows)
