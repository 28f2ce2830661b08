use Rattle.std.proofs.Common.{◌≡◌, ◌+◌, not, drop}
use Rattle.std.specs.List.{prefix_len}
use Rattle.hub_texts.specs.Cancel.{is_end}
use Rattle.hub_texts.proofs.cancel.line_len.Given as goal

-- no line has ended so far
abbrev pub invariant-loop-place : goal.invariant-loop-place
invariant-loop-place l =
    prefix_len (λ byte. not (is_end byte)) l.text ≡ l.place + prefix_len (λ byte. not (is_end byte)) (drop l.place l.text)
