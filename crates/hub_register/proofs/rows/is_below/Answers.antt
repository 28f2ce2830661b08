use Rattle.std.proofs.Common.{◌≡◌, ℕ, List, ap, ◌∙◌, refl}
use Rattle.std.specs.Cmp.Lexicographic.{slice_partial_cmp, lists_agrees}
use Rattle.std.specs.Ordering.{as_partial_cmp, is_some_and, is_lt, nat_cmp}
use Rattle.hub_parties.specs.KeyOrder.{bytes_cmp}
use Rattle.hub_register.proofs.rows.is_below.Goals as goal

one_order : (a b : List ℕ) → is_some_and is_lt (slice_partial_cmp (as_partial_cmp nat_cmp) a b) ≡ is_lt (bytes_cmp a b)
one_order a b = ap (is_some_and is_lt) (lists_agrees {C = as_partial_cmp nat_cmp} (λ x y. refl) a b)

pub returns : goal.returns
returns c = c.lt.ensures ∙ one_order c.args.row.now.gln c.args.other.now.gln
