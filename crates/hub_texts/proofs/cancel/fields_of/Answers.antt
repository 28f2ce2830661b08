use Rattle.std.proofs.Common.{◌<◌, ◌∷◌, List, ℕ, length, ap, ◌∙◌, arith}
use Rattle.std.proofs.lemmas.Bool.Decides.{nat_tests}
use Rattle.hub_texts.specs.Cancel.{cancel_in}
use Rattle.hub_texts.proofs.Cutting.{more_after}
use Rattle.hub_texts.proofs.cancel.fields_of.Goals as goal

pub returns-then-not-is_empty-clause-none : goal.returns-then-not-is_empty-clause-none
returns-then-not-is_empty-clause-none c =
    let supplier = c.in_ok-supplier.supplier.now in
    let reference = c.in_ok-reference.reference.now in
    let order = c.in_ok-order.order.now in
    let line = c.in_ok-line.line.now in
    let quantity = c.in_ok-quantity.quantity.now in
    let rest = c.in_ok-quantity.rest.now in
    let some : 0 < length rest = grind (arith, nat_tests, c.if-not-is_empty.ensures) in
    ap cancel_in (c.in_ok-supplier.ensures.some
    ∙ ap (λ (parts : List (List ℕ)). supplier ∷ parts) (c.in_ok-reference.ensures.some
    ∙ ap (λ (parts : List (List ℕ)). reference ∷ parts) (c.in_ok-order.ensures.some
    ∙ ap (λ (parts : List (List ℕ)). order ∷ parts) (c.in_ok-line.ensures.some
    ∙ ap (λ (parts : List (List ℕ)). line ∷ parts) c.in_ok-quantity.ensures.some))))
    ∙ more_after supplier reference order line quantity rest some
