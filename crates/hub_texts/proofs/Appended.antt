-- Joins parts that are appended one after another.
use Rattle.std.proofs.Common.{◌≡◌, ℕ, List, ◌++◌, ap, ◌∙◌, append_assoc}

pub joined : {middle new : List ℕ} (old first second : List ℕ)
    → middle ≡ old ++ first
    → new ≡ middle ++ second
    → new ≡ old ++ (first ++ second)
joined old first second h g = g ∙ ap (λ items. items ++ second) h ∙ append_assoc old first second
