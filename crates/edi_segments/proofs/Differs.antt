-- A byte that differs from each of a list.
use Rattle.std.proofs.Common.{◌≡◌, ℕ, Bool, true, false, List, [], ◌∷◌, refl, ap, ◌∙◌, arith}
use Rattle.std.specs.Prelude.{◌==◌, ◌&&◌, ◌||◌, not}
use Rattle.std.specs.List.{list_any}
use Rattle.edi_segments.specs.Service.{differs}

==-swap : (b c : ℕ) → (b == c) ≡ (c == b)
==-swap b c = grind arith

not-|| : (x y : Bool) → not (x || y) ≡ (not x && not y)
not-|| true y = refl
not-|| false y = refl

pub not_list_any : (b : ℕ) (cs : List ℕ) → not (list_any (λ c. c == b) cs) ≡ differs b cs
not_list_any b [] = refl
not_list_any b (c ∷ cs) =
    not-|| (c == b) (list_any (λ d. d == b) cs)
    ∙ ap (λ first. not first && not (list_any (λ d. d == b) cs)) (==-swap c b)
    ∙ ap (λ rest. not (b == c) && rest) (not_list_any b cs)
