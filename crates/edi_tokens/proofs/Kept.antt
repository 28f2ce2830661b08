-- Bytes that are only added to.
use Rattle.std.proofs.Common.{◌≡◌, ℕ, List, ◌++◌, length, take, refl, sym, ap}
use Rattle.std.proofs.lemmas.List.{take-take, length-take, take_at, take-append-le}

-- what was added to begins with what it was
pub begins : (was more : List ℕ) → was ++ more ≡ take (length was) (was ++ more) ++ more
begins was more = ap (λ bytes. bytes ++ more) (sym (take_at was more (length was) refl))

-- for what is kept through one addition after another
pub ruleset keeps = (begins, take-take, length-take, take-append-le)
