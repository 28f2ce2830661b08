-- Shows that two texts of the same length are equal if none of their bytes differ.
use Rattle.std.proofs.Common.{◌≡◌, ℕ, ◌==◌, true, false, cond, not, ◌&&◌, nat_eq, filter, zip, List, [], ◌∷◌, length, refl}
use Rattle.std.proofs.Math.Dec.{eqb-suc-zero}
use Rattle.std.specs.Str.{bytes_eq}

-- the pairs of bytes that differ
abbrev differing : List ℕ → List ℕ → List (ℕ × ℕ)
differing one other = filter (λ pair. not (pair.0 == pair.1)) (zip one other)

pub none_differs : (one other : List ℕ)
    → length one ≡ length other
    → nat_eq (length (differing one other)) 0 ≡ bytes_eq one other
none_differs [] [] same = refl
none_differs [] (y ∷ other) same = cc
none_differs (x ∷ one) [] same = cc
none_differs (x ∷ one) (y ∷ other) same =
    let tails : length one ≡ length other = cc in
    let rest = none_differs one other tails in
    elim (x == y) as (λ v. x == y ≡ v → nat_eq (length (cond (not v) ((x, y) ∷ differing one other) (differing one other))) 0
    ≡ (v && bytes_eq one other)) [
      | true ↦ λ e. rest
      | false ↦ λ e. eqb-suc-zero (length (differing one other))
    ] refl
