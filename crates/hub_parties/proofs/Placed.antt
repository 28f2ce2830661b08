-- Shows where inserting a text puts it.
use Rattle.std.proofs.Common.{◌≡◌, ℕ, suc, ◌+◌, Bool, true, false, cond, List, [], ◌∷◌, length}
use Rattle.std.proofs.Common.{Some, None, refl, ap, ◌≤◌, not, ltb, arith, ◌∙◌, sym}
use Rattle.std.specs.List.{position_or_len, insert}
use Rattle.std.specs.declared.cmp.Ordering.{Ordering}
use Rattle.std.specs.Ordering.{is_gt}
use Rattle.std.specs.Option.{unwrap_or}
use Rattle.std.specs.Prelude.{position}
use Rattle.std.proofs.lemmas.Bool.{ltb-false}
use Rattle.std.proofs.lemmas.List.Sums.{prefix_len-le-length}
use Rattle.hub_parties.specs.KeyOrder.{put}

insert-next : {X : Type 0} (y : X) (ys : List X) (n : ℕ) (x : X) → insert (y ∷ ys) (1 + n) x ≡ y ∷ insert ys n x
insert-next y ys n x = let e : 1 + n ≡ suc n = omega arith in rw e refl

module _ {X : Type 0} (cmp : X → X → Ordering) (x : X) where
  -- it is inserted before the first greater one, or at the end
  pub put_is_insert : (xs : List X) → put cmp x xs ≡ insert xs (position_or_len (λ y. is_gt (cmp y x)) xs) x
  put_is_insert [] = refl
  put_is_insert (y ∷ ys) = elim (is_gt (cmp y x)) as (λ b. cond b (x ∷ y ∷ ys) (y ∷ put cmp x ys) ≡ insert (y ∷ ys)
      (cond (not b) (1 + position_or_len (λ y. is_gt (cmp y x)) ys) 0) x) [
        | true ↦ refl
        | false ↦ ap (λ rest. y ∷ rest) (put_is_insert ys) ∙ sym (insert-next y ys (position_or_len (λ y. is_gt (cmp y x)) ys) x)
      ]

-- the position that a search finds, or the end
place_or_end : (found : Bool) (place end : ℕ) → ltb place end ≡ found → place ≤ end → unwrap_or (cond found (Some place) None) end ≡ place
place_or_end true place end e least = refl
place_or_end false place end e least = let past = ltb-false place end e in omega (arith, past, least)

pub place_is : {X : Type 0} (test : X → Bool) (xs : List X) → unwrap_or (position test xs) (length xs) ≡ position_or_len test xs
place_is test xs = place_or_end _ (position_or_len test xs) (length xs) refl (prefix_len-le-length (λ x. not (test x)) xs)
