-- How a list of segments is cut before each UNH.
use Rattle.std.proofs.Common.{◌≡◌, List, [], ◌∷◌, ◌++◌, true, false, refl, ap}
use Rattle.std.specs.List.{list_any}
use Rattle.std.proofs.lemmas.Bool.{or_parts, cases_Bool}
use Rattle.edi_segments.specs.declared.segment.Segment.{Segment}
use Rattle.edi_envelope.specs.Segments.{is_unh}
use Rattle.edi_envelope.specs.Blocks.{before_message, blocks}
use Rattle.std.proofs.Common.{inl, inr}

-- where no UNH stands, all stands before the first
pub before_message-none : (xs : List Segment) → list_any is_unh xs ≡ false → before_message xs ≡ xs
before_message-none [] h = refl
before_message-none (x ∷ xs) h =
    let parts = or_parts (is_unh x) (list_any is_unh xs) h in
    rw parts.0 (ap (λ rest. x ∷ rest) (before_message-none xs parts.1))

pub blocks-none : (xs : List Segment) → list_any is_unh xs ≡ false → blocks xs ≡ []
blocks-none [] h = refl
blocks-none (x ∷ xs) h = let parts = or_parts (is_unh x) (list_any is_unh xs) h in rw parts.0 (blocks-none xs parts.1)

-- from an UNH on nothing stands before the first
pub before_message-at : (xs : List Segment) (u : Segment) (ys : List Segment)
    → is_unh u ≡ true
    → before_message (xs ++ u ∷ ys) ≡ before_message xs
before_message-at [] u ys h = rw h refl
before_message-at (x ∷ xs) u ys h =
    elim (cases_Bool (is_unh x)) [
      | inl here ↦ rw here refl
      | inr other ↦ rw other (ap (λ rest. x ∷ rest) (before_message-at xs u ys h))
    ]

-- the last UNH begins the last block
pub blocks-at : (xs : List Segment) (u : Segment) (ys : List Segment)
    → is_unh u ≡ true
    → list_any is_unh ys ≡ false
    → blocks (xs ++ u ∷ ys) ≡ blocks xs ++ (u ∷ ys) ∷ []
blocks-at [] u ys h none = rw (h, before_message-none ys none, blocks-none ys none) refl
blocks-at (x ∷ xs) u ys h none =
    elim (cases_Bool (is_unh x)) [
      | inl here ↦ rw (here, before_message-at xs u ys h) (ap (λ rest. (x ∷ before_message xs) ∷ rest) (blocks-at xs u ys h none))
      | inr other ↦ rw other (blocks-at xs u ys h none)
    ]
