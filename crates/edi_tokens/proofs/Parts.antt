-- Lists that are spelled part after part.
use Rattle.std.proofs.Common.{◌≡◌, ℕ, List, [], ◌∷◌, ◌++◌, length, refl, sym, ap, ◌∙◌, append_assoc, append-nil}
use Rattle.std.specs.Prelude.{IsTrue}
use Rattle.edi_segments.specs.Characters.{is_line_end}
use Rattle.edi_segments.specs.Spelling.{Each, IsTag, LineEnds}

-- one part more
pub Each-push : {A : Type 0} (R : List ℕ → A → Type 0) (text : List ℕ) (xs : List A) (part : List ℕ) (x : A)
    → Each R text xs
    → R part x
    → Each R (text ++ part) (xs ++ x ∷ [])
Each-push R text [] part x spelled r = (part, [], ap (λ (t : List ℕ). t ++ part) spelled ∙ sym (append-nil part), r, refl)
Each-push R text (y ∷ xs) part x spelled r = (
  spelled.0,
  spelled.1 ++ part,
  ap (λ (t : List ℕ). t ++ part) spelled.2 ∙ append_assoc spelled.0 spelled.1 part,
  spelled.3,
  Each-push R spelled.1 xs part x spelled.4 r,
)

pub LineEnds-push : (text : List ℕ) (b : ℕ) → LineEnds text → IsTrue (is_line_end b) → LineEnds (text ++ b ∷ [])
LineEnds-push [] b ends h = (h, tt)
LineEnds-push (a ∷ text) b ends h = (ends.0, LineEnds-push text b ends.1 h)

-- a text grows by a byte at its end
pub grows : (text front back : List ℕ) (b : ℕ) → text ≡ front ++ back → text ++ b ∷ [] ≡ front ++ (back ++ b ∷ [])
grows text front back b e = ap (λ (t : List ℕ). t ++ b ∷ []) e ∙ append_assoc front back (b ∷ [])

pub tag_length : (tag : List ℕ) → IsTag tag → length tag ≡ 3
tag_length [] is = absurd is
tag_length (a ∷ []) is = absurd is
tag_length (a ∷ b ∷ []) is = absurd is
tag_length (a ∷ b ∷ c ∷ []) is = refl
tag_length (a ∷ b ∷ c ∷ d ∷ others) is = absurd is
