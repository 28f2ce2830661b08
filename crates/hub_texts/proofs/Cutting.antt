-- Splits a text at its line ends.
use Rattle.std.proofs.Common.{◌≡◌, ℕ, suc, ◌+◌, ◌<◌, Bool, true, false, cond, not, List, [], ◌∷◌, ◌++◌, length, take, drop}
use Rattle.std.proofs.Common.{None, refl, sym, ap, ap₂, ◌∙◌, subst, append_assoc, length-drop, arith}
use Rattle.std.specs.List.{AllByRecursion, list_all, prefix_len, slice_split, onto_first}
use Rattle.std.proofs.lemmas.Bool.{and_parts}
use Rattle.std.proofs.lemmas.List.Elements.{All-from_recursion}
use Rattle.std.proofs.lemmas.List.Splits.{slice_split_at}
use Rattle.hub_law.specs.Widths.{line}
use Rattle.hub_texts.specs.Cancel.{is_end, cancel_in}

abbrev pub inside : ℕ → Bool
inside byte = not (is_end byte)

-- the first line, if a line ends
first_cut : (text : List ℕ) (n : ℕ)
    → n ≡ prefix_len inside text
    → n < length text
    → slice_split is_end text ≡ take n text ∷ slice_split is_end (drop 1 (drop n text))
first_cut [] n at within = absurd (omega arith)
first_cut (b ∷ bs) n at within =
    elim (is_end b) as (λ v. n ≡ cond (not v) (1 + prefix_len inside bs) 0
    → cond v ([] ∷ slice_split is_end bs) (onto_first b (slice_split is_end bs))
    ≡ take n (b ∷ bs) ∷ slice_split is_end (drop 1 (drop n (b ∷ bs)))) [
      | true ↦ λ e. subst (λ k. [] ∷ slice_split is_end bs ≡ take k (b ∷ bs) ∷ slice_split is_end (drop 1 (drop k (b ∷ bs)))) (sym e) refl
      | false ↦ λ e.
          let m = prefix_len inside bs in
          let is : n ≡ suc m = omega (arith, e) in
          let short : m < length bs = omega (arith, within, is) in
          subst
          (λ k. onto_first b (slice_split is_end bs) ≡ take k (b ∷ bs) ∷ slice_split is_end (drop 1 (drop k (b ∷ bs))))
          (sym is) (ap (onto_first b) (first_cut bs m refl short))
    ] at

pub cut_at : (text line rest : List ℕ) (n first : ℕ) (after : List ℕ)
    → n ≡ prefix_len inside text
    → line ≡ take n text
    → rest ≡ drop n text
    → rest ≡ first ∷ after
    → slice_split is_end text ≡ line ∷ slice_split is_end after
cut_at text line rest n first after is front back two =
    let long : length (drop n text) ≡ suc (length after) = ap length (sym back ∙ two) in
    let within : n < length text = omega (arith, length-drop n text, long) in
    first_cut text n is within ∙ ap₂ (λ one more. one ∷ slice_split is_end more) (sym front) (ap (drop 1) (sym back ∙ two))

-- the whole text, if no line ends
pub not_cut : (text : List ℕ) → prefix_len inside text ≡ length text → slice_split is_end text ≡ text ∷ []
not_cut [] at = refl
not_cut (b ∷ bs) at =
    elim (is_end b) as (λ v. cond (not v) (1 + prefix_len inside bs) 0 ≡ suc (length bs)
    → cond v ([] ∷ slice_split is_end bs) (onto_first b (slice_split is_end bs)) ≡ (b ∷ bs) ∷ []) [
      | true ↦ λ e. absurd (omega (arith, e))
      | false ↦ λ e. let all : prefix_len inside bs ≡ length bs = omega (arith, e) in ap (onto_first b) (not_cut bs all)
    ] at

cut_somewhere : (text : List ℕ) → (first : List ℕ) × (others : List (List ℕ)) × (slice_split is_end text ≡ first ∷ others)
cut_somewhere [] = ([], [], refl)
cut_somewhere (b ∷ bs) =
    let rest = cut_somewhere bs in
    elim (is_end b) as (λ v. (first : List ℕ)
    × (others : List (List ℕ))
    × (cond v ([] ∷ slice_split is_end bs) (onto_first b (slice_split is_end bs)) ≡ first ∷ others)) [
      | true ↦ ([], slice_split is_end bs, refl)
      | false ↦ (b ∷ rest.0, rest.1, ap (onto_first b) rest.2)
    ]

-- more than five lines are not a cancellation
pub more_after : (a b c d e rest : List ℕ) → 0 < length rest → cancel_in (a ∷ b ∷ c ∷ d ∷ e ∷ slice_split is_end rest) ≡ None
more_after a b c d e [] some = absurd (omega arith)
more_after a b c d e (x ∷ xs) some =
    let cut = cut_somewhere xs in
    elim (is_end x) as
    (λ v. cancel_in (a ∷ b ∷ c ∷ d ∷ e ∷ cond v ([] ∷ slice_split is_end xs) (onto_first x (slice_split is_end xs))) ≡ None) [
      | true ↦ ap (λ parts. cancel_in (a ∷ b ∷ c ∷ d ∷ e ∷ [] ∷ parts)) cut.2
      | false ↦ ap (λ parts. cancel_in (a ∷ b ∷ c ∷ d ∷ e ∷ onto_first x parts)) cut.2
    ]

-- a text whose bytes all pass such a test has no line end
pub in_one_line : (test : ℕ → Bool)
    → ((b : ℕ) → test b ≡ true → is_end b ≡ false)
    → (text : List ℕ)
    → list_all test text ≡ true
    → AllByRecursion (λ b. is_end b ≡ false) text
in_one_line test apart [] all = tt
in_one_line test apart (b ∷ bs) all =
    let parts = and_parts (test b) (list_all test bs) all in (apart b parts.0, in_one_line test apart bs parts.1)

-- a line that comes before others
pub cut_line : (field rest : List ℕ)
    → AllByRecursion (λ b. is_end b ≡ false) field
    → slice_split is_end (line (field ∷ []) ++ rest) ≡ field ∷ slice_split is_end rest
cut_line field rest all =
    ap (slice_split is_end) (append_assoc field (0x0A ∷ []) rest)
    ∙ slice_split_at is_end field 0x0A rest (All-from_recursion (λ b. is_end b ≡ false) field all) refl
