-- Follows the search for an order's only line with an article while it walks along the lines.
use Rattle.std.proofs.Common.{◌≡◌, ℕ, ◌+◌, ◌<◌, Bool, true, false, cond, ◌&&◌, List, [], ◌∷◌, length, get_or, drop, filter, slice_get}
use Rattle.std.proofs.Common.{Option, Some, None, is_some, refl, sym, ap, ◌∙◌}
use Rattle.std.specs.Option.{IfSome, IfNone}
use Rattle.std.proofs.lemmas.List.{drop_more}
use Rattle.std.proofs.lemmas.Option.{slice_get-get_or, slice_get_within}
use Rattle.hub_tables.specs.Rows.{same}
use Rattle.hub_tables.specs.State.{the_only}
use Rattle.hub_order_lines.specs.Book.{facts_of}
use Rattle.hub_order_lines.specs.declared.facts.LineFacts.{LineFacts}

module _ (order gtin : List ℕ) where
  abbrev pub of_article : List LineFacts → List LineFacts
  of_article lines = filter (λ line. same line.row.gtin gtin) (facts_of lines order)

  abbrev pub is_it : LineFacts → Bool
  is_it line = same line.row.number order && same line.row.gtin gtin

  -- before a position there is no line with the article, or only the one that was found
  abbrev pub Walked : List LineFacts → ℕ → Option ℕ → Type 0
  Walked lines place None = of_article lines ≡ of_article (drop place lines)
  Walked lines place (Some k) =
      (x : LineFacts) × (slice_get lines k ≡ Some x) × (of_article lines ≡ x ∷ of_article (drop place lines))

  one_more : (line : LineFacts) (rest : List LineFacts)
      → of_article (line ∷ rest) ≡ cond (is_it line) (line ∷ of_article rest) (of_article rest)
  one_more line rest =
      elim (same line.row.number order) as (λ v. filter (λ line. same line.row.gtin gtin)
      (cond v (line ∷ facts_of rest order) (facts_of rest order))
      ≡ cond (v && same line.row.gtin gtin) (line ∷ of_article rest) (of_article rest)) [ true ↦ refl | false ↦ refl ]

  pub stepped : (lines : List LineFacts) (place : ℕ) (line : LineFacts)
      → place < length lines
      → line ≡ get_or lines place line
      → of_article (drop place lines)
      ≡ cond (is_it line) (line ∷ of_article (drop (place + 1) lines)) (of_article (drop (place + 1) lines))
  stepped lines place line within at =
      ap of_article (drop_more lines place line within ∙ ap (λ one. one ∷ drop (place + 1) lines) (sym at))
      ∙ one_more line (drop (place + 1) lines)

  pub passed : (lines : List LineFacts) (place : ℕ) (line : LineFacts) (found : Option ℕ)
      → place < length lines
      → line ≡ get_or lines place line
      → is_it line ≡ false
      → Walked lines place found
      → Walked lines (place + 1) found
  passed lines place line None within at other walked =
      walked ∙ stepped lines place line within at
      ∙ ap (λ v. cond v (line ∷ of_article (drop (place + 1) lines)) (of_article (drop (place + 1) lines))) other
  passed lines place line (Some k) within at other walked = (
    walked.0,
    walked.1,
    walked.2
        ∙ ap (λ rest. walked.0 ∷ rest) (stepped lines place line within at
        ∙ ap (λ v. cond v (line ∷ of_article (drop (place + 1) lines)) (of_article (drop (place + 1) lines))) other),
  )

  pub taken : (lines : List LineFacts) (place : ℕ) (line : LineFacts)
      → place < length lines
      → line ≡ get_or lines place line
      → is_it line ≡ true
      → Walked lines place None
      → Walked lines (place + 1) (Some place)
  taken lines place line within at its walked = (
    line,
    slice_get-get_or lines place line within ∙ ap Some (sym at),
    walked
        ∙ stepped lines place line within at
        ∙ ap (λ v. cond v (line ∷ of_article (drop (place + 1) lines)) (of_article (drop (place + 1) lines))) its,
  )

  pub taken_first : (lines : List LineFacts) (place : ℕ) (line : LineFacts) (found : Option ℕ)
      → place < length lines
      → line ≡ get_or lines place line
      → is_it line ≡ true
      → is_some found ≡ false
      → Walked lines place found
      → Walked lines (place + 1) (Some place)
  taken_first lines place line None within at its none walked = taken lines place line within at its walked
  taken_first lines place line (Some k) within at its none walked = absurd (cc)

  -- one more line is a second one
  pub second : (lines : List LineFacts) (place : ℕ) (line : LineFacts) (found : Option ℕ)
      → place < length lines
      → line ≡ get_or lines place line
      → is_it line ≡ true
      → is_some found ≡ true
      → Walked lines place found
      → the_only (of_article lines) ≡ None
  second lines place line None within at its some walked = absurd (cc)
  second lines place line (Some k) within at its some walked =
      ap the_only (walked.2 ∙ ap (λ rest. walked.0 ∷ rest) (stepped lines place line within at
      ∙ ap (λ v. cond v (line ∷ of_article (drop (place + 1) lines)) (of_article (drop (place + 1) lines))) its))

  -- at the end it is the only one, or there is none
  pub only_one : (lines : List LineFacts) (place : ℕ) (found : Option ℕ) → drop place lines ≡ [] → Walked lines place found
      → IfSome found (λ k. (k < length lines) × (the_only (of_article lines) ≡ slice_get lines k))
  only_one lines place None end walked = tt
  only_one lines place (Some k) end walked = (
    slice_get_within lines k walked.0 walked.1,
    ap the_only (walked.2 ∙ ap (λ rest. walked.0 ∷ of_article rest) end) ∙ sym walked.1,
  )

  pub no_one : (lines : List LineFacts) (place : ℕ) (found : Option ℕ) → drop place lines ≡ [] → Walked lines place found
      → IfNone found (the_only (of_article lines) ≡ None)
  no_one lines place None end walked = ap the_only (walked ∙ ap of_article end)
  no_one lines place (Some k) end walked = tt
