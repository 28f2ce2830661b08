-- Finds the body of a response, byte by byte.
use Rattle.std.proofs.Common.{◌≡◌, ℕ, List, [], ◌∷◌, length, Option, Some, None, option_map, unwrap_or, Bor, ap, sym, ◌∙◌, arith}
use Rattle.hub_journal.specs.Reply.{after_head, body_in}

-- the head ends here
pub body_here : (byte : ℕ) (after rest response : List ℕ) → rest ≡ byte ∷ after
    → (found : Option (Bor (List ℕ))) (body : Bor (List ℕ)) → found ≡ Some body
    → option_map (λ it. it.now) found ≡ after_head rest → body_in rest ≡ body_in response → body.now ≡ body_in response
body_here byte after rest response is found body some told so =
    let yes : after_head (byte ∷ after) ≡ Some body.now = ap after_head (sym is) ∙ sym told ∙ ap (option_map (λ it. it.now)) some in
    let step : body_in (byte ∷ after) ≡ body.now = ap (λ it. unwrap_or it (body_in after)) yes in
    sym step ∙ ap body_in (sym is) ∙ so

-- the head does not end here yet
pub body_later : (byte : ℕ) (after rest response : List ℕ) → rest ≡ byte ∷ after
    → (found : Option (Bor (List ℕ))) → found ≡ None
    → option_map (λ it. it.now) found ≡ after_head rest → body_in rest ≡ body_in response → body_in after ≡ body_in response
body_later byte after rest response is found none told so =
    let no : after_head (byte ∷ after) ≡ None = ap after_head (sym is) ∙ sym told ∙ ap (option_map (λ it. it.now)) none in
    let step : body_in (byte ∷ after) ≡ body_in after = ap (λ body. unwrap_or body (body_in after)) no in
    sym step ∙ ap body_in (sym is) ∙ so

-- no bytes are left
pub body_none : (rest response : List ℕ) → length rest ≡ 0 → body_in rest ≡ body_in response → rest ≡ body_in response
body_none [] response none so = so
body_none (byte ∷ rest) response none so = grind (arith, none)
