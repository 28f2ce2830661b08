-- The place that is told of a text is that of the byte, or of the end, that shows its fault by the grammar.
use Rattle.std.proofs.Common.{◌≡◌, ℕ, ◌<◌, eqb, List, [], ◌∷◌, ◌++◌, length, take, Result, Ok, Err}
use Rattle.std.proofs.Common.{refl, ap, ◌∙◌, arith, inl, inr}
use Rattle.std.proofs.lemmas.List.{take_all, take_at}
use Rattle.std.proofs.lemmas.Bool.{cases_Bool, eqb-true, eqb-false}
use Rattle.edi_segments.specs.declared.fault.TokenFault.{TokenFault}
use Rattle.edi_segments.specs.Spelling.{text_limit}
use Rattle.edi_segments.specs.Reading.{Reading, start, step, run, ◌>>=◌}
use Rattle.edi_tokens.specs.Fault.{ByteShows, EndShows}
use Rattle.edi_tokens.proofs.Exact.{front_at, cut_behind, stops_at}
use Rattle.edi_places.specs.Text.{unless_fault, front, reached, place_behind, text_place}

-- bytes that are all taken
all_taken : (bytes : List ℕ) (r m : Reading) → run r bytes ≡ Ok m → (front r bytes ≡ bytes) × (reached r bytes ≡ m)
all_taken [] r m e = let same : r ≡ m = cc in (refl, same)
all_taken (b ∷ bytes) r m e = through (step r b) e (λ (next : Reading) (h : run next bytes ≡ Ok m). all_taken bytes next m h)
  where
    through : (x : Result Reading TokenFault)
        → (x >>= λ next. run next bytes) ≡ Ok m
        → ((next : Reading) → run next bytes ≡ Ok m → (front next bytes ≡ bytes) × (reached next bytes ≡ m))
        → (unless_fault [] (λ n. b ∷ front n bytes) x ≡ b ∷ bytes) × (unless_fault r (λ n. reached n bytes) x ≡ m)
    through (Ok next) h others = let o = others next h in (ap (λ (l : List ℕ). b ∷ l) o.0, o.1)
    through (Err f) h others = absurd cc

-- bytes behind which one shows a fault
stopped : (bytes rest : List ℕ) (r m : Reading) (b : ℕ) (fault : TokenFault)
    → run r bytes ≡ Ok m
    → step m b ≡ Err fault
    → (front r (bytes ++ b ∷ rest) ≡ bytes) × (reached r (bytes ++ b ∷ rest) ≡ m)
stopped [] rest r m b fault e stops =
    let same : r ≡ m = cc in
    let here : step r b ≡ Err fault = ap (λ (x : Reading). step x b) same ∙ stops in
    (ap (unless_fault [] (λ n. b ∷ front n rest)) here, ap (unless_fault r (λ n. reached n rest)) here ∙ same)
stopped (a ∷ bytes) rest r m b fault e stops =
    through (step r a) e (λ (next : Reading) (h : run next bytes ≡ Ok m). stopped bytes rest next m b fault h stops)
  where
    through : (x : Result Reading TokenFault)
        → (x >>= λ next. run next bytes) ≡ Ok m
        → ((next : Reading) → run next bytes ≡ Ok m
        → (front next (bytes ++ b ∷ rest) ≡ bytes) × (reached next (bytes ++ b ∷ rest) ≡ m))
        → (unless_fault [] (λ n. a ∷ front n (bytes ++ b ∷ rest)) x ≡ a ∷ bytes)
        × (unless_fault r (λ n. reached n (bytes ++ b ∷ rest)) x ≡ m)
    through (Ok next) h others = let o = others next h in (ap (λ (l : List ℕ). a ∷ l) o.0, o.1)
    through (Err f) h others = absurd cc

placed : (bytes taken before : List ℕ) (m : Reading) → take text_limit bytes ≡ taken
    → (front start taken ≡ before) × (reached start taken ≡ m)
    → text_place bytes ≡ place_behind before m
placed bytes taken before m cut both =
    ap (λ (l : List ℕ). place_behind (front start l) (reached start l)) cut
    ∙ ap (λ (l : List ℕ). place_behind l (reached start taken)) both.0
    ∙ ap (place_behind before) both.1

pub place_of_byte : (bytes : List ℕ) (fault : TokenFault) (e : ByteShows bytes fault)
    → text_place bytes ≡ place_behind e.front e.reading
place_of_byte bytes fault e =
    elim (cases_Bool (eqb (length e.front) text_limit)) [
      | inl full ↦
          placed bytes e.front e.front e.reading
          (ap (take text_limit) e.text_is ∙ take_at e.front (e.byte ∷ e.rest) text_limit (eqb-true _ _ full))
          (all_taken e.front start e.reading (front_at e.front e.reading e.front_ends))
      | inr early ↦
          let short : length e.front < text_limit = omega (arith, eqb-false _ _ early, e.is_first) in
          let parts = cut_behind e.front e.byte e.rest text_limit short in
          placed bytes (e.front ++ e.byte ∷ parts.0) e.front e.reading (ap (take text_limit) e.text_is ∙ parts.1)
          (stopped e.front parts.0 start e.reading e.byte fault (front_at e.front e.reading e.front_ends) (stops_at bytes fault e short))
    ]

pub place_of_end : (bytes : List ℕ) (fault : TokenFault) (e : EndShows bytes fault)
    → text_place bytes ≡ place_behind bytes e.reading
place_of_end bytes fault e =
    placed bytes bytes bytes e.reading (take_all text_limit bytes e.is_short)
    (all_taken bytes start e.reading (front_at bytes e.reading e.text_ends))
