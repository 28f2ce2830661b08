-- The head of a response, as the pieces that are put.
use Rattle.std.proofs.Common.{◌≡◌, ℕ, List, [], ◌∷◌, ◌++◌, codes, decimal, append_assoc}
use Rattle.std.proofs.lemmas.List.{append-nil}
use Rattle.std.specs.List.{flat_map}
use Rattle.http.specs.StatusCode.{code_digits}
use Rattle.http_messages.specs.Response.{head_text, phrase_of}

-- all that stands before the length
abbrev pub before_length : ℕ → List ℕ
before_length status =
    flat_map (λ piece. piece)
    (codes "HTTP/1.1 "
    ∷ code_digits status
    ∷ codes " "
    ∷ phrase_of status
    ∷ codes "\r\nContent-Type: application/octet-stream\r\nContent-Length: "
    ∷ [])

-- and behind it
abbrev pub after_length : List ℕ
after_length = codes "\r\nConnection: close\r\n\r\n"

-- pieces are put together by their parts, or by their lines
regroup : (version code blank words kind name digits closing end : List ℕ)
    → (version ++ (code ++ (blank ++ (words ++ (end ++ (kind ++ (end ++ name))))))) ++ (digits ++ (end ++ (closing ++ (end ++ end))))
    ≡ ((version ++ code ++ blank ++ words) ++ end ++ ((kind ++ end) ++ (((name ++ digits) ++ end) ++ ((closing ++ end) ++ [])))) ++ end
regroup version code blank words kind name digits closing end = simp (append_assoc, append-nil)

pub head_pieces : (status size : ℕ) → before_length status ++ (decimal size ++ after_length) ≡ head_text status size
unfolding head_text
head_pieces status size =
    regroup (codes "HTTP/1.1 ") (code_digits status) (codes " ") (phrase_of status) (codes "Content-Type: application/octet-stream")
    (codes "Content-Length: ") (decimal size) (codes "Connection: close") (codes "\r\n")
