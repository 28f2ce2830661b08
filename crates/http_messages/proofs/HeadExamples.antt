-- Values of fields, bodies and a head, computed.
use Rattle.std.proofs.Common.{◌≡◌, ℕ, List, [], ◌∷◌, Some, None, codes, refl}
use Rattle.http_messages.specs.Fields.{values_of}
use Rattle.http_messages.specs.Body.{body_in}

abbrev fields : List (List ℕ × List ℕ)
fields =
    (codes "Host", codes "hub")
    ∷ (codes "x-hub-key", codes "alpha-key-1")
    ∷ (codes "Content-Length", codes "0")
    ∷ (codes "CONTENT-LENGTH", codes "1")
    ∷ []

one : values_of (codes "X-Hub-Key") fields ≡ codes "alpha-key-1" ∷ []
one = refl

two : values_of (codes "content-length") fields ≡ codes "0" ∷ codes "1" ∷ []
two = refl

none : values_of (codes "X-Hub-Keys") fields ≡ []
none = refl

whole : body_in 3 (codes "abc") ≡ Some (codes "abc")
whole = refl

front : body_in 2 (codes "abc") ≡ Some (codes "ab")
front = refl

empty : body_in 0 [] ≡ Some []
empty = refl

cut : body_in 4 (codes "abc") ≡ None
cut = refl
