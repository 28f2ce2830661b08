-- Defines how many bytes the body of a request has, and whether a request was read to its end.
use Rattle.std.specs.Prelude.{◌≡◌, ◌↔◌, ℕ, Bool, true, false, ◌&&◌, ◌==◌, if◌then◌else◌, List, [], ◌∷◌, ◌++◌}
use Rattle.std.specs.Prelude.{length, codes, Option, Some, None, IfSome, Result, Ok, Err}
use Rattle.std.specs.Result.{result_ok}
use Rattle.std.specs.Str.{bytes_eq}
use Rattle.http_messages.specs.Body.{TakesExactly}
use Rattle.http_messages.specs.Fields.{values_of}
use Rattle.http_messages.specs.Head.{Heading, HeadIs}
use Rattle.hub_http.specs.Asked.{encoding_field, length_field, posted_length, size_in}
use Rattle.hub_http.specs.declared.refusal.Refusal.{Refusal}

abbrev pub is_zero : Result ℕ Refusal → Bool
is_zero (Ok size) = size == 0
is_zero (Err refusal) = false

-- none of the length fields is other than 0
abbrev pub none_announced : List (List ℕ) → Bool
none_announced [] = true
none_announced (value ∷ []) = is_zero (size_in value)
none_announced (value ∷ other ∷ values) = false

-- a head without a length above 0 and without pieces announces no body (RFC 9112, section 6.3)
abbrev pub has_no_body : List (List ℕ × List ℕ) → Bool
has_no_body fields =
    length (values_of encoding_field fields) == 0 && none_announced (values_of length_field fields)

-- The number of bytes of a request's body, if it is known. A POST has as many as its one length says. Any other request
-- has none, unless its head announces a body, which is not read.
abbrev pub body_size : Heading → Option ℕ
body_size head =
    if bytes_eq head.method (codes "POST") then result_ok (posted_length head.fields)
    else if has_no_body head.fields then Some 0 else None

-- of what follows a head, exactly a body of this size was taken
abbrev pub TakesBody : Option ℕ → List ℕ → Option (List ℕ) → Type 0
TakesBody None rest after = ⊥
TakesBody (Some size) rest after = TakesExactly (Some rest) after size

-- whether that was so is reported, if it is known what follows the bytes that were read with the head
abbrev pub TellsBody : Option ℕ → List ℕ → Option (List ℕ) → Option (List ℕ) → Bool → Type 0
TellsBody size front known after told =
    IfSome known (λ left. (told ≡ true) ↔ TakesBody size (front ++ left) after)

-- Of the bytes of a connection, of which these are left, exactly one request was read: its head, its body, and nothing
-- after it.
pub record IsReadToEnd (bytes : List ℕ) (after : Option (List ℕ)) : Type 0 where
  pub head : Heading
  pub head_is : HeadIs bytes (Some head)
  pub body : TakesBody (body_size head) head.rest after

-- whether that was so is reported, if the bytes are known
abbrev pub TellsEnd : Option (List ℕ) → Option (List ℕ) → Bool → Type 0
TellsEnd known after told = IfSome known (λ bytes. (told ≡ true) ↔ IsReadToEnd bytes after)
