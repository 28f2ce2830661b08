-- Finds the method and the target of a request in the bytes that a client sent.
use Rattle.std.specs.Prelude.{ℕ, ◌+◌, Bool, ◌==◌, ◌||◌, ◌&&◌, not, nat_le, nat_eq, if◌then◌else◌, List, codes, length, drop}
use Rattle.std.specs.Prelude.{Option, Some, None}
use Rattle.std.specs.List.{list_all, prefix_len, take_while, ends_with}
use Rattle.std.specs.Str.{bytes_eq}
use Rattle.hub_journal.specs.declared.request.RequestWords.{RequestWords}

-- a capital letter
abbrev pub is_capital : ℕ → Bool
is_capital byte = nat_le 0x41 byte && nat_le byte 0x5A

-- CR or LF
abbrev pub ends_line : ℕ → Bool
ends_line byte = byte == 0x0D || byte == 0x0A

-- the bytes before the first `end`, or all if there is none
abbrev pub until : ℕ → List ℕ → List ℕ
until end bytes = take_while (λ byte. not (byte == end)) bytes

-- the first line; empty lines before it do not count (RFC 9112, section 2.2)
abbrev pub first_line : List ℕ → List ℕ
first_line bytes = until 0x0D (until 0x0A (drop (prefix_len ends_line bytes) bytes))

-- a method, and a target
abbrev pub MethodAndTarget : Type 0
MethodAndTarget = List ℕ × List ℕ

abbrev pub words_of : RequestWords → MethodAndTarget
words_of request = (request.method.now, request.target.now)

-- The method and the target, if both are valid. A first word that has any byte other than a capital letter, such as the
-- colon of a header field, is not a method.
abbrev pub if_request : MethodAndTarget → Option MethodAndTarget
if_request (method, target) =
    if length method == 0 || (length target == 0 || not (list_all is_capital method)) then None else Some (method, target)

-- the first two words of a line, separated by a space
abbrev pub two_words : List ℕ → MethodAndTarget
two_words line = let first = until 0x20 line in (first, until 0x20 (drop (length first + 1) line))

-- the method and the target of the request that a client sent, if its first line has both
unfoldable pub request_in : List ℕ → Option MethodAndTarget
request_in sent = if_request (two_words (first_line sent))

-- whether the request is an upload or a cancellation
unfoldable pub is_told : MethodAndTarget → Bool
is_told (method, target) =
    bytes_eq method (codes "POST")
    && (ends_with nat_eq target (codes "/interchanges") || ends_with nat_eq target (codes "/cancellations"))
