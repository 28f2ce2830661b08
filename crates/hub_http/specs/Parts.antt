-- Defines the parts of a path that are in braces in its route, from the path alone: each begins a number of bytes after
-- the end of the one before it, and ends before the next slash or with the path.
use Rattle.std.specs.Prelude.{ℕ, ◌+◌, ◌-◌, List, [], ◌∷◌, length, max, min, drop}
use Rattle.matchit.specs.Seek.{segment}
use Rattle.matchit.specs.Params.{part_of}
use Rattle.hub_http.specs.declared.route.Route.{Route}
use Rattle.hub_http.specs.declared.route.Route.TheVariants.{Interchanges, MailAfter, MailItem, MailTaken}
use Rattle.hub_http.specs.declared.route.Route.TheVariants.{Status, StatusOf, Cancellations}

-- this many bytes further on, or the end of the path
abbrev pub begin : ℕ → ℕ → ℕ → ℕ
begin skip len at = max at (min (at + skip) len)

-- the position of the next slash
abbrev pub to_slash : List ℕ → ℕ → ℕ
to_slash path at = at + length (segment (drop at path)) - 1

-- the party begins after `/p/`
abbrev pub party_start : List ℕ → ℕ
party_start path = begin 3 (length path) 0

abbrev pub party_end : List ℕ → ℕ
party_end path = to_slash path (party_start path)

abbrev pub party : List ℕ → List ℕ
party path = part_of path (party_start path) (party_end path)

-- the second part begins this many bytes after the party
abbrev pub second_start : ℕ → List ℕ → ℕ
second_start skip path = begin skip (length path) (party_end path)

-- the second part, up to the end of the path
abbrev pub last_part : ℕ → List ℕ → List ℕ
last_part skip path = part_of path (second_start skip path) (length path)

-- the second part, up to the next slash
abbrev pub inner_part : ℕ → List ℕ → List ℕ
inner_part skip path = part_of path (second_start skip path) (to_slash path (second_start skip path))

-- after the party come `/mail/after/`, `/mail/item/` and `/status/`, of 12, 11 and 8 bytes
abbrev pub parts : Route → List ℕ → List (List ℕ)
parts Interchanges path = party path ∷ []
parts MailAfter path = party path ∷ last_part 12 path ∷ []
parts MailItem path = party path ∷ last_part 11 path ∷ []
parts MailTaken path = party path ∷ inner_part 11 path ∷ []
parts Status path = party path ∷ []
parts StatusOf path = party path ∷ last_part 8 path ∷ []
parts Cancellations path = party path ∷ []

-- the first part of a path, and the second, which is empty if there is none
abbrev pub first : List (List ℕ) → List ℕ
first [] = []
first (party ∷ parts) = party

abbrev pub second : List (List ℕ) → List ℕ
second [] = []
second (party ∷ []) = []
second (party ∷ part ∷ parts) = part

abbrev pub part_in : Route → List ℕ → List ℕ
part_in route path = second (parts route path)
