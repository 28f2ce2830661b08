-- The head of a request: what bytes begin with by the grammar of HTTP/1.x (RFC 9112, sections 2 to 5), within two
-- limits. The grammar is that of the kit's `httparse`: lines end with CR LF or LF alone, empty lines may come before
-- the request line (both section 2.2), and the version is HTTP/1.0 or HTTP/1.1 (section 2.3).
use Rattle.std.specs.Prelude.{◌≡◌, ℕ, ◌≤◌, List, ◌++◌, length, take, drop, map, Option, Some, None, IsUtf8, ⊤}
use Rattle.httparse.specs.Grammar.{RequestHead, ReadsRequest, print_request}
use Rattle.httparse.specs.Spans.{IsRequestWithin, name_and_value, span_bytes, header_bytes}
use Rattle.httparse.specs.declared.spans.HeaderSpan.{HeaderSpan}
use Rattle.httparse.specs.declared.spans.RequestSpans.{RequestSpans}

-- how many bytes a head has at most, empty lines before it and the one at its end among them
abbrev pub longest_head : ℕ
longest_head = 8192

-- how many fields it has at most
abbrev pub most_fields : ℕ
most_fields = 32

-- what a head says: its method, its target, the names and values of its fields in their order, and the bytes after it
pub record Heading : Type 0 where
  pub method : List ℕ
  pub target : List ℕ
  pub fields : List (List ℕ × List ℕ)
  pub rest : List ℕ

-- the bytes are a head within the limits, and then the rest
pub record HeadStands (bytes : List ℕ) (head : RequestHead) (rest : List ℕ) : Type 0 where
  pub reads : ReadsRequest bytes head rest
  pub short : length (print_request head) ≤ longest_head
  pub few : length head.fields ≤ most_fields

-- what it says; the values are without the blanks and tabs around them (section 5.1)
abbrev pub heading_of : RequestHead → List ℕ → Heading
heading_of head rest = record {
  method = head.method;
  target = head.target;
  fields = map name_and_value head.fields;
  rest = rest;
}

-- what the head at the front of these bytes says, or none if it is wrong, cut, too long, or has too many fields
abbrev pub HeadIs : List ℕ → Option Heading → Type 0
HeadIs bytes None = (head : RequestHead) (rest : List ℕ) → ¬ (HeadStands bytes head rest)
HeadIs bytes (Some heading) =
    (head : RequestHead) × HeadStands bytes head heading.rest × (heading ≡ heading_of head heading.rest)

-- a head with more bytes after it
abbrev pub before : List ℕ → Heading → Heading
before more heading = record heading { rest = heading.rest ++ more }

-- a source of known bytes has given its head, and has the others left; or it has no head
abbrev pub Finds : Option (List ℕ) → Option (List ℕ) → Option Heading → Type 0
Finds None new found = ⊤
Finds (Some known) None found = ⊥
Finds (Some known) (Some left) None = HeadIs known None
Finds (Some known) (Some left) (Some heading) = HeadIs known (Some (before left heading))

-- what spans say of bytes that were read
abbrev pub shown : List ℕ → List HeaderSpan → RequestSpans → Heading
shown read fields spans = record {
  method = span_bytes read spans.method;
  target = span_bytes read spans.path;
  fields = map (header_bytes read) (take spans.headers fields);
  rest = drop spans.len read;
}

-- the spans lie within the bytes, those of fields are few, and that of the target shows text
pub record ShowsHead (read : List ℕ) (fields : List HeaderSpan) (spans : RequestSpans) : Type 0 where
  pub few : spans.headers ≤ most_fields
  pub target : IsUtf8 (span_bytes read spans.path)
  pub within : IsRequestWithin read fields spans
