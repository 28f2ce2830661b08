-- Computes what some connections ask.
use Rattle.std.proofs.Common.{◌≡◌, List, [], ◌∷◌, ℕ, Some, None, Result, Ok, Err, codes, refl}
use Rattle.hub_requests.specs.declared.request.Request.TheVariants as asks
use Rattle.hub_parties.specs.Rows.{RegisterRows, rows_by}
use Rattle.hub_parties.specs.declared.row.SupplierRow.{SupplierRow}
use Rattle.http_messages.specs.Head.{Heading}
use Rattle.hub_http.specs.declared.route.Route.{Route}
use Rattle.hub_http.specs.declared.route.Route.TheVariants.{Interchanges, MailAfter, MailItem, Status, StatusOf, Cancellations}
use Rattle.hub_http.specs.Asked.{at_route}
use Rattle.hub_http.specs.Question.{Question, and_body, question_of}
use Rattle.hub_http.specs.declared.refusal.Refusal.{Refusal}
use Rattle.hub_http.specs.declared.refusal.Refusal.TheVariants.{BadRequest, Unknown, Method, Denied, Length, TooLarge}

-- a retailer, and a supplier
abbrev retailer : List ℕ
retailer = codes "5412345000013"

abbrev supplier : List ℕ
supplier = codes "4012345500004"

abbrev row : SupplierRow
row = record { gln = supplier; prefixes = codes "40123455" ∷ []; key = codes "alpha-key-1" }

abbrev register : RegisterRows
register = rows_by (codes "5412345000006") retailer (codes "retail-key") (row ∷ [])

abbrev Fields : Type 0
Fields = List (List ℕ × List ℕ)

abbrev key : List ℕ × List ℕ
key = (codes "X-Hub-Key", codes "alpha-key-1")

abbrev the_retailers : List ℕ × List ℕ
the_retailers = (codes "x-hub-key", codes "retail-key")

abbrev size : List ℕ → List ℕ × List ℕ
size digits = (codes "content-length", digits)

abbrev asking : List ℕ → List ℕ → Fields → List ℕ → Heading
asking method target fields rest = record { method = method; target = target; fields = fields; rest = rest }

-- the question on a route
abbrev asked : Route → List (List ℕ) → List ℕ → Fields → List ℕ → Result Question Refusal
asked route parts method fields rest = and_body rest (at_route register (asking method [] fields rest) (Some (route, parts)))

mail_list : asked MailAfter (supplier ∷ codes "0" ∷ []) (codes "GET") (key ∷ []) []
    ≡ Ok (record { gln = supplier; key = codes "alpha-key-1"; request = asks.MailAfter 0 })
mail_list = refl

two_keys : question_of register (Some (asking (codes "GET") (codes "/") (key ∷ key ∷ []) [])) ≡ Err BadRequest
two_keys = refl

a_query : question_of register (Some (asking (codes "GET") (codes "/p/4012345500004/status?x") (key ∷ []) [])) ≡ Err Unknown
a_query = refl

no_head : question_of register None ≡ Err BadRequest
no_head = refl

no_number : asked MailItem (supplier ∷ codes "x" ∷ []) (codes "PUT") [] [] ≡ Err Unknown
no_number = refl

another_method : asked Status (supplier ∷ []) (codes "PUT") [] [] ≡ Err Method
another_method = refl

no_key : asked Status (supplier ∷ []) (codes "GET") [] [] ≡ Err Denied
no_key = refl

another_party : asked Status (codes "8712345000004" ∷ []) (codes "GET") (key ∷ []) [] ≡ Err Denied
another_party = refl

the_retailers_status : asked Status (retailer ∷ []) (codes "GET") (the_retailers ∷ []) [] ≡ Err Denied
the_retailers_status = refl

abbrev upload : Fields → List ℕ → Result Question Refusal
upload fields rest = asked Interchanges (supplier ∷ []) (codes "POST") (key ∷ fields) rest

no_length : upload [] (codes "abcde") ≡ Err Length
no_length = refl

in_pieces : upload ((codes "transfer-encoding", codes "chunked") ∷ size (codes "5") ∷ []) (codes "abcde") ≡ Err Length
in_pieces = refl

no_digits : upload (size (codes "+5") ∷ []) (codes "abcde") ≡ Err BadRequest
no_digits = refl

too_large : upload (size (codes "1048577") ∷ []) [] ≡ Err TooLarge
too_large = refl

thirty_digits : upload (size (codes "999999999999999999999999999999") ∷ []) [] ≡ Err TooLarge
thirty_digits = refl

cut : upload (size (codes "5") ∷ []) (codes "abcd") ≡ Err BadRequest
cut = refl

whole : upload (size (codes "0005") ∷ []) (codes "abcde and more")
    ≡ Ok (record { gln = supplier; key = codes "alpha-key-1"; request = asks.Upload (codes "abcde") })
whole = refl

a_supplier_that_is_none : asked StatusOf (retailer ∷ codes "3512345000006" ∷ []) (codes "GET") (the_retailers ∷ []) [] ≡ Err Unknown
a_supplier_that_is_none = refl

no_line_end :
    asked Cancellations (retailer ∷ []) (codes "POST") (the_retailers ∷ size (codes "28") ∷ [])
    (codes "4012345500004\nC1\n128576\n1\n10") ≡ Err BadRequest
no_line_end = refl
