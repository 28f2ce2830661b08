-- The definitions at small messages.
use Rattle.std.proofs.Common.{◌≡◌, ℕ, List, [], ◌∷◌, None, Ok, Err, codes, refl}
use Rattle.edi_messages.specs.EdiSegments.declared.segment.Segment.{Segment}
use Rattle.edi_messages.specs.EdiEnvelope.declared.interchange.RawMessage.{RawMessage}
use Rattle.edi_messages.proofs.Examples.{segment, one, unh, bgm, lin, uns, unt, buyer, supplier}
use Rattle.edi_orders.specs.Order.{order_of}
use Rattle.edi_orders.specs.Response.{response_of}
use Rattle.edi_orders.specs.declared.response.Answer.{Answer}
use Rattle.edi_orders.specs.declared.response.Answer.TheVariants.{Lines, AllAccepted, AllRefused}
use Rattle.edi_orders.specs.declared.response.LineAnswer.TheVariants.{Changed}
use Rattle.edi_orders.specs.declared.response.Response.{Response}
use Rattle.edi_messages.specs.declared.fault.MessageFault.TheVariants as fault

abbrev dtm : List ℕ → Segment
dtm day = segment (codes "DTM") ((codes "137" ∷ day ∷ codes "102" ∷ []) ∷ [])

abbrev qty : List ℕ → Segment
qty quantity = segment (codes "QTY") ((codes "21" ∷ quantity ∷ []) ∷ [])

abbrev cnt : List ℕ → Segment
cnt number = segment (codes "CNT") ((codes "2" ∷ number ∷ []) ∷ [])

abbrev message : List Segment → RawMessage
message segments = record {
  reference = codes "1";
  kind = codes "ORDERS";
  version = codes "D";
  release = codes "01B";
  agency = codes "UN";
  association = codes "EAN010";
  segments = segments;
}

-- the order with these in the places of its date, its line and its quantity
abbrev order : Segment → Segment → Segment → RawMessage
order date line quantity = message (unh ∷ bgm ∷ date ∷ buyer ∷ supplier ∷ line ∷ quantity ∷ uns ∷ cnt (codes "1") ∷ unt ∷ [])

an_order : order_of (order (dtm (codes "20250603")) (lin (codes "1")) (qty (codes "48"))) ≡ Ok (record {
  number = codes "128576";
  buyer = codes "5412345000013";
  supplier = codes "4012345500004";
  lines = record { line = 1; gtin = codes "04000862141404"; quantity = 48 } ∷ [];
})
unfolding order_of
an_order = refl

quantity_zero : order_of (order (dtm (codes "20250603")) (lin (codes "1")) (qty (codes "0"))) ≡ Err fault.Quantity
unfolding order_of
quantity_zero = refl

no_leap_day : order_of (order (dtm (codes "20250229")) (lin (codes "1")) (qty (codes "48"))) ≡ Err fault.Date
unfolding order_of
no_leap_day = refl

line_zero_before_quantity_zero : order_of (order (dtm (codes "20250603")) (lin (codes "0")) (qty (codes "0"))) ≡ Err fault.Line
unfolding order_of
line_zero_before_quantity_zero = refl

-- two BGM, no DTM and quantity 0
three_faults : order_of
    (message (unh ∷ bgm ∷ bgm ∷ buyer ∷ supplier ∷ lin (codes "1") ∷ qty (codes "0") ∷ uns ∷ cnt (codes "1") ∷ unt ∷ []))
    ≡ Err fault.Beginning
unfolding order_of
three_faults = refl

no_supplier : order_of
    (message (unh ∷ bgm ∷ dtm (codes "20250603") ∷ buyer ∷ lin (codes "1") ∷ supplier ∷ qty (codes "48") ∷ uns ∷ unt ∷ []))
    ≡ Err fault.Parties
unfolding order_of
no_supplier = refl

line_in_the_summary : order_of
    (message (unh ∷ bgm ∷ dtm (codes "20250603") ∷ buyer ∷ supplier ∷ uns ∷ lin (codes "1") ∷ qty (codes "48") ∷ unt ∷ []))
    ≡ Err fault.Summary
unfolding order_of
line_in_the_summary = refl

one_number_twice : order_of (message (unh
    ∷ bgm
    ∷ dtm (codes "20250603")
    ∷ buyer
    ∷ supplier
    ∷ lin (codes "1")
    ∷ qty (codes "48")
    ∷ lin (codes "01")
    ∷ qty (codes "0")
    ∷ uns
    ∷ unt
    ∷ []))
    ≡ Err fault.Line
unfolding order_of
one_number_twice = refl

wrong_control : order_of (message (unh ∷ bgm ∷ dtm (codes "20250603") ∷ buyer ∷ supplier ∷ uns ∷ cnt (codes "1") ∷ unt ∷ []))
    ≡ Err fault.Control
unfolding order_of
wrong_control = refl

no_line : order_of (message (unh ∷ bgm ∷ dtm (codes "20250603") ∷ buyer ∷ supplier ∷ uns ∷ cnt (codes "0") ∷ unt ∷ []))
    ≡ Err fault.WithoutLines
unfolding order_of
no_line = refl

-- a response with this function and these segments after its header
abbrev response : List ℕ → List Segment → RawMessage
response function segments =
    record (message (unh
    ∷ segment (codes "BGM") (one (codes "231") ∷ one (codes "R1") ∷ one function ∷ [])
    ∷ dtm (codes "20250603")
    ∷ segment (codes "RFF") ((codes "ON" ∷ codes "128576" ∷ []) ∷ [])
    ∷ buyer
    ∷ supplier
    ∷ segments)) { kind = codes "ORDRSP" }

abbrev answered : List ℕ → Segment
answered action = segment (codes "LIN") (one (codes "1") ∷ one action ∷ (codes "4000862141404" ∷ codes "SRV" ∷ []) ∷ [])

abbrev delivered : List ℕ → List ℕ → Segment
delivered kind quantity = segment (codes "QTY") ((kind ∷ quantity ∷ []) ∷ [])

-- a response that answers so
abbrev responded : Answer → Response
responded answer = record {
  number = codes "R1";
  buyer = codes "5412345000013";
  supplier = codes "4012345500004";
  order = codes "128576";
  answer = answer;
}

a_change : response_of (response (codes "4") (answered (codes "3") ∷ delivered (codes "113") (codes "36") ∷ uns ∷ unt ∷ []))
    ≡ Ok (responded (Lines (record { order_line = None; gtin = codes "04000862141404"; answer = Changed 36 } ∷ [])))
unfolding response_of
a_change = refl

delivered_goes_before_ordered : response_of (response (codes "9")
    (answered (codes "6") ∷ delivered (codes "113") (codes "0") ∷ delivered (codes "21") (codes "9") ∷ uns ∷ unt ∷ []))
    ≡ Ok (responded (Lines (record { order_line = None; gtin = codes "04000862141404"; answer = Changed 0 } ∷ [])))
unfolding response_of
delivered_goes_before_ordered = refl

all_refused : response_of (response (codes "27") (uns ∷ unt ∷ [])) ≡ Ok (responded AllRefused)
unfolding response_of
all_refused = refl

-- the lines are counted, not read
all_accepted : response_of (response (codes "29") (answered (codes "1") ∷ uns ∷ cnt (codes "1") ∷ unt ∷ [])) ≡ Ok (responded AllAccepted)
unfolding response_of
all_accepted = refl

another_order : response_of (response (codes "4")
    (answered (codes "5") ∷ segment (codes "RFF") ((codes "ON" ∷ codes "128577" ∷ []) ∷ []) ∷ uns ∷ unt ∷ []))
    ≡ Err fault.Reference
unfolding response_of
another_order = refl

no_answered_line : response_of (response (codes "9") (uns ∷ unt ∷ [])) ≡ Err fault.WithoutLines
unfolding response_of
no_answered_line = refl
