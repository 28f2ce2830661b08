-- The definitions at small messages.
use Rattle.std.proofs.Common.{◌≡◌, ℕ, Bool, true, false, List, [], ◌∷◌, Some, None, Ok, Err, codes, refl}
use Rattle.edi_messages.specs.EdiSegments.declared.segment.Segment.{Segment}
use Rattle.edi_messages.specs.EdiEnvelope.declared.interchange.RawMessage.{RawMessage}
use Rattle.edi_messages.specs.declared.fault.MessageFault.TheVariants as fault
use Rattle.edi_goods.specs.declared.receipt.Receipt.{Receipt}
use Rattle.edi_goods.specs.Despatch.{despatch_of}
use Rattle.edi_goods.specs.Receipt.{receipt_of}

abbrev segment : List ℕ → List (List (List ℕ)) → Segment
segment tag elements = record { tag = tag; elements = elements }

abbrev one : List ℕ → List (List ℕ)
one bytes = bytes ∷ []

abbrev unh : Segment
unh = segment (codes "UNH") (one (codes "1") ∷ [])

abbrev bgm : List ℕ → List ℕ → Segment
bgm code number = segment (codes "BGM") (one code ∷ one number ∷ one (codes "9") ∷ [])

abbrev dtm : Segment
dtm = segment (codes "DTM") ((codes "137" ∷ codes "20250604" ∷ codes "102" ∷ []) ∷ [])

abbrev rff : List ℕ → Segment
rff number = segment (codes "RFF") ((codes "ON" ∷ number ∷ []) ∷ [])

abbrev nad : List ℕ → List ℕ → Segment
nad role gln = segment (codes "NAD") (one role ∷ (gln ∷ [] ∷ codes "9" ∷ []) ∷ [])

abbrev cps : Segment
cps = segment (codes "CPS") (one (codes "1") ∷ [])

abbrev pac : Segment
pac = segment (codes "PAC") (one (codes "1") ∷ [])

abbrev gin : List ℕ → Segment
gin sscc = segment (codes "GIN") (one (codes "BJ") ∷ one sscc ∷ [])

abbrev lin : List ℕ → List ℕ → Segment
lin number gtin = segment (codes "LIN") (one number ∷ [] ∷ (gtin ∷ codes "SRV" ∷ []) ∷ [])

abbrev qty : List ℕ → List ℕ → Segment
qty kind quantity = segment (codes "QTY") ((kind ∷ quantity ∷ []) ∷ [])

abbrev unt : Segment
unt = segment (codes "UNT") (one (codes "13") ∷ one (codes "1") ∷ [])

abbrev message : List ℕ → List Segment → RawMessage
message kind segments = record {
  reference = codes "1";
  kind = kind;
  version = codes "D";
  release = codes "01B";
  agency = codes "UN";
  association = codes "EAN007";
  segments = segments;
}

abbrev buyer : Segment
buyer = nad (codes "BY") (codes "5412345000013")

abbrev supplier : Segment
supplier = nad (codes "SU") (codes "4012345500004")

abbrev first : List ℕ
first = codes "340123455000000012"

abbrev second : List ℕ
second = codes "340123455000000029"

abbrev article : List ℕ
article = codes "4000862141404"

-- a despatch advice with these units
abbrev despatch : List Segment → RawMessage
despatch units = message (codes "DESADV") (unh ∷ bgm (codes "351") (codes "DA1") ∷ dtm ∷ rff (codes "128576") ∷ buyer ∷ supplier ∷ units)

a_despatch : despatch_of (despatch (cps ∷ pac ∷ gin first ∷ lin (codes "1") article ∷ qty (codes "12") (codes "12") ∷ unt ∷ []))
    ≡ Ok (record {
      number = codes "DA1";
      buyer = Some (codes "5412345000013");
      supplier = codes "4012345500004";
      units = record {
        sscc = first;
        lines = record { order = codes "128576"; order_line = None; gtin = codes "04000862141404"; quantity = 12 } ∷ [];
      }
          ∷ [];
    })
unfolding despatch_of
a_despatch = refl

-- the line's own order goes before the header's, and a unit without lines is not read
own_order : despatch_of (message (codes "DESADV") (unh
    ∷ bgm (codes "351") (codes "DA1")
    ∷ dtm
    ∷ rff (codes "128576")
    ∷ supplier
    ∷ cps
    ∷ gin (codes "1")
    ∷ cps
    ∷ gin first
    ∷ lin (codes "1") article
    ∷ qty (codes "12") (codes "12")
    ∷ segment (codes "RFF") ((codes "ON" ∷ codes "128577" ∷ codes "02" ∷ []) ∷ []) ∷ unt ∷ [])) ≡ Ok (record {
      number = codes "DA1";
      buyer = None;
      supplier = codes "4012345500004";
      units = record {
        sscc = first;
        lines = record { order = codes "128577"; order_line = Some 2; gtin = codes "04000862141404"; quantity = 12 } ∷ [];
      }
          ∷ [];
    })
unfolding despatch_of
own_order = refl

line_outside_of_units : despatch_of
    (despatch (lin (codes "0") article ∷ cps ∷ gin first ∷ lin (codes "1") article ∷ qty (codes "12") (codes "12") ∷ unt ∷ []))
    ≡ Err fault.Unit
unfolding despatch_of
line_outside_of_units = refl

quantity_of_the_second_unit : despatch_of (despatch (cps
    ∷ lin (codes "1") article
    ∷ qty (codes "12") (codes "12")
    ∷ cps
    ∷ gin second
    ∷ lin (codes "1") article
    ∷ qty (codes "12") (codes "0")
    ∷ unt
    ∷ []))
    ≡ Err fault.Quantity
unfolding despatch_of
quantity_of_the_second_unit = refl

no_order : despatch_of (message (codes "DESADV") (unh
    ∷ bgm (codes "351") (codes "DA1")
    ∷ dtm
    ∷ supplier
    ∷ cps
    ∷ lin (codes "1") article
    ∷ qty (codes "12") (codes "12")
    ∷ unt
    ∷ []))
    ≡ Err fault.Reference
unfolding despatch_of
no_order = refl

wrong_check_digit : despatch_of
    (despatch (cps ∷ gin (codes "340123455000000013") ∷ lin (codes "1") article ∷ qty (codes "12") (codes "12") ∷ unt ∷ []))
    ≡ Err fault.Unit
unfolding despatch_of
wrong_check_digit = refl

one_sscc_twice : despatch_of (despatch (cps
    ∷ gin first
    ∷ lin (codes "1") article
    ∷ qty (codes "12") (codes "12")
    ∷ cps
    ∷ gin first
    ∷ lin (codes "1") article
    ∷ qty (codes "12") (codes "12")
    ∷ unt
    ∷ []))
    ≡ Err fault.Unit
unfolding despatch_of
one_sscc_twice = refl

no_line : despatch_of (despatch (cps ∷ unt ∷ [])) ≡ Err fault.WithoutLines
unfolding despatch_of
no_line = refl

-- a receiving advice of one unit with these lines
abbrev receipt : List Segment → RawMessage
receipt lines = message (codes "RECADV") (unh ∷ bgm (codes "632") (codes "G1") ∷ dtm ∷ buyer ∷ supplier ∷ cps ∷ gin first ∷ lines)

a_receipt : receipt_of (receipt (lin (codes "1") article
    ∷ qty (codes "194") (codes "10")
    ∷ qty (codes "195") (codes "1")
    ∷ lin (codes "2") (codes "4000862141411")
    ∷ qty (codes "194") (codes "3")
    ∷ unt ∷ [])) ≡ Ok (record {
      number = codes "G1";
      buyer = Some (codes "5412345000013");
      supplier = codes "4012345500004";
      replaces = false;
      units = record {
        sscc = first;
        lines = record { gtin = codes "04000862141404"; accepted = 10; returned = 1; destroyed = 0 }
            ∷ record { gtin = codes "04000862141411"; accepted = 3; returned = 0; destroyed = 0 }
            ∷ [];
      }
          ∷ [];
    })
unfolding receipt_of
a_receipt = refl

-- the same unit by an advice with another function
abbrev with_function : List ℕ → RawMessage
with_function code = message (codes "RECADV") (unh
    ∷ segment (codes "BGM") (one (codes "632") ∷ one (codes "G3") ∷ one code ∷ [])
    ∷ dtm ∷ buyer ∷ supplier ∷ cps ∷ gin first ∷ lin (codes "1") article ∷ qty (codes "194") (codes "12") ∷ unt ∷ [])

abbrev replacing : Bool → Receipt
replacing replaces = record {
  number = codes "G3";
  buyer = Some (codes "5412345000013");
  supplier = codes "4012345500004";
  replaces = replaces;
  units = record {
    sscc = first;
    lines = record { gtin = codes "04000862141404"; accepted = 12; returned = 0; destroyed = 0 } ∷ [];
  }
      ∷ [];
}

an_original : receipt_of (with_function (codes "9")) ≡ Ok (replacing false)
unfolding receipt_of
an_original = refl

one_that_replaces : receipt_of (with_function (codes "5")) ≡ Ok (replacing true)
unfolding receipt_of
one_that_replaces = refl

another_function : receipt_of (with_function (codes "4")) ≡ Err fault.Function
unfolding receipt_of
another_function = refl

great_sum : receipt_of (receipt (lin (codes "1") article
    ∷ qty (codes "194") (codes "500000000")
    ∷ lin (codes "2") article
    ∷ qty (codes "194") (codes "500000000")
    ∷ unt
    ∷ []))
    ≡ Err fault.Quantity
unfolding receipt_of
great_sum = refl

no_quantity : receipt_of (receipt (lin (codes "1") article ∷ qty (codes "12") (codes "10") ∷ unt ∷ [])) ≡ Err fault.Quantity
unfolding receipt_of
no_quantity = refl

-- a UNS ends the line group, not the unit, and a LIN after it is of the unit
section_in_a_unit : receipt_of (receipt (lin (codes "1") article
    ∷ qty (codes "194") (codes "10")
    ∷ segment (codes "UNS") []
    ∷ qty (codes "194") (codes "1")
    ∷ lin (codes "2") article
    ∷ unt
    ∷ []))
    ≡ Err fault.Quantity
unfolding receipt_of
section_in_a_unit = refl
