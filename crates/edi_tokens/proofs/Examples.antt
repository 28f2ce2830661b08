-- The definitions at small texts.
use Rattle.std.proofs.Common.{◌≡◌, [], ◌∷◌, ◌++◌, Ok, Err, refl}
use Rattle.std.specs.Prelude.{codes}
use Rattle.edi_segments.specs.declared.fault.TokenFault.TheVariants.{ServiceString, Byte, Cut, Tag}
use Rattle.edi_segments.specs.Service.{usual, with_decimal}
use Rattle.edi_segments.specs.Reading.{tokens_of}
use Rattle.edi_tokens.specs.Text.{text, una}

empty_text : tokens_of (codes "") ≡ Ok (record { service = usual; segments = [] })
empty_text = refl

a_segment : tokens_of (codes "QTY+21:48'")
    ≡ Ok (record {
      service = usual;
      segments = record { tag = codes "QTY"; elements = (codes "21" ∷ codes "48" ∷ []) ∷ [] } ∷ [];
    })
a_segment = refl

empty_ends_are_dropped : tokens_of (codes "QTY+21:48:+'")
    ≡ Ok (record {
      service = usual;
      segments = record { tag = codes "QTY"; elements = (codes "21" ∷ codes "48" ∷ []) ∷ [] } ∷ [];
    })
empty_ends_are_dropped = refl

empty_in_the_middle : tokens_of (codes "ABC++:x'")
    ≡ Ok
    (record { service = usual; segments = record { tag = codes "ABC"; elements = [] ∷ ([] ∷ codes "x" ∷ []) ∷ [] } ∷ [] })
empty_in_the_middle = refl

released : tokens_of (codes "FTX+a?'b??'")
    ≡ Ok (record { service = usual; segments = record { tag = codes "FTX"; elements = (codes "a'b?" ∷ []) ∷ [] } ∷ [] })
released = refl

no_elements : tokens_of (codes "ABC'") ≡ Ok (record { service = usual; segments = record { tag = codes "ABC"; elements = [] } ∷ [] })
no_elements = refl

service_string_alone : tokens_of (codes "UNA:+.? '") ≡ Ok (record { service = usual; segments = [] })
service_string_alone = refl

comma : tokens_of (codes "UNA:+,? '") ≡ Ok (record { service = with_decimal 44; segments = [] })
comma = refl

cut_tag : tokens_of (codes "UN") ≡ Err Cut
cut_tag = refl

cut_service_string : tokens_of (codes "UNA:+.? ") ≡ Err ServiceString
cut_service_string = refl

wrong_service_string : tokens_of (codes "UNA::.? '") ≡ Err ServiceString
wrong_service_string = refl

small_tag : tokens_of (codes "abc") ≡ Err Tag
small_tag = refl

component_separator_after_tag : tokens_of (codes "ABC:") ≡ Err Tag
component_separator_after_tag = refl

cut_data : tokens_of (codes "ABC+x") ≡ Err Cut
cut_data = refl

cut_release : tokens_of (codes "ABC+x?") ≡ Err Cut
cut_release = refl

una_again : tokens_of (codes "UNA:+.? 'UNA'") ≡ Ok (record { service = usual; segments = record { tag = codes "UNA"; elements = [] } ∷ [] })
una_again = refl

line_end_in_data : tokens_of (codes "ABC+x" ++ 10 ∷ []) ≡ Err Byte
line_end_in_data = refl

line_end_in_tag : tokens_of (codes "AB" ++ 13 ∷ []) ≡ Err Tag
line_end_in_tag = refl

line_ends_between : tokens_of (13 ∷ 10 ∷ codes "UNA:+.? '" ++ 10 ∷ [] ++ codes "ABC'" ++ 13 ∷ [])
    ≡ Ok (record { service = usual; segments = record { tag = codes "ABC"; elements = [] } ∷ [] })
line_ends_between = refl

canonical :
    text (record { tag = codes "FTX"; elements = (codes "a'b?" ∷ [] ∷ codes "c" ∷ []) ∷ [] ∷ (codes "d" ∷ []) ∷ [] } ∷ [])
    ≡ codes "FTX+a?'b??::c++d'"
canonical = refl

service_string : una 46 ≡ codes "UNA:+.? '"
service_string = refl
