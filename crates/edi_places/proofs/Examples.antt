-- What shows a fault, of small texts.
use Rattle.std.proofs.Common.{◌≡◌, ℕ, List, [], codes, Some, None, Result, Ok, Err, refl}
use Rattle.edi_segments.specs.declared.segment.Segment.{Segment}
use Rattle.edi_segments.specs.declared.segment.Tokens.{Tokens}
use Rattle.edi_segments.specs.declared.fault.TokenFault.{TokenFault}
use Rattle.edi_segments.specs.Reading.{tokens_of}
use Rattle.edi_envelope.specs.declared.fault.EnvelopeFault.TheVariants.{InterchangeFrame, MessageFrame, MessageHeader}
use Rattle.edi_envelope.specs.declared.fault.EnvelopeFault.TheVariants.{SegmentCount, RepeatedReference}
use Rattle.edi_messages.specs.declared.fault.MessageFault.TheVariants as fault
use Rattle.edi_places.specs.Envelope.{envelope_place}
use Rattle.edi_places.specs.Goods.{despatch_place, receipt_place}
use Rattle.edi_places.specs.Orders.{order_place, response_place}
use Rattle.edi_places.specs.Text.{text_place}

a_tag_behind_empty_lines : text_place (codes "UNS+S'\n\nuNS'") ≡ record { offset = 8; line = 3; segment = 2 }
a_tag_behind_empty_lines = refl

a_line_end_in_data : text_place (codes "UNA:+.? '\nUNS+S?\n'") ≡ record { offset = 16; line = 2; segment = 1 }
a_line_end_in_data = refl

a_text_cut : text_place (codes "UNS+S'\nUNS+S") ≡ record { offset = 12; line = 2; segment = 2 }
a_text_cut = refl

a_wrong_service_string : text_place (codes "\nUNA::.? '") ≡ record { offset = 9; line = 2; segment = 1 }
a_wrong_service_string = refl

-- the segments of a text
abbrev segments_in : Result Tokens TokenFault → List Segment
segments_in (Ok tokens) = tokens.segments
segments_in (Err fault) = []

abbrev segments : List ℕ → List Segment
segments text = segments_in (tokens_of text)

no_segment_shows_the_frame : envelope_place InterchangeFrame [] ≡ None
no_segment_shows_the_frame = refl

unb_twice : envelope_place InterchangeFrame (segments (codes "UNB'UNH'UNT'UNB'UNZ'")) ≡ Some 4
unb_twice = refl

no_unz : envelope_place InterchangeFrame (segments (codes "UNB'UNH'UNT'")) ≡ Some 3
no_unz = refl

a_segment_between_messages : envelope_place MessageFrame (segments (codes "UNB'UNH'UNT'BGM'UNH'UNT'UNZ'")) ≡ Some 4
a_segment_between_messages = refl

a_message_without_unt : envelope_place MessageFrame (segments (codes "UNB'UNH'BGM'UNZ'")) ≡ Some 4
a_message_without_unt = refl

a_wrong_type : envelope_place MessageHeader (segments (codes "UNB'UNH+1+A:1:2:3'UNT+2+1'UNH+2'UNT+2+2'UNZ'")) ≡ Some 4
a_wrong_type = refl

a_wrong_count_of_segments : envelope_place SegmentCount (segments (codes "UNB'UNH'UNT+2'UNH'BGM'UNT+2'UNZ'")) ≡ Some 6
a_wrong_count_of_segments = refl

a_repeated_reference : envelope_place RepeatedReference (segments (codes "UNB'UNH+1'UNT'UNH+2'UNT'UNH+1'UNT'UNZ'")) ≡ Some 6
a_repeated_reference = refl

another_beginning : order_place fault.Beginning (segments (codes "UNH'BGM'DTM'BGM'UNT'")) ≡ 4
another_beginning = refl

no_beginning : order_place fault.Beginning (segments (codes "UNH'DTM'BGM'UNT'")) ≡ 2
no_beginning = refl

two_dates : order_place fault.Date (segments (codes "UNH'BGM'DTM+137:x'DTM+2'DTM+137:y'UNT'")) ≡ 5
two_dates = refl

no_date : order_place fault.Date (segments (codes "UNH'BGM'UNS'DTM+137'UNT'")) ≡ 1
no_date = refl

the_buyer_before_the_supplier : order_place fault.Parties (segments (codes "UNH'BGM'NAD+SU'NAD+BY'UNT'")) ≡ 4
the_buyer_before_the_supplier = refl

a_line_behind_uns : order_place fault.Summary (segments (codes "UNH'BGM'UNS+D'LIN'UNT'")) ≡ 4
a_line_behind_uns = refl

one_number_twice :
    order_place fault.Line (segments (codes "UNH'LIN+1++96385074:SRV'LIN+2++96385074:SRV'LIN+01++96385074:SRV'UNT'")) ≡ 4
one_number_twice = refl

no_quantity : order_place fault.Quantity (segments (codes "UNH'LIN'QTY+21:1'LIN'QTY+12:1'UNT'")) ≡ 4
no_quantity = refl

two_quantities : order_place fault.Quantity (segments (codes "UNH'LIN'QTY+21:1'QTY+21:1'UNT'")) ≡ 4
two_quantities = refl

a_line_of_another_order : response_place fault.Reference (segments (codes "UNH'RFF+ON:A'LIN'RFF+ON:A'LIN'QTY'RFF+ON:B'UNT'")) ≡ 7
a_line_of_another_order = refl

no_reference : despatch_place fault.Reference (segments (codes "UNH'CPS+1'LIN'RFF+ON:A'LIN'UNT'")) ≡ 5
no_reference = refl

a_line_outside_of_units : despatch_place fault.Unit (segments (codes "UNH'BGM'LIN'CPS'LIN'UNT'")) ≡ 3
a_line_outside_of_units = refl

one_sscc_in_two_units :
    receipt_place fault.Unit (segments (codes "UNH'CPS+1'GIN+BJ+340123455000000012'LIN'CPS+2'GIN+BJ+340123455000000012'LIN'UNT'")) ≡ 6
one_sscc_in_two_units = refl

the_first_kind_that_is_wrong : receipt_place fault.Quantity (segments (codes "UNH'CPS'LIN'QTY+195:x'QTY+194:x'UNT'")) ≡ 5
the_first_kind_that_is_wrong = refl

two_controls : receipt_place fault.Control (segments (codes "UNH'CNT+1'CNT+2'CNT+2'UNT'")) ≡ 4
two_controls = refl
