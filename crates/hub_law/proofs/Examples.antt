-- Shows the hub's machine by examples of two suppliers' messages, with the reply to each input byte by byte.
use Rattle.std.proofs.Common.{◌≡◌, ℕ, true, false, List, [], ◌∷◌, ◌++◌, codes, replicate, refl}
use Rattle.std.specs.Fmt.{digits}
use Rattle.std.specs.List.{flat_map}
use Rattle.edi_envelope.specs.Interchange.{interchange_of, fault_of, contents_of, is_framed, is_row_of_messages, is_outside_set}
use Rattle.edi_moment.specs.Moment.{day_at}
use Rattle.edi_orders.specs.Order.{order_of}
use Rattle.edi_orders.specs.Response.{response_of}
use Rattle.edi_goods.specs.Despatch.{despatch_of}
use Rattle.edi_goods.specs.Receipt.{receipt_of}
use Rattle.hub_parties.specs.declared.row.SupplierRow.{SupplierRow}
use Rattle.hub_parties.specs.Rows.{RegisterRows}
use Rattle.hub_tables.specs.Cases.{kind_letter, truth_number}
use Rattle.hub_tables.specs.Register.{founded}
use Rattle.hub_tables.specs.declared.cases.MailKind.TheVariants as kinds
use Rattle.hub_tables.specs.declared.rows.MailRow.{MailRow}
use Rattle.hub_law.specs.Machine.{Inputs, shared_run}
use Rattle.hub_law.specs.MailText.{entry_text, list_text}
use Rattle.hub_law.specs.Mark.{Whole, StoppedEmpty, StoppedBare, StoppedAfter}
use Rattle.hub_law.specs.Opening.{interchange_in}
use Rattle.hub_law.specs.Replies.{reply, done}
use Rattle.hub_law.specs.StatusText.{status_text}
use Rattle.hub_requests.specs.declared.reply.Outcome.TheVariants.{Bad, Denied, Unknown, Stopped}
use Rattle.hub_requests.specs.declared.reply.Reply.{Reply}
use Rattle.hub_requests.specs.declared.request.Request.TheVariants as requests
use Rattle.hub_law.proofs.InExamples.{retailer, beta, register_with, by_retailer, by, lines, refused}

abbrev alpha : SupplierRow
alpha = record { gln = codes "4012345500004"; prefixes = codes "40123455" ∷ []; key = codes "alpha-key-1" }

abbrev register : RegisterRows
register = register_with (alpha ∷ beta ∷ [])

-- segments, each ended by CR LF
abbrev spelled : List (List ℕ) → List ℕ
spelled segments = flat_map (λ text. text ++ 0x0D ∷ 0x0A ∷ []) segments

abbrev bad : List ℕ → Reply
bad code = record { outcome = Bad; refused = true; body = lines ((codes "refused " ++ code) ∷ []) }

abbrev replies : Inputs → List Reply
replies inputs = (shared_run (founded register) inputs).0

abbrev first_order : List ℕ
first_order =
    codes "UNA:+.? 'UNB+UNOC:3+5412345000013:14+5412345000006:14+250603:0915+1001'UNH+1+ORDERS:D:01B:UN:EAN010'"
    ++ codes "BGM+220+128576+9'DTM+137:20250603:102'NAD+BY+5412345000013::9'NAD+SU+4012345500004::9'"
    ++ codes "LIN+1++4000862141404:SRV'QTY+21:48'UNS+S'CNT+2:1'UNT+10+1'UNZ+1+1001'"

abbrev respelled : List ℕ
respelled =
    spelled (codes "UNA*|,! ~"
    ∷ codes "UNB|UNOC*3|5412345000013*14|5412345000006*14|250603*0915|1001~"
    ∷ codes "UNH|1|ORDERS*D*01B*UN*EAN010~"
    ∷ codes "BGM|220|128576|9~"
    ∷ codes "DTM|137*20250603*102~"
    ∷ codes "NAD|BY|5412345000013**9~"
    ∷ codes "NAD|SU|4012345500004**9~"
    ∷ codes "LIN|1||4000862141404*SRV~"
    ∷ codes "QTY|21*48~"
    ∷ codes "UNS|S~"
    ∷ codes "CNT|2*1~"
    ∷ codes "UNT|10|1~"
    ∷ codes "UNZ|1|1001~"
    ∷ [])

abbrev second_order : List ℕ
second_order =
    spelled (codes "UNA*|,! ~"
    ∷ codes "UNB|UNOC*3|5412345000013*14|5412345000006*14|250603*0915|1002~"
    ∷ codes "UNH|1|ORDERS*D*01B*UN*EAN010~"
    ∷ codes "BGM|220|128577|9~"
    ∷ codes "DTM|137*20250603*102~"
    ∷ codes "FTX|AAI|||Dock 3+4, O'Neill?~"
    ∷ codes "NAD|BY|5412345000013**9~"
    ∷ codes "NAD|SU|4012345500004**9~"
    ∷ codes "LIN|1||4000862141404*SRV~"
    ∷ codes "QTY|21*30~"
    ∷ codes "UNS|S~"
    ∷ codes "CNT|2*1~"
    ∷ codes "UNT|11|1~"
    ∷ codes "UNZ|1|1002~"
    ∷ [])

abbrev answer : List ℕ
answer =
    codes "UNB+UNOC:3+4012345500004:14+5412345000006:14+250603:1000+S1'UNH+1+ORDRSP:D:01B:UN:EAN009'"
    ++ codes "BGM+231+R1+4'DTM+137:20250603:102'RFF+ON:128576'NAD+BY+5412345000013::9'NAD+SU+4012345500004::9'"
    ++ codes "LIN+1+3+4000862141404:SRV'QTY+113:36'UNS+S'UNT+10+1'UNZ+1+S1'"

abbrev advice : List ℕ
advice =
    codes "UNB+UNOC:3+4012345500004:14+5412345000006:14+250604:0800+S2'UNH+1+DESADV:D:01B:UN:EAN007'"
    ++ codes "BGM+351+DA1+9'DTM+137:20250604:102'RFF+ON:128576'NAD+BY+5412345000013::9'NAD+SU+4012345500004::9'"
    ++ codes "CPS+1'PAC+1'PCI+33E'GIN+BJ+340123455000000012'LIN+1++4000862141404:SRV'QTY+12:12'UNT+13+1'UNZ+1+S2'"

abbrev second_advice : List ℕ
second_advice =
    codes "UNB+UNOC:3+4012345500004:14+5412345000006:14+250604:0800+S6'UNH+1+DESADV:D:01B:UN:EAN007'"
    ++ codes "BGM+351+DA4+9'DTM+137:20250604:102'RFF+ON:128577'NAD+BY+5412345000013::9'NAD+SU+4012345500004::9'"
    ++ codes "CPS+1'PAC+1'PCI+33E'GIN+BJ+340123455000000029'LIN+1++4000862141404:SRV'QTY+12:12'UNT+13+1'UNZ+1+S6'"

abbrev refusal : List ℕ
refusal =
    codes "UNB+UNOC:3+4012345500004:14+5412345000006:14+250603:1000+S7'UNH+1+ORDRSP:D:01B:UN:EAN009'"
    ++ codes "BGM+231+R2+27'DTM+137:20250603:102'RFF+ON:128577'NAD+BY+5412345000013::9'NAD+SU+4012345500004::9'"
    ++ codes "UNS+S'UNT+8+1'UNZ+1+S7'"

abbrev receipt : List ℕ
receipt =
    codes "UNB+UNOC:3+5412345000013:14+5412345000006:14+250605:0900+1005'UNH+1+RECADV:D:01B:UN:EAN005'"
    ++ codes "BGM+632+G1+9'DTM+137:20250605:102'NAD+BY+5412345000013::9'NAD+SU+4012345500004::9'CPS+1'PAC+1'"
    ++ codes "PCI+33E'GIN+BJ+340123455000000012'LIN+1++4000862141404:SRV'QTY+194:10'QTY+195:1'"
    ++ codes "LIN+2++4000862141411:SRV'QTY+194:3'UNT+15+1'UNZ+1+1005'"

abbrev two_orders : List ℕ
two_orders =
    codes "UNA:+.? 'UNB+UNOC:3+5412345000013:14+5412345000006:14+250603:0915+1001'UNH+1+ORDERS:D:01B:UN:EAN010'"
    ++ codes "BGM+220+128576+9'DTM+137:20250603:102'NAD+BY+5412345000013::9'NAD+SU+8712345000004::9'"
    ++ codes "LIN+1++4000862141404:SRV'QTY+21:0'UNS+S'CNT+2:1'UNT+10+1'UNH+2+ORDERS:D:01B:UN:EAN010'"
    ++ codes "BGM+220+128576+9'DTM+137:20250603:102'NAD+BY+5412345000013::9'NAD+SU+4012345500004::9'"
    ++ codes "LIN+1++4000862141404:SRV'QTY+21:48'UNS+S'CNT+2:1'UNT+10+2'UNZ+2+1001'"

-- an order, the same with other separators, with another quantity, and a second order; then faults of envelopes and
-- texts
orders_come : replies (
    by_retailer (requests.Upload (first_order))
    ∷ by_retailer (requests.Upload (respelled))
    ∷ by_retailer (requests.Upload
    (codes "UNA:+.? 'UNB+UNOC:3+5412345000013:14+5412345000006:14+250603:0915+1001'UNH+1+ORDERS:D:01B:UN:EAN010'"
    ++ codes "BGM+220+128576+9'DTM+137:20250603:102'NAD+BY+5412345000013::9'NAD+SU+4012345500004::9'"
    ++ codes "LIN+1++4000862141404:SRV'QTY+21:49'UNS+S'CNT+2:1'UNT+10+1'UNZ+1+1001'"))
    ∷ by_retailer (requests.Upload (second_order))
    ∷ by_retailer (requests.Upload
    (codes "UNA:+.? 'UNB+UNOC:3+5412345000013:14+5412345000006:14+250603:0915+1003'UNH+1+ORDERS:D:01B:UN:EAN010'"
    ++ codes "BGM+220+128576+9'DTM+137:20250603:102'NAD+BY+5412345000013::9'NAD+SU+4012345500004::9'"
    ++ codes "LIN+1++4000862141404:SRV'QTY+21:48'UNS+S'CNT+2:1'UNT+9+1'UNZ+1+1003'"))
    ∷ by_retailer (requests.Upload
    (codes "UNA:+.? 'UNB+UNOC:3+5412345000013:14+5412345000006:14+250603:0915+1001'UNH+1+ORDERS:D:01B:UN:EAN010'"
    ++ codes "BGM+220+128576+9'DTM+137:20250603:102'NAD+BY+5412345000013::9'NAD+SU+4012345500004::9'"
    ++ codes "LIN+1++4000862141404:SRV'QTY+21:4"))
    ∷ by_retailer (requests.Upload ([]))
    ∷ by_retailer (requests.Upload (codes "UNA:+.? 'UNB+UNOC:3+5412345000013:14+5412345000006:14+250603:0915+1004'UNZ+0+1004'"))
    ∷ by alpha (requests.MailAfter 0)
    ∷ by alpha (requests.MailTaken 1)
    ∷ by alpha (requests.MailTaken 1)
    ∷ by alpha (requests.MailAfter 0)
    ∷ by beta (requests.MailAfter 0)
    ∷ by beta requests.Status ∷ []) ≡ (
    done (lines (codes "interchange 1001 messages 1" ∷ codes "1 ORDERS accepted" ∷ []))
    ∷ done (lines (codes "interchange 1001 messages 1" ∷ codes "1 ORDERS repeated" ∷ []))
    ∷ refused (codes "interchange 1001 messages 1" ∷ codes "1 ORDERS refused B03" ∷ [])
    ∷ done (lines (codes "interchange 1002 messages 1" ∷ codes "1 ORDERS accepted" ∷ []))
    ∷ bad (codes "E12")
    ∷ bad (codes "E04")
    ∷ bad (codes "E06")
    ∷ done (lines (codes "interchange 1004 messages 0" ∷ []))
    ∷ done (lines (codes "             1 ORDERS 128576" ∷ codes "             2 ORDERS 128577" ∷ codes "end" ∷ []))
    ∷ done (lines (codes "taken" ∷ []))
    ∷ done (lines (codes "taken" ∷ []))
    ∷ done (lines (codes "             2 ORDERS 128577" ∷ codes "end" ∷ []))
    ∷ done (lines (codes "end" ∷ []))
    ∷ done (lines (codes "end" ∷ [])) ∷ [])
unfolding interchange_in interchange_of fault_of contents_of is_framed is_row_of_messages is_outside_set order_of
    response_of despatch_of receipt_of entry_text list_text status_text digits
orders_come = refl

-- the status after the despatches and the receipt below, given the open, refused, cancelled and despatched quantities
-- of the first line
abbrev status_where : List ℕ → List ℕ
status_where first = lines (
    (codes "L 128576                                   1 04000862141404 C        48" ++ first)
    ∷ codes
    "L 128577                                   1 04000862141404 N        30         0        18         0        12"
    ∷ codes
    "P 340123455000000012 04000862141404 R             12             10              1              0              -1"
    ∷ codes
    "P 340123455000000012 04000862141411 R              0              3              0              0              +3"
    ∷ codes
    "P 340123455000000029 04000862141404 A             12              0              0              0              +0"
    ∷ codes "end"
    ∷ []
    )

-- answers, despatches and a receipt for these two orders; the status after them; and cancellations
goods_come : replies (
    by_retailer (requests.Upload (first_order))
    ∷ by_retailer (requests.Upload (second_order))
    ∷ by alpha (requests.Upload (answer))
    ∷ by alpha (requests.Upload (advice))
    ∷ by alpha
    (requests.Upload (codes "UNB+UNOC:3+4012345500004:14+5412345000006:14+250604:0800+S3'UNH+1+DESADV:D:01B:UN:EAN007'"
    ++ codes "BGM+351+DA2+9'DTM+137:20250604:102'RFF+ON:128576'NAD+BY+5412345000013::9'NAD+SU+4012345500004::9'"
    ++ codes "CPS+1'PAC+1'PCI+33E'GIN+BJ+340123455000000029'LIN+1++4000862141404:SRV'QTY+12:20'"
    ++ codes "LIN+2++4000862141404:SRV'QTY+12:5'UNT+15+1'UNZ+1+S3'"))
    ∷ by alpha
    (requests.Upload (codes "UNB+UNOC:3+4012345500004:14+5412345000006:14+250604:0800+S4'UNH+1+DESADV:D:01B:UN:EAN007'"
    ++ codes "BGM+351+DA3+9'DTM+137:20250604:102'RFF+ON:128576'NAD+BY+5412345000013::9'NAD+SU+4012345500004::9'"
    ++ codes "CPS+1'PAC+1'PCI+33E'GIN+BJ+340123455000000012'LIN+1++4000862141404:SRV'QTY+12:1'UNT+13+1'UNZ+1+S4'"))
    ∷ by alpha
    (requests.Upload (codes "UNB+UNOC:3+4012345500004:14+5412345000006:14+250604:0800+S5'UNH+1+DESADV:D:01B:UN:EAN007'"
    ++ codes "BGM+351+DA3+9'DTM+137:20250604:102'RFF+ON:128576'NAD+BY+5412345000013::9'NAD+SU+4012345500004::9'"
    ++ codes "CPS+1'PAC+1'PCI+33E'GIN+BJ+387123450000000012'LIN+1++4000862141404:SRV'QTY+12:1'UNT+13+1'UNZ+1+S5'"))
    ∷ by alpha (requests.Upload (second_advice))
    ∷ by alpha (requests.Upload (refusal))
    ∷ by_retailer (requests.Upload (receipt))
    ∷ by_retailer
    (requests.Upload (codes "UNB+UNOC:3+5412345000013:14+5412345000006:14+250605:0900+1006'UNH+1+RECADV:D:01B:UN:EAN005'"
    ++ codes "BGM+632+G2+9'DTM+137:20250605:102'NAD+BY+5412345000013::9'NAD+SU+4012345500004::9'CPS+1'PAC+1'"
    ++ codes "PCI+33E'GIN+BJ+340123455000000012'LIN+1++4000862141404:SRV'QTY+194:10'QTY+195:1'"
    ++ codes "LIN+2++4000862141411:SRV'QTY+194:3'UNT+15+1'UNZ+1+1006'"))
    ∷ by alpha requests.Status
    ∷ by_retailer (requests.StatusOf alpha.gln)
    ∷ by_retailer (requests.Cancel
    (record { supplier = alpha.gln; reference = codes "C1"; order = codes "128576"; line = 1; quantity = 10 }))
    ∷ by_retailer (requests.Cancel
    (record { supplier = alpha.gln; reference = codes "C1"; order = codes "128576"; line = 1; quantity = 10 }))
    ∷ by_retailer (requests.Cancel
    (record { supplier = alpha.gln; reference = codes "C2"; order = codes "128576"; line = 1; quantity = 15 }))
    ∷ by_retailer (requests.Cancel
    (record { supplier = alpha.gln; reference = codes "C1"; order = codes "128576"; line = 1; quantity = 11 }))
    ∷ by_retailer (requests.Cancel (record {
      supplier = codes "4006381000000";
      reference = codes "C3";
      order = codes "128576";
      line = 1;
      quantity = 1;
    }))
    ∷ by alpha requests.Status
    ∷ by alpha (requests.MailAfter 0) ∷ []) ≡ (
    done (lines (codes "interchange 1001 messages 1" ∷ codes "1 ORDERS accepted" ∷ []))
    ∷ done (lines (codes "interchange 1002 messages 1" ∷ codes "1 ORDERS accepted" ∷ []))
    ∷ done (lines (codes "interchange S1 messages 1" ∷ codes "1 ORDRSP accepted" ∷ []))
    ∷ done (lines (codes "interchange S2 messages 1" ∷ codes "1 DESADV accepted" ∷ []))
    ∷ refused (codes "interchange S3 messages 1" ∷ codes "1 DESADV refused B10" ∷ [])
    ∷ refused (codes "interchange S4 messages 1" ∷ codes "1 DESADV refused B12" ∷ [])
    ∷ refused (codes "interchange S5 messages 1" ∷ codes "1 DESADV refused B11" ∷ [])
    ∷ done (lines (codes "interchange S6 messages 1" ∷ codes "1 DESADV accepted" ∷ []))
    ∷ done (lines (codes "interchange S7 messages 1" ∷ codes "1 ORDRSP accepted" ∷ []))
    ∷ done (lines (codes "interchange 1005 messages 1" ∷ codes "1 RECADV accepted" ∷ []))
    ∷ refused (codes "interchange 1006 messages 1" ∷ codes "1 RECADV refused B15" ∷ [])
    ∷ done (status_where (codes "        24        12         0        12"))
    ∷ done (status_where (codes "        24        12         0        12"))
    ∷ done (lines (codes "accepted" ∷ []))
    ∷ done (lines (codes "repeated" ∷ []))
    ∷ refused (codes "refused B17" ∷ [])
    ∷ refused (codes "refused B03" ∷ [])
    ∷ refused (codes "refused B02" ∷ [])
    ∷ done (status_where (codes "        14        12        10        12"))
    ∷ done (lines (codes "             1 ORDERS 128576"
    ∷ codes "             2 ORDERS 128577"
    ∷ codes "             3 RECADV G1"
    ∷ codes "end"
    ∷ []))
    ∷ [])
unfolding interchange_in interchange_of fault_of contents_of is_framed is_row_of_messages is_outside_set order_of
    response_of despatch_of receipt_of entry_text list_text status_text digits
goods_come = refl

-- a receipt of the first pallet, by an advice with this function; and one that does not mention the second article
abbrev receipt_by : List ℕ → List ℕ → List ℕ → List ℕ
receipt_by control number function =
    codes "UNB+UNOC:3+5412345000013:14+5412345000006:14+250605:0900+" ++ control
    ++ codes "'UNH+1+RECADV:D:01B:UN:EAN005'BGM+632+" ++ number ++ codes "+" ++ function
    ++ codes "'DTM+137:20250605:102'NAD+BY+5412345000013::9'NAD+SU+4012345500004::9'CPS+1'PAC+1'"
    ++ codes "PCI+33E'GIN+BJ+340123455000000012'LIN+1++4000862141404:SRV'QTY+194:12'UNT+12+1'UNZ+1+"
    ++ control ++ codes "'"

abbrev status_corrected : List ℕ
status_corrected = lines (
    codes "L 128576                                   1 04000862141404 C        48        24        12         0        12"
    ∷ codes
    "P 340123455000000012 04000862141404 C             12             12              0              0              +0"
    ∷ codes "end"
    ∷ []
    )

-- An advice that replaces: nothing received before remains. It may be sent again, and one that does not replace may
-- not.
receipt_is_replaced : replies (
    by_retailer (requests.Upload (first_order))
    ∷ by alpha (requests.Upload (answer))
    ∷ by_retailer (requests.Upload (receipt_by (codes "1004") (codes "G0") (codes "5")))
    ∷ by alpha (requests.Upload (advice))
    ∷ by_retailer (requests.Upload (receipt))
    ∷ by_retailer (requests.Upload (receipt_by (codes "1006") (codes "G2") (codes "9")))
    ∷ by_retailer (requests.Upload (receipt_by (codes "1007") (codes "G3") (codes "5")))
    ∷ by alpha requests.Status
    ∷ by_retailer (requests.Upload (receipt_by (codes "1008") (codes "G4") (codes "9")))
    ∷ by_retailer (requests.Upload (receipt_by (codes "1009") (codes "G5") (codes "5")))
    ∷ by_retailer (requests.StatusOf alpha.gln)
    ∷ by alpha (requests.MailAfter 0) ∷ []) ≡ (
    done (lines (codes "interchange 1001 messages 1" ∷ codes "1 ORDERS accepted" ∷ []))
    ∷ done (lines (codes "interchange S1 messages 1" ∷ codes "1 ORDRSP accepted" ∷ []))
    ∷ refused (codes "interchange 1004 messages 1" ∷ codes "1 RECADV refused B14" ∷ [])
    ∷ done (lines (codes "interchange S2 messages 1" ∷ codes "1 DESADV accepted" ∷ []))
    ∷ done (lines (codes "interchange 1005 messages 1" ∷ codes "1 RECADV accepted" ∷ []))
    ∷ refused (codes "interchange 1006 messages 1" ∷ codes "1 RECADV refused B15" ∷ [])
    ∷ done (lines (codes "interchange 1007 messages 1" ∷ codes "1 RECADV accepted" ∷ []))
    ∷ done status_corrected
    ∷ refused (codes "interchange 1008 messages 1" ∷ codes "1 RECADV refused B15" ∷ [])
    ∷ done (lines (codes "interchange 1009 messages 1" ∷ codes "1 RECADV accepted" ∷ []))
    ∷ done status_corrected
    ∷ done (lines (codes "             1 ORDERS 128576"
    ∷ codes "             2 RECADV G1"
    ∷ codes "             3 RECADV G3"
    ∷ codes "             4 RECADV G5"
    ∷ codes "end"
    ∷ []))
    ∷ [])
unfolding interchange_in interchange_of fault_of contents_of is_framed is_row_of_messages is_outside_set order_of
    response_of despatch_of receipt_of entry_text list_text status_text digits
receipt_is_replaced = refl

-- each kind of message sent again
what_was_accepted_is_repeated : replies (
    by_retailer (requests.Upload (first_order))
    ∷ by alpha (requests.Upload (answer))
    ∷ by alpha (requests.Upload (answer))
    ∷ by alpha (requests.Upload (advice))
    ∷ by alpha (requests.Upload (advice))
    ∷ by_retailer (requests.Upload (receipt))
    ∷ by_retailer (requests.Upload (receipt))
    ∷ by_retailer (requests.Upload (first_order)) ∷ []) ≡ (
    done (lines (codes "interchange 1001 messages 1" ∷ codes "1 ORDERS accepted" ∷ []))
    ∷ done (lines (codes "interchange S1 messages 1" ∷ codes "1 ORDRSP accepted" ∷ []))
    ∷ done (lines (codes "interchange S1 messages 1" ∷ codes "1 ORDRSP repeated" ∷ []))
    ∷ done (lines (codes "interchange S2 messages 1" ∷ codes "1 DESADV accepted" ∷ []))
    ∷ done (lines (codes "interchange S2 messages 1" ∷ codes "1 DESADV repeated" ∷ []))
    ∷ done (lines (codes "interchange 1005 messages 1" ∷ codes "1 RECADV accepted" ∷ []))
    ∷ done (lines (codes "interchange 1005 messages 1" ∷ codes "1 RECADV repeated" ∷ []))
    ∷ done (lines (codes "interchange 1001 messages 1" ∷ codes "1 ORDERS repeated" ∷ [])) ∷ [])
unfolding interchange_in interchange_of fault_of contents_of is_framed is_row_of_messages is_outside_set order_of
    response_of despatch_of receipt_of entry_text list_text status_text digits
what_was_accepted_is_repeated = refl

-- two suppliers' orders with the same number and the same references; each mailbox begins at 1
suppliers_have_their_own_orders : replies (
    by_retailer (requests.Upload
    (codes "UNA:+.? 'UNB+UNOC:3+5412345000013:14+5412345000006:14+250603:0915+1001'UNH+1+ORDERS:D:01B:UN:EAN010'"
    ++ codes "BGM+220+128576+9'DTM+137:20250603:102'NAD+BY+5412345000013::9'NAD+SU+8712345000004::9'"
    ++ codes "LIN+1++4000862141404:SRV'QTY+21:48'UNS+S'CNT+2:1'UNT+10+1'UNZ+1+1001'"))
    ∷ by_retailer (requests.Upload (first_order))
    ∷ by alpha (requests.MailAfter 0)
    ∷ by beta (requests.MailAfter 0) ∷ []) ≡ (
    done (lines (codes "interchange 1001 messages 1" ∷ codes "1 ORDERS accepted" ∷ []))
    ∷ done (lines (codes "interchange 1001 messages 1" ∷ codes "1 ORDERS accepted" ∷ []))
    ∷ done (lines (codes "             1 ORDERS 128576" ∷ codes "end" ∷ []))
    ∷ done (lines (codes "             1 ORDERS 128576" ∷ codes "end" ∷ [])) ∷ [])
unfolding interchange_in interchange_of fault_of contents_of is_framed is_row_of_messages is_outside_set order_of
    response_of despatch_of receipt_of entry_text list_text status_text digits
suppliers_have_their_own_orders = refl

-- an invalid message beside a valid one; and an invalid envelope, which refuses both
each_message_is_by_itself : replies (
    by_retailer (requests.Upload
    (codes "UNA:+.? 'UNB+UNOC:3+5412345000013:14+5412345000006:14+250603:0915+1001'UNH+1+ORDERS:D:01B:UN:EAN010'"
    ++ codes "BGM+220+128576+9'DTM+137:20250603:102'NAD+BY+5412345000013::9'NAD+SU+8712345000004::9'"
    ++ codes "LIN+1++4000862141404:SRV'QTY+21:0'UNS+S'CNT+2:1'UNT+9+1'UNH+2+ORDERS:D:01B:UN:EAN010'"
    ++ codes "BGM+220+128576+9'DTM+137:20250603:102'NAD+BY+5412345000013::9'NAD+SU+4012345500004::9'"
    ++ codes "LIN+1++4000862141404:SRV'QTY+21:48'UNS+S'CNT+2:1'UNT+10+2'UNZ+2+1001'"))
    ∷ by alpha requests.Status
    ∷ by_retailer (requests.Upload (two_orders)) ∷ []) ≡ (
    bad (codes "E12")
    ∷ done (lines (codes "end" ∷ []))
    ∷ refused (codes "interchange 1001 messages 2" ∷ codes "1 ORDERS refused M08" ∷ codes "2 ORDERS accepted" ∷ []) ∷ [])
unfolding interchange_in interchange_of fault_of contents_of is_framed is_row_of_messages is_outside_set order_of
    response_of despatch_of receipt_of entry_text list_text status_text digits
each_message_is_by_itself = refl

-- stopped before anything, after its first message, after as many as it has, and not at all
an_upload_is_stopped : replies (
    ((record { moment = 1_748_942_400; caller = retailer; key = codes "retail-key"; request = requests.Upload two_orders }), StoppedEmpty)
    ∷ ((record { moment = 1_748_942_400; caller = retailer; key = codes "retail-key"; request = requests.Upload two_orders }), StoppedBare)
    ∷ (
      (record {
        moment = 1_748_942_400;
        caller = retailer;
        key = codes "retail-key";
        request = requests.Upload two_orders;
      }),
      StoppedAfter 2,
    )
    ∷ (
      (record {
        moment = 1_748_942_400;
        caller = retailer;
        key = codes "retail-key";
        request = requests.Upload two_orders;
      }),
      StoppedAfter 1,
    )
    ∷ by alpha (requests.MailAfter 0)
    ∷ (
      (record {
        moment = 1_748_942_400;
        caller = retailer;
        key = codes "retail-key";
        request = requests.Upload two_orders;
      }),
      Whole,
    )
    ∷ []) ≡ (
    reply Stopped []
    ∷ reply Stopped (lines (codes "stopped" ∷ []))
    ∷ reply Stopped (lines (codes "stopped" ∷ []))
    ∷ record {
      outcome = Stopped;
      refused = true;
      body = lines (codes "interchange 1001 messages 2" ∷ codes "1 ORDERS refused M08" ∷ codes "stopped" ∷ []);
    }
    ∷ done (lines (codes "end" ∷ []))
    ∷ refused (codes "interchange 1001 messages 2" ∷ codes "1 ORDERS refused M08" ∷ codes "2 ORDERS accepted" ∷ []) ∷ [])
unfolding interchange_in interchange_of fault_of contents_of is_framed is_row_of_messages is_outside_set order_of
    response_of despatch_of receipt_of entry_text list_text status_text digits
an_upload_is_stopped = refl

-- the greatest quantity, one more, one with a decimal mark and zeros, and one with a fraction
quantities_are_read : replies (
    by_retailer (requests.Upload
    (codes "UNA:+.? 'UNB+UNOC:3+5412345000013:14+5412345000006:14+250603:0915+2001'UNH+1+ORDERS:D:01B:UN:EAN010'"
    ++ codes "BGM+220+1+9'DTM+137:20250603:102'NAD+BY+5412345000013::9'NAD+SU+4012345500004::9'"
    ++ codes "LIN+1++4000862141404:SRV'QTY+21:999999999'UNS+S'CNT+2:1'UNT+10+1'UNZ+1+2001'"))
    ∷ by_retailer (requests.Upload
    (codes "UNA:+.? 'UNB+UNOC:3+5412345000013:14+5412345000006:14+250603:0915+2002'UNH+1+ORDERS:D:01B:UN:EAN010'"
    ++ codes "BGM+220+2+9'DTM+137:20250603:102'NAD+BY+5412345000013::9'NAD+SU+4012345500004::9'"
    ++ codes "LIN+1++4000862141404:SRV'QTY+21:1000000000'UNS+S'CNT+2:1'UNT+10+1'UNZ+1+2002'"))
    ∷ by_retailer (requests.Upload
    (codes "UNA:+.? 'UNB+UNOC:3+5412345000013:14+5412345000006:14+250603:0915+2003'UNH+1+ORDERS:D:01B:UN:EAN010'"
    ++ codes "BGM+220+3+9'DTM+137:20250603:102'NAD+BY+5412345000013::9'NAD+SU+4012345500004::9'"
    ++ codes "LIN+1++4000862141404:SRV'QTY+21:12,000'UNS+S'CNT+2:1'UNT+10+1'UNZ+1+2003'"))
    ∷ by_retailer (requests.Upload
    (codes "UNA:+.? 'UNB+UNOC:3+5412345000013:14+5412345000006:14+250603:0915+2004'UNH+1+ORDERS:D:01B:UN:EAN010'"
    ++ codes "BGM+220+4+9'DTM+137:20250603:102'NAD+BY+5412345000013::9'NAD+SU+4012345500004::9'"
    ++ codes "LIN+1++4000862141404:SRV'QTY+21:12.5'UNS+S'CNT+2:1'UNT+10+1'UNZ+1+2004'"))
    ∷ by alpha requests.Status ∷ []) ≡ (
    done (lines (codes "interchange 2001 messages 1" ∷ codes "1 ORDERS accepted" ∷ []))
    ∷ refused (codes "interchange 2002 messages 1" ∷ codes "1 ORDERS refused M08" ∷ [])
    ∷ done (lines (codes "interchange 2003 messages 1" ∷ codes "1 ORDERS accepted" ∷ []))
    ∷ refused (codes "interchange 2004 messages 1" ∷ codes "1 ORDERS refused M08" ∷ [])
    ∷ done (lines (codes
    "L 1                                        1 04000862141404 W 999999999 999999999         0         0         0"
    ∷ codes
    "L 3                                        1 04000862141404 W        12        12         0         0         0"
    ∷ codes "end"
    ∷ []))
    ∷ [])
unfolding interchange_in interchange_of fault_of contents_of is_framed is_row_of_messages is_outside_set order_of
    response_of despatch_of receipt_of entry_text list_text status_text digits
quantities_are_read = refl

-- a wrong key, an unknown caller, and requests of the other side; a mailbox entry and a supplier that do not exist; a
-- sender that is not the caller, and a recipient that is not the hub
who_may_ask_what : replies (
    ((record { moment = 1_748_942_400; caller = alpha.gln; key = codes "beta-key-1"; request = requests.Status }), Whole)
    ∷ ((record { moment = 1_748_942_400; caller = retailer; key = codes "alpha-key-1"; request = requests.StatusOf alpha.gln }), Whole)
    ∷ ((record { moment = 1_748_942_400; caller = codes "4006381000000"; key = codes "retail-key"; request = requests.Status }), Whole)
    ∷ by alpha (requests.StatusOf alpha.gln)
    ∷ by_retailer requests.Status
    ∷ by_retailer (requests.MailItem 1)
    ∷ by alpha (requests.MailItem 1)
    ∷ by alpha (requests.MailTaken 1)
    ∷ by_retailer (requests.StatusOf (codes "4006381000000"))
    ∷ by alpha (requests.Upload (first_order))
    ∷ by_retailer (requests.Upload
    (codes "UNA:+.? 'UNB+UNOC:3+5412345000013:14+5412345000013:14+250603:0915+1001'UNH+1+ORDERS:D:01B:UN:EAN010'"
    ++ codes "BGM+220+128576+9'DTM+137:20250603:102'NAD+BY+5412345000013::9'NAD+SU+4012345500004::9'"
    ++ codes "LIN+1++4000862141404:SRV'QTY+21:48'UNS+S'CNT+2:1'UNT+10+1'UNZ+1+1001'"))
    ∷ by alpha
    (requests.Upload (codes "UNB+UNOC:3+4012345500004:14+5412345000013:14+250603:1000+S1'UNH+1+ORDRSP:D:01B:UN:EAN009'"
    ++ codes "BGM+231+R1+4'DTM+137:20250603:102'RFF+ON:128576'NAD+BY+5412345000013::9'NAD+SU+4012345500004::9'"
    ++ codes "LIN+1+3+4000862141404:SRV'QTY+113:36'UNS+S'UNT+10+1'UNZ+1+S1'"))
    ∷ by alpha (requests.Upload
    (codes "UNA:+.? 'UNB+UNOC:3+4012345500004:14+5412345000006:14+250603:0915+1001'UNH+1+ORDERS:D:01B:UN:EAN010'"
    ++ codes "BGM+220+128576+9'DTM+137:20250603:102'NAD+BY+5412345000013::9'NAD+SU+4012345500004::9'"
    ++ codes "LIN+1++4000862141404:SRV'QTY+21:48'UNS+S'CNT+2:1'UNT+10+1'UNZ+1+1001'"))
    ∷ by_retailer (requests.Upload
    (codes "UNA:+.? 'UNB+UNOC:3+5412345000013:14+5412345000006:14+250603:0915+1001'UNH+1+ORDERS:D:01B:UN:EAN010'"
    ++ codes "BGM+220+128576+9'DTM+137:20250603:102'NAD+BY+5412345000013::9'NAD+SU+4006381000000::9'"
    ++ codes "LIN+1++4000862141404:SRV'QTY+21:48'UNS+S'CNT+2:1'UNT+10+1'UNZ+1+1001'"))
    ∷ []) ≡ (
    reply Denied (lines (codes "denied" ∷ []))
    ∷ reply Denied (lines (codes "denied" ∷ []))
    ∷ reply Denied (lines (codes "denied" ∷ []))
    ∷ reply Denied (lines (codes "denied" ∷ []))
    ∷ reply Denied (lines (codes "denied" ∷ []))
    ∷ reply Denied (lines (codes "denied" ∷ []))
    ∷ reply Unknown (lines (codes "unknown" ∷ []))
    ∷ reply Unknown (lines (codes "unknown" ∷ []))
    ∷ reply Unknown (lines (codes "unknown" ∷ []))
    ∷ bad (codes "E08")
    ∷ bad (codes "E09")
    ∷ refused (codes "interchange S1 messages 1" ∷ codes "1 ORDRSP refused B05" ∷ [])
    ∷ refused (codes "interchange 1001 messages 1" ∷ codes "1 ORDERS refused M01" ∷ [])
    ∷ refused (codes "interchange 1001 messages 1" ∷ codes "1 ORDERS refused B02" ∷ []) ∷ [])
unfolding interchange_in interchange_of fault_of contents_of is_framed is_row_of_messages is_outside_set order_of
    response_of despatch_of receipt_of entry_text list_text status_text digits
who_may_ask_what = refl

-- the mailbox entries of both orders
the_mailbox_has_the_orders : replies (
    by_retailer (requests.Upload (first_order))
    ∷ by alpha (requests.MailItem 1)
    ∷ by_retailer (requests.Upload (second_order))
    ∷ by alpha (requests.MailItem 2) ∷ []) ≡ (
    done (lines (codes "interchange 1001 messages 1" ∷ codes "1 ORDERS accepted" ∷ []))
    ∷ done (codes "UNA:+.? 'UNB+UNOC:3+5412345000006:14+4012345500004:14+250603:0920+1'UNH+1+ORDERS:D:01B:UN:EAN010'"
    ++ codes "BGM+220+128576+9'DTM+137:20250603:102'NAD+BY+5412345000013::9'NAD+SU+4012345500004::9'"
    ++ codes "LIN+1++4000862141404:SRV'QTY+21:48'UNS+S'CNT+2:1'UNT+10+1'UNZ+1+1'")
    ∷ done (lines (codes "interchange 1002 messages 1" ∷ codes "1 ORDERS accepted" ∷ []))
    ∷ done (codes "UNA:+,? 'UNB+UNOC:3+5412345000006:14+4012345500004:14+250603:0920+2'UNH+1+ORDERS:D:01B:UN:EAN010'"
    ++ codes "BGM+220+128577+9'DTM+137:20250603:102'FTX+AAI+++Dock 3?+4, O?'Neill??'NAD+BY+5412345000013::9'"
    ++ codes "NAD+SU+4012345500004::9'LIN+1++4000862141404:SRV'QTY+21:30'UNS+S'CNT+2:1'UNT+11+1'UNZ+1+2'")
    ∷ [])
unfolding interchange_in interchange_of fault_of contents_of is_framed is_row_of_messages is_outside_set order_of
    response_of despatch_of receipt_of entry_text list_text status_text digits day_at
the_mailbox_has_the_orders = refl

-- a mailbox of this many entries that are not taken, and its list: the first 100 of them
abbrev mailbox_entry : MailRow
mailbox_entry = record {
  supplier = alpha.gln;
  number = 7;
  moment = 1_748_942_400;
  decimal = 0x2E;
  kind = kind_letter kinds.Orders;
  document = codes "128576";
  body = [];
  taken = truth_number false;
}

hundred_entries_are_all : list_text (replicate 100 mailbox_entry) ≡
    lines (replicate 100 (codes "             7 ORDERS 128576") ++ codes "end" ∷ [])
unfolding list_text digits
hundred_entries_are_all = refl

one_entry_more_is_told : list_text (replicate 101 mailbox_entry) ≡
    lines (replicate 100 (codes "             7 ORDERS 128576") ++ codes "more" ∷ [])
unfolding list_text digits
one_entry_more_is_told = refl
