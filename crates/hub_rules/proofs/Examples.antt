-- Shows the rules by examples of small states.
use Rattle.std.proofs.Common.{◌≡◌, ℕ, ◌+◌, nat_lt, Bool, true, false, List, [], ◌∷◌, ◌++◌}
use Rattle.std.proofs.Common.{length, map, Option, Some, None, codes, refl, ◌∙◌}
use Rattle.edi_documents.specs.EdiOrders.declared.order.Order.{Order}
use Rattle.edi_documents.specs.EdiOrders.declared.response.Answer.TheVariants as answers
use Rattle.edi_documents.specs.EdiOrders.declared.response.LineAnswer.{LineAnswer}
use Rattle.edi_documents.specs.EdiOrders.declared.response.LineAnswer.TheVariants as says
use Rattle.edi_documents.specs.EdiOrders.declared.response.Response.{Response}
use Rattle.edi_documents.specs.EdiGoods.declared.despatch.DespatchLine.{DespatchLine}
use Rattle.edi_documents.specs.EdiGoods.declared.despatch.Unit.{Unit}
use Rattle.edi_documents.specs.EdiGoods.declared.receipt.ReceiptLine.{ReceiptLine}
use Rattle.edi_documents.specs.EdiGoods.declared.receipt.ReceiptUnit.{ReceiptUnit}
use Rattle.hub_parties.specs.declared.row.SupplierRow.{SupplierRow}
use Rattle.hub_tables.specs.Cases.{answer_letter, arrival_number}
use Rattle.hub_tables.specs.Change.{apply_all}
use Rattle.hub_tables.specs.State.{knows_order}
use Rattle.hub_tables.specs.Tables.{Tables, empty}
use Rattle.hub_tables.specs.declared.cases.LineState.{LineState}
use Rattle.hub_tables.specs.declared.cases.LineState.TheVariants.{Waiting, Accepted, NotAccepted, Changed}
use Rattle.hub_tables.specs.declared.cases.Arrival.TheVariants.{Announced, Received}
use Rattle.hub_tables.specs.declared.change.Change.TheVariants.{AddOrder, AddLine, SetLine, AddAdvice, AddPallet, SetPallet}
use Rattle.hub_tables.specs.declared.change.Change.TheVariants.{AddContent, AddReceipt, ClearReceipts, Remember, AddMail}
use Rattle.hub_tables.specs.declared.rows.LineRow.{LineRow}
use Rattle.hub_tables.specs.declared.rows.MailRow.{MailRow}
use Rattle.hub_tables.specs.declared.rows.PalletRow.{PalletRow}
use Rattle.hub_rules.specs.CancellationRules.{judge_new_cancel}
use Rattle.hub_rules.specs.DespatchRules.{judge_new_despatch}
use Rattle.hub_rules.specs.Judging.{refuse_if}
use Rattle.hub_rules.specs.OrderRules.{judge_new_order}
use Rattle.hub_rules.specs.ReceiptRules.{judge_new_receipt}
use Rattle.hub_rules.specs.ResponseRules.{judge_answer, judge_answers, judge_new_response}
use Rattle.hub_rules.specs.Rules.{judge_order, judge_response, judge_despatch, judge_receipt, judge_cancel}
use Rattle.hub_rules.specs.declared.code.Code.{Code}
use Rattle.hub_rules.specs.declared.code.Code.TheVariants as codes_of
use Rattle.hub_rules.specs.declared.cancel.Cancel.{Cancel}
use Rattle.hub_rules.specs.declared.incoming.IncomingMessage.{IncomingMessage}
use Rattle.hub_rules.specs.declared.verdict.Verdict.{Verdict}
use Rattle.hub_rules.specs.declared.verdict.Verdict.TheVariants.{Accept, Refuse}

abbrev gln : List ℕ
gln = codes "4012345500004"

abbrev buyer : List ℕ
buyer = codes "5412345000013"

abbrev alpha : SupplierRow
alpha = record { gln = gln; prefixes = codes "40123455" ∷ []; key = codes "alpha-key-1" }

abbrev number : List ℕ
number = codes "128576"

abbrev article : List ℕ
article = codes "04000862141404"

abbrev other_article : List ℕ
other_article = codes "04000862141411"

abbrev sscc : List ℕ
sscc = codes "340123455000000012"

abbrev next_sscc : List ℕ
next_sscc = codes "340123455000000029"

abbrev theirs : List ℕ
theirs = codes "387123450000000012"

-- a line of the order, with its open, refused and cancelled quantities and its answer
abbrev line : ℕ → ℕ → ℕ → ℕ → ℕ → LineState → LineRow
line n ordered open_qty refused cancelled answer = record {
  supplier = gln;
  number = number;
  line = n;
  gtin = article;
  ordered = ordered;
  open_qty = open_qty;
  refused = refused;
  cancelled = cancelled;
  answer = answer_letter answer;
}

abbrev with_lines : List LineRow → Tables
with_lines lines = record empty { orders = record { supplier = gln; number = number } ∷ []; lines = lines }

abbrev pallet : PalletRow
pallet = record { sscc = sscc; supplier = gln; advice = codes "DA1"; received = arrival_number Announced }

-- puts this quantity of line 1 on the pallet
abbrev with_content : ℕ → Tables → Tables
with_content quantity t = record t {
  pallets = pallet ∷ [];
  contents = record { sscc = sscc; place = 1; number = number; line = 1; quantity = quantity } ∷ [];
}

-- an answer to a line that waits, with 48 ordered and 12 of it despatched
abbrev answered : Option ℕ → List ℕ → ℕ → Verdict
answered n gtin quantity =
    judge_answer number (record { order_line = n; gtin = gtin; answer = says.Changed quantity })
    (with_content 12 (with_lines (line 1 48 36 0 0 Waiting ∷ [])))

below_despatched : answered (Some 1) article 11 ≡ Refuse codes_of.OutOfRange
below_despatched = refl

all_open_refused : answered (Some 1) article 12 ≡ Accept (SetLine (line 1 48 0 36 0 Changed) ∷ [])
all_open_refused = refl

nothing_refused : answered None article 48 ≡ Accept (SetLine (line 1 48 36 0 0 Changed) ∷ [])
nothing_refused = refl

above_open : answered (Some 1) article 49 ≡ Refuse codes_of.OutOfRange
above_open = refl

another_item : answered (Some 1) other_article 20 ≡ Refuse codes_of.OtherArticle
another_item = refl

no_such_line : answered (Some 2) article 20 ≡ Refuse codes_of.NoLine
no_such_line = refl

answered_before : judge_answer number (record { order_line = Some 1; gtin = other_article; answer = says.Changed 20 })
    (with_lines (line 1 48 48 0 0 Accepted ∷ []))
    ≡ Refuse codes_of.NotWaiting
answered_before = refl

two_lines_of_an_article : judge_answer number (record { order_line = None; gtin = article; answer = says.Accepted })
    (with_lines (line 1 48 48 0 0 Waiting ∷ line 2 48 48 0 0 Accepted ∷ []))
    ≡ Refuse codes_of.NoLine
two_lines_of_an_article = refl

-- the second answer sees what the first left
answered_twice : judge_answers (answers.Lines (record { order_line = Some 1; gtin = article; answer = says.Refused }
    ∷ record { order_line = Some 1; gtin = article; answer = says.Accepted }
    ∷ [])) number (with_lines (line 1 48 48 0 0 Waiting ∷ []))
    ≡ Refuse codes_of.NotWaiting
answered_twice = refl

-- 30 ordered, 12 despatched, and the rest refused
rest_refused : judge_answers answers.AllRefused number
    (with_content 12 (with_lines (line 1 30 18 0 0 Waiting ∷ line 2 5 5 0 0 Accepted ∷ [])))
    ≡ Accept (SetLine (line 1 30 0 18 0 NotAccepted) ∷ [])
rest_refused = refl

none_waits : judge_answers answers.AllAccepted number (with_lines (line 1 30 18 0 0 Accepted ∷ [])) ≡ Refuse codes_of.NotWaiting
none_waits = refl

no_order_to_answer : judge_new_response
    (record { number = codes "R1"; buyer = buyer; supplier = gln; order = codes "128577"; answer = answers.AllAccepted })
    (with_lines (line 1 30 18 0 0 Waiting ∷ []))
    ≡ Refuse codes_of.NoOrder
no_order_to_answer = refl

-- a despatch of units for a line of 48, of which 24 are open
abbrev of_line : ℕ → DespatchLine
of_line quantity = record { order = number; order_line = None; gtin = article; quantity = quantity }

abbrev despatched_to : List ℕ → (List ℕ → Bool) → List Unit → Verdict
despatched_to advice used units =
    judge_new_despatch alpha used (record { number = advice; buyer = None; supplier = gln; units = units })
    (with_lines (line 1 48 24 24 0 Changed ∷ []))

abbrev unused : List ℕ → Bool
unused _ = false

two_lines_take_all : despatched_to (codes "DA2") unused (record { sscc = next_sscc; lines = of_line 20 ∷ of_line 4 ∷ [] } ∷ []) ≡ Accept (
    AddAdvice (record { supplier = gln; number = codes "DA2" })
    ∷ AddPallet (record { sscc = next_sscc; supplier = gln; advice = codes "DA2"; received = 0 })
    ∷ SetLine (line 1 48 4 24 0 Changed)
    ∷ AddContent (record { sscc = next_sscc; place = 1; number = number; line = 1; quantity = 20 })
    ∷ SetLine (line 1 48 0 24 0 Changed)
    ∷ AddContent (record { sscc = next_sscc; place = 2; number = number; line = 1; quantity = 4 })
    ∷ [])
two_lines_take_all = refl

two_lines_take_more :
    despatched_to (codes "DA2") unused (record { sscc = next_sscc; lines = of_line 20 ∷ of_line 5 ∷ [] } ∷ [])
    ≡ Refuse codes_of.MoreThanOpen
two_lines_take_more = refl

prefix_before_used : despatched_to (codes "DA2") (λ x. true) (record { sscc = theirs; lines = of_line 1 ∷ [] } ∷ [])
    ≡ Refuse codes_of.OtherPrefix
prefix_before_used = refl

used_before_lines :
    despatched_to (codes "DA2") (λ x. true) (record { sscc = sscc; lines = of_line 25 ∷ [] } ∷ []) ≡ Refuse codes_of.SsccUsed
used_before_lines = refl

first_unit_before_second : despatched_to (codes "DA2") unused (record { sscc = theirs; lines = of_line 1 ∷ [] }
    ∷ record { sscc = sscc; lines = record (of_line 1) { order = codes "128577" } ∷ [] }
    ∷ [])
    ≡ Refuse codes_of.OtherPrefix
first_unit_before_second = refl

order_before_line : despatched_to (codes "DA2") unused
    (record { sscc = sscc; lines = record (of_line 99) { order = codes "128577" } ∷ [] } ∷ [])
    ≡ Refuse codes_of.NoOrder
order_before_line = refl

item_before_open : despatched_to (codes "DA2") unused
    (record { sscc = sscc; lines = record (of_line 99) { order_line = Some 1; gtin = other_article } ∷ [] } ∷ [])
    ≡ Refuse codes_of.OtherArticle
item_before_open = refl

-- a line number that the order does not have; and an article of two of its lines, if no number is given
no_line_of_the_number : despatched_to (codes "DA2") unused (
    record { sscc = sscc; lines = record (of_line 1) { order_line = Some 2 } ∷ [] } ∷ []) ≡ Refuse codes_of.NoLine
no_line_of_the_number = refl

two_lines_of_the_item : judge_new_despatch alpha unused (
    record { number = codes "DA2"; buyer = None; supplier = gln; units = record { sscc = sscc; lines = of_line 1 ∷ [] } ∷ [] }) (
    with_lines (line 1 48 24 24 0 Changed ∷ line 2 48 24 24 0 Changed ∷ [])) ≡ Refuse codes_of.NoLine
two_lines_of_the_item = refl

-- the same SSCC in two units of a message
sscc_of_an_earlier_unit : despatched_to (codes "DA2") unused
    (record { sscc = sscc; lines = of_line 1 ∷ [] } ∷ record { sscc = sscc; lines = of_line 1 ∷ [] } ∷ [])
    ≡ Refuse codes_of.SsccUsed
sscc_of_an_earlier_unit = refl

abbrev incoming : List ℕ → List ℕ → IncomingMessage
incoming control content = record { control = control; message = codes "1"; content = content; moment = 1748942400; decimal = 46 }

-- a receipt of units that replaces earlier ones, or does not
abbrev received_on : Bool → Tables → List ReceiptUnit → Verdict
received_on replaces state units =
    judge_new_receipt gln (incoming (codes "1005") []) (codes "body")
    (record { number = codes "G1"; replaces = replaces; buyer = Some buyer; supplier = gln; units = units }) state

abbrev announced : Tables
announced = with_content 12 (with_lines (line 1 48 24 12 0 Changed ∷ []))

-- for what is on the pallet
abbrev received_of : List ReceiptUnit → Verdict
received_of = received_on false announced

abbrev received_line : List ℕ → ℕ → ℕ → ReceiptLine
received_line gtin accepted returned = record { gtin = gtin; accepted = accepted; returned = returned; destroyed = 0 }

-- two lines of the same article give one receipt
sums_of_items : received_of
    (record { sscc = sscc; lines = received_line article 6 1 ∷ received_line other_article 3 0 ∷ received_line article 4 0 ∷ [] }
    ∷ [])
    ≡ Accept (
    AddMail (record {
      supplier = gln;
      number = 1;
      moment = 1748942400;
      decimal = 46;
      kind = 0x52;
      document = codes "G1";
      body = codes "body";
      taken = 0;
    })
    ∷ SetPallet (record pallet { received = arrival_number Received })
    ∷ AddReceipt (record { sscc = sscc; gtin = article; accepted = 10; returned = 1; destroyed = 0 })
    ∷ AddReceipt (record { sscc = sscc; gtin = other_article; accepted = 3; returned = 0; destroyed = 0 })
    ∷ [])
sums_of_items = refl

no_such_pallet : received_of (record { sscc = next_sscc; lines = received_line article 1 0 ∷ [] } ∷ []) ≡ Refuse codes_of.NoPallet
no_such_pallet = refl

received_twice_before_unknown : received_of (record { sscc = sscc; lines = received_line article 1 0 ∷ [] }
    ∷ record { sscc = sscc; lines = [] }
    ∷ record { sscc = next_sscc; lines = [] }
    ∷ [])
    ≡ Refuse codes_of.PalletReceived
received_twice_before_unknown = refl

-- The pallet is received with two articles, and then, by an advice that replaces, with twelve of only one of them.
abbrev first_units : List ReceiptUnit
first_units = record { sscc = sscc; lines = received_line article 10 1 ∷ received_line other_article 3 0 ∷ [] } ∷ []

abbrev units_of_twelve : List ReceiptUnit
units_of_twelve = record { sscc = sscc; lines = received_line article 12 0 ∷ [] } ∷ []

abbrev left_by : (Tables → Verdict) → Tables → Tables
left_by judge state = done (judge state) state
  where
    done : Verdict → Tables → Tables
    done (Accept changes) t = apply_all changes t
    done (Refuse code) t = t

abbrev once_received : Tables
once_received = left_by (λ t. received_on false t first_units) announced

abbrev replaced : Tables
replaced = left_by (λ t. received_on true t units_of_twelve) once_received

first_sums : once_received.receipts
    ≡ record { sscc = sscc; gtin = article; accepted = 10; returned = 1; destroyed = 0 }
    ∷ record { sscc = sscc; gtin = other_article; accepted = 3; returned = 0; destroyed = 0 }
    ∷ []
first_sums = refl

sums_replaced : replaced.receipts ≡ record { sscc = sscc; gtin = article; accepted = 12; returned = 0; destroyed = 0 } ∷ []
sums_replaced = refl

arrival_replaced : replaced.pallets ≡ record pallet { received = 2 } ∷ []
arrival_replaced = refl

both_told_in_the_mailbox : map (λ (entry : MailRow). entry.number) replaced.mail ≡ 1 ∷ 2 ∷ []
both_told_in_the_mailbox = refl

-- the deletion of the receipts comes between the pallet and the new totals
replaced_by : received_on true once_received units_of_twelve
    ≡ Accept (
    AddMail (record {
      supplier = gln;
      number = 2;
      moment = 1748942400;
      decimal = 46;
      kind = 0x52;
      document = codes "G1";
      body = codes "body";
      taken = 0;
    })
    ∷ SetPallet (record pallet { received = 2 })
    ∷ ClearReceipts sscc
    ∷ AddReceipt (record { sscc = sscc; gtin = article; accepted = 12; returned = 0; destroyed = 0 })
    ∷ [])
replaced_by = refl

received_after_it_was_replaced : received_on false replaced units_of_twelve ≡ Refuse codes_of.PalletReceived
received_after_it_was_replaced = refl

replaced_again : (left_by (λ t. received_on true t first_units) replaced).receipts ≡ once_received.receipts
replaced_again = refl

no_pallet_to_replace : received_on true replaced (record { sscc = next_sscc; lines = received_line article 1 0 ∷ [] } ∷ [])
    ≡ Refuse codes_of.NoPallet
no_pallet_to_replace = refl

no_pallet_to_receive : received_on false replaced (record { sscc = next_sscc; lines = received_line article 1 0 ∷ [] } ∷ [])
    ≡ Refuse codes_of.NoPallet
no_pallet_to_receive = refl

-- a pallet that was not received before is received in this way too
replaced_at_first : (left_by (λ t. received_on true t units_of_twelve) announced).pallets ≡ record pallet { received = 2 } ∷ []
replaced_at_first = refl

sums_at_first : (left_by (λ t. received_on true t units_of_twelve) announced).receipts
    ≡ record { sscc = sscc; gtin = article; accepted = 12; returned = 0; destroyed = 0 } ∷ []
sums_at_first = refl

-- the receipts of another pallet stay, and so does that pallet
abbrev beside : Tables
beside = record once_received {
  pallets = once_received.pallets ++ record pallet { sscc = next_sscc; received = arrival_number Received } ∷ [];
  receipts =
      once_received.receipts ++ record { sscc = next_sscc; gtin = article; accepted = 7; returned = 0; destroyed = 0 } ∷ [];
}

others_stay : (left_by (λ t. received_on true t units_of_twelve) beside).receipts
    ≡ record { sscc = sscc; gtin = article; accepted = 12; returned = 0; destroyed = 0 }
    ∷ record { sscc = next_sscc; gtin = article; accepted = 7; returned = 0; destroyed = 0 }
    ∷ []
others_stay = refl

other_pallets_stay : (left_by (λ t. received_on true t units_of_twelve) beside).pallets
    ≡ record pallet { received = 2 } ∷ record pallet { sscc = next_sscc; received = 1 } ∷ []
other_pallets_stay = refl

-- a cancellation of line 1, of which 24 are open, when C1 with ten is remembered, or nothing
abbrev cancelled : List ℕ → List ℕ → ℕ → Cancel
cancelled reference order quantity = record { supplier = gln; reference = reference; order = order; line = 1; quantity = quantity }

abbrev open_line : Tables
open_line = with_lines (line 1 48 24 12 0 Changed ∷ [])

abbrev after_ten : Tables
after_ten =
    record (with_lines (line 1 48 14 12 10 Changed ∷ []))
    { remembered = record { supplier = gln; side = 0x43; control = codes "C1"; message = []; content = codes "ten" } ∷ [] }

ten_cancelled : judge_cancel (Some alpha) (codes "ten") (cancelled (codes "C1") number 10) open_line
    ≡ Accept (Remember (record { supplier = gln; side = 0x43; control = codes "C1"; message = []; content = codes "ten" })
    ∷ SetLine (line 1 48 14 12 10 Changed)
    ∷ [])
ten_cancelled = refl

ten_repeated : judge_cancel (Some alpha) (codes "ten") (cancelled (codes "C1") number 10) after_ten ≡ Accept []
ten_repeated = refl

eleven_under_its_reference :
    judge_cancel (Some alpha) (codes "eleven") (cancelled (codes "C1") number 11) after_ten ≡ Refuse codes_of.OtherContent
eleven_under_its_reference = refl

all_cancelled : judge_new_cancel (cancelled (codes "C2") number 14) after_ten ≡ Accept (SetLine (line 1 48 0 12 24 Changed) ∷ [])
all_cancelled = refl

more_cancelled : judge_new_cancel (cancelled (codes "C2") number 15) after_ten ≡ Refuse codes_of.CancelsMoreThanOpen
more_cancelled = refl

order_before_quantity : judge_new_cancel (cancelled (codes "C2") (codes "128577") 99) after_ten ≡ Refuse codes_of.NoOrder
order_before_quantity = refl

not_registered : judge_cancel None (codes "ten") (cancelled (codes "C1") number 10) open_line ≡ Refuse codes_of.Supplier
not_registered = refl

-- a new order, and the same order under other references
abbrev order : Order
order = record { number = number; buyer = buyer; supplier = gln; lines = record { line = 1; gtin = article; quantity = 48 } ∷ [] }

new_order : judge_order buyer (Some alpha) (incoming (codes "1001") (codes "content")) (codes "body") order empty ≡ Accept (
    Remember (record { supplier = gln; side = 0x52; control = codes "1001"; message = codes "1"; content = codes "content" })
    ∷ AddMail (record {
      supplier = gln;
      number = 1;
      moment = 1748942400;
      decimal = 46;
      kind = 0x4F;
      document = number;
      body = codes "body";
      taken = 0;
    })
    ∷ AddOrder (record { supplier = gln; number = number })
    ∷ AddLine (line 1 48 48 0 0 Waiting)
    ∷ [])
new_order = refl

order_known :
    judge_order buyer (Some alpha) (incoming (codes "1002") (codes "content")) (codes "body") order (with_lines [])
    ≡ Refuse codes_of.OrderKnown
order_known = refl

buyer_before_supplier : judge_order gln None (incoming (codes "1002") (codes "content")) (codes "body") order empty ≡ Refuse codes_of.Buyer
buyer_before_supplier = refl

-- an advice that exists already, under its references and under others
abbrev advised : Tables
advised =
    record (with_lines []) {
      advices = record { supplier = gln; number = codes "DA1" } ∷ [];
      remembered =
          record { supplier = gln; side = 0x53; control = codes "S2"; message = codes "1"; content = codes "content" } ∷ [];
    }

abbrev advised_again : List ℕ → List ℕ → Verdict
advised_again control content =
    judge_despatch buyer (Some alpha) unused (incoming control content) (record {
      number = codes "DA1";
      buyer = None;
      supplier = gln;
      units = record { sscc = theirs; lines = of_line 1 ∷ [] } ∷ [];
    }) advised

advice_repeated : advised_again (codes "S2") (codes "content") ≡ Accept []
advice_repeated = refl

content_before_advice : advised_again (codes "S2") (codes "other") ≡ Refuse codes_of.OtherContent
content_before_advice = refl

advice_before_units : advised_again (codes "S3") (codes "content") ≡ Refuse codes_of.AdviceKnown
advice_before_units = refl

-- another supplier's response
not_the_caller : judge_response buyer (Some alpha) (incoming (codes "S1") []) (record {
  number = codes "R1";
  buyer = buyer;
  supplier = codes "8712345000004";
  order = number;
  answer = answers.AllAccepted;
}) (with_lines [])
    ≡ Refuse codes_of.Supplier
not_the_caller = refl

-- the letters of lines: one that waits is accepted, refused and changed
abbrev answered_so : LineAnswer → Verdict
answered_so answer =
    judge_answer number (record { order_line = Some 1; gtin = article; answer = answer })
    (with_lines (record (line 1 48 48 0 0 Waiting) { answer = 0x57 } ∷ []))

abbrev lettered : ℕ → ℕ → ℕ → Verdict
lettered letter open_qty refused = Accept (SetLine (record (line 1 48 open_qty refused 0 Waiting) { answer = letter }) ∷ [])

accepted_letter : answered_so says.Accepted ≡ lettered 0x41 48 0
accepted_letter = refl

refused_letter : answered_so says.Refused ≡ lettered 0x4E 0 48
refused_letter = refl

changed_letter : answered_so (says.Changed 40) ≡ lettered 0x43 40 8
changed_letter = refl

answer_before_range : judge_answer number (record { order_line = Some 1; gtin = article; answer = says.Changed 99 })
    (with_lines (line 1 48 48 0 0 Accepted ∷ []))
    ≡ Refuse codes_of.NotWaiting
answer_before_range = refl

range_before_item : answered (Some 1) other_article 49 ≡ Refuse codes_of.OutOfRange
range_before_item = refl

-- what is remembered of a supplier's message, and of one of the retailer's
abbrev response : Response
response = record { number = codes "R1"; buyer = buyer; supplier = gln; order = number; answer = answers.AllAccepted }

response_remembered : judge_response buyer (Some alpha) (incoming (codes "1001") (codes "content")) response
    (with_lines (line 1 48 48 0 0 Waiting ∷ []))
    ≡ Accept (
    Remember (record { supplier = gln; side = 0x53; control = codes "1001"; message = codes "1"; content = codes "content" })
    ∷ SetLine (record (line 1 48 48 0 0 Waiting) { answer = 0x41 })
    ∷ [])
response_remembered = refl

receipt_remembered :
    judge_receipt buyer (Some alpha) (record (incoming (codes "1005") (codes "content")) { decimal = 44 }) (codes "body")
    (record { number = codes "G1"; replaces = false; buyer = None; supplier = gln; units = [] }) empty
    ≡ Accept (
    Remember (record { supplier = gln; side = 0x52; control = codes "1005"; message = codes "1"; content = codes "content" })
    ∷ AddMail (record {
      supplier = gln;
      number = 1;
      moment = 1748942400;
      decimal = 44;
      kind = 0x52;
      document = codes "G1";
      body = codes "body";
      taken = 0;
    })
    ∷ [])
receipt_remembered = refl

-- another message of the same interchange, and one of the other side under the same references, are both new
abbrev remembering : ℕ → List ℕ → Tables
remembering side message =
    record empty {
      remembered =
          record { supplier = gln; side = side; control = codes "1001"; message = message; content = codes "other" } ∷ [];
    }

another_message_is_new : judge_order buyer (Some alpha) (incoming (codes "1001") (codes "content")) (codes "body") order
    (remembering 0x52 (codes "2"))
    ≡ judge_order buyer (Some alpha) (incoming (codes "1001") (codes "content")) (codes "body") order empty
another_message_is_new = refl

other_side_is_new : judge_order buyer (Some alpha) (incoming (codes "1001") (codes "content")) (codes "body") order
    (remembering 0x53 (codes "1"))
    ≡ judge_order buyer (Some alpha) (incoming (codes "1001") (codes "content")) (codes "body") order empty
other_side_is_new = refl

-- the checks for a full mailbox, whatever else the tables hold
refused_at : (test : Bool) (code : Code) (rest : Verdict) → test ≡ true → refuse_if test code rest ≡ Refuse code
refused_at true code rest h = refl
refused_at false code rest h = cc

passed_at : (test : Bool) (code : Code) (rest : Verdict) → test ≡ false → refuse_if test code rest ≡ rest
passed_at true code rest h = cc
passed_at false code rest h = refl

known_before_full : (state : Tables)
    → knows_order state number ≡ true
    → judge_new_order gln (incoming [] []) [] order state ≡ Refuse codes_of.OrderKnown
known_before_full state known = refused_at (knows_order state number) codes_of.OrderKnown _ known

full_for_an_order : (state : Tables)
    → knows_order state number ≡ false
    → nat_lt 99_999_999_999_999 (length state.mail + 1) ≡ true
    → judge_new_order gln (incoming [] []) [] order state ≡ Refuse codes_of.MailboxFull
full_for_an_order state new full =
    passed_at (knows_order state number) codes_of.OrderKnown _ new
    ∙ refused_at (nat_lt 99_999_999_999_999 (length state.mail + 1)) codes_of.MailboxFull _ full

full_for_a_receipt : (state : Tables) (replaces : Bool) (units : List ReceiptUnit)
    → nat_lt 99_999_999_999_999 (length state.mail + 1) ≡ true
    → judge_new_receipt gln (incoming [] []) []
    (record { number = codes "G1"; replaces = replaces; buyer = None; supplier = gln; units = units }) state
    ≡ Refuse codes_of.MailboxFull
full_for_a_receipt state replaces units full = refused_at (nat_lt 99_999_999_999_999 (length state.mail + 1)) codes_of.MailboxFull _ full
