-- Shows the hub's machine by examples of joins, with the reply to each input byte by byte.
use Rattle.std.proofs.Common.{◌≡◌, ℕ, List, [], ◌∷◌, ◌++◌, Some, codes, refl}
use Rattle.std.specs.Fmt.{digits}
use Rattle.edi_envelope.specs.Interchange.{interchange_of, fault_of, contents_of, is_framed, is_row_of_messages, is_outside_set}
use Rattle.edi_orders.specs.Order.{order_of}
use Rattle.edi_orders.specs.Response.{response_of}
use Rattle.edi_goods.specs.Despatch.{despatch_of}
use Rattle.edi_goods.specs.Receipt.{receipt_of}
use Rattle.hub_parties.specs.Rows.{RegisterRows}
use Rattle.hub_parties.specs.declared.row.SupplierRow.{SupplierRow}
use Rattle.hub_tables.specs.Register.{founded, row_at}
use Rattle.hub_tables.specs.Tables.{Tables, view}
use Rattle.hub_law.specs.Alone.{items, Joined}
use Rattle.hub_law.specs.Machine.{Inputs, shared_run}
use Rattle.hub_law.specs.Mark.{Whole, StoppedEmpty, StoppedBare, StoppedAfter}
use Rattle.hub_law.specs.Opening.{interchange_in}
use Rattle.hub_law.specs.Replies.{reply, done}
use Rattle.hub_law.specs.StatusText.{status_text}
use Rattle.hub_requests.specs.declared.reply.Outcome.TheVariants.{Denied, Unknown, Stopped}
use Rattle.hub_requests.specs.declared.reply.Reply.{Reply}
use Rattle.hub_requests.specs.declared.request.Request.TheVariants as requests
use Rattle.hub_law.proofs.InExamples.{retailer, beta, register_with, asked, by_retailer, by, lines, refused}

abbrev gamma : SupplierRow
gamma = record {
  gln = codes "4006381000000";
  prefixes = codes "4006381" ∷ codes "9501101" ∷ [];
  key = codes "gamma-key-1";
}

-- another supplier that wants to join, with these prefixes
abbrev delta : List (List ℕ) → SupplierRow
delta prefixes = record { gln = codes "4012345500004"; prefixes = prefixes; key = codes "delta-key-1" }

abbrev register : RegisterRows
register = register_with (beta ∷ [])

abbrev denied_line : Reply
denied_line = reply Denied (lines (codes "denied" ∷ []))

abbrev replies : Inputs → List Reply
replies inputs = (shared_run (founded register) inputs).0

abbrev after : Inputs → Tables
after inputs = (shared_run (founded register) inputs).1

abbrev order : List ℕ
order =
    codes "UNB+UNOC:3+5412345000013:14+5412345000006:14+250603:0915+1001'UNH+1+ORDERS:D:01B:UN:EAN010'"
    ++ codes "BGM+220+128576+9'DTM+137:20250603:102'NAD+BY+5412345000013::9'NAD+SU+4006381000000::9'"
    ++ codes "LIN+1++4000862141404:SRV'QTY+21:48'UNS+S'CNT+2:1'UNT+10+1'UNZ+1+1001'"

-- an advice under its second prefix
abbrev advice : List ℕ
advice =
    codes "UNB+UNOC:3+4006381000000:14+5412345000006:14+250604:0800+S2'UNH+1+DESADV:D:01B:UN:EAN007'"
    ++ codes "BGM+351+DA1+9'DTM+137:20250604:102'RFF+ON:128576'NAD+BY+5412345000013::9'NAD+SU+4006381000000::9'"
    ++ codes "CPS+1'PAC+1'PCI+33E'GIN+BJ+395011010000000019'LIN+1++4000862141404:SRV'QTY+12:12'UNT+13+1'UNZ+1+S2'"

-- Before it joins, a supplier is denied and unknown, and what names it is refused and not remembered: the same upload
-- is accepted afterwards. It announces a pallet under its second prefix. It cannot join twice.
a_supplier_joins : replies (
    by gamma requests.Status
    ∷ by_retailer (requests.StatusOf gamma.gln)
    ∷ by_retailer (requests.Upload order)
    ∷ by_retailer (requests.Join gamma)
    ∷ by_retailer (requests.Upload order)
    ∷ by gamma (requests.Upload advice)
    ∷ by_retailer (requests.Join gamma)
    ∷ by gamma requests.Status
    ∷ []) ≡ (
    denied_line
    ∷ reply Unknown (lines (codes "unknown" ∷ []))
    ∷ refused (codes "interchange 1001 messages 1" ∷ codes "1 ORDERS refused B02" ∷ [])
    ∷ done (lines (codes "accepted" ∷ []))
    ∷ done (lines (codes "interchange 1001 messages 1" ∷ codes "1 ORDERS accepted" ∷ []))
    ∷ done (lines (codes "interchange S2 messages 1" ∷ codes "1 DESADV accepted" ∷ []))
    ∷ refused (codes "refused B18" ∷ [])
    ∷ done (lines (codes
    "L 128576                                   1 04000862141404 W        48        36         0         0        12"
    ∷ codes
    "P 395011010000000019 04000862141404 A             12              0              0              0              +0"
    ∷ codes "end"
    ∷ []))
    ∷ [])
unfolding interchange_in interchange_of fault_of contents_of is_framed is_row_of_messages is_outside_set order_of
    response_of despatch_of receipt_of status_text digits
a_supplier_joins = refl

-- One of its prefixes begins another supplier's, or begins with one; its own prefixes may begin one another. Only the
-- retailer, with its own key, can register a supplier.
who_may_join : replies (
    by_retailer (requests.Join (delta (codes "4012" ∷ codes "8712" ∷ [])))
    ∷ by_retailer (requests.Join (delta (codes "871234567" ∷ [])))
    ∷ by_retailer (requests.Join (delta (codes "4012" ∷ codes "40123455" ∷ [])))
    ∷ by_retailer (requests.Join gamma)
    ∷ by_retailer (requests.Join (record gamma { gln = codes "5412345000006" }))
    ∷ by_retailer (requests.Join (record gamma { gln = retailer }))
    ∷ by beta (requests.Join gamma)
    ∷ asked Whole (codes "4006381000000") (codes "delta-key-1") requests.Status
    ∷ by gamma requests.Status
    ∷ []) ≡ (
    refused (codes "refused B19" ∷ [])
    ∷ refused (codes "refused B19" ∷ [])
    ∷ done (lines (codes "accepted" ∷ []))
    ∷ done (lines (codes "accepted" ∷ []))
    ∷ refused (codes "refused B18" ∷ [])
    ∷ refused (codes "refused B18" ∷ [])
    ∷ denied_line
    ∷ denied_line
    ∷ done (lines (codes "end" ∷ []))
    ∷ [])
unfolding status_text digits
who_may_join = refl

-- a join that is stopped registers no one, and the same join is accepted afterwards
stopped_joins : replies (
    asked StoppedBare retailer (codes "retail-key") (requests.Join gamma)
    ∷ asked StoppedEmpty retailer (codes "retail-key") (requests.Join gamma)
    ∷ asked (StoppedAfter 1) retailer (codes "retail-key") (requests.Join gamma)
    ∷ by gamma requests.Status
    ∷ by_retailer (requests.Join gamma)
    ∷ by gamma requests.Status
    ∷ []) ≡ (
    reply Stopped (lines (codes "stopped" ∷ []))
    ∷ reply Stopped []
    ∷ reply Stopped (lines (codes "stopped" ∷ []))
    ∷ denied_line
    ∷ done (lines (codes "accepted" ∷ []))
    ∷ done (lines (codes "end" ∷ []))
    ∷ [])
unfolding status_text digits
stopped_joins = refl

-- a join that is accepted and not stopped is an item of the supplier that joins, and of no one else
abbrev joins_asked : Inputs
joins_asked =
    asked StoppedBare retailer (codes "retail-key") (requests.Join gamma)
    ∷ by_retailer (requests.Join (record gamma { prefixes = codes "8712" ∷ [] }))
    ∷ by_retailer (requests.Join gamma)
    ∷ by_retailer (requests.Join gamma)
    ∷ []

one_item : items gamma.gln (founded register) joins_asked ≡ Joined gamma ∷ []
one_item = refl

nobody_elses_item : items beta.gln (founded register) joins_asked ≡ []
nobody_elses_item = refl

-- it has the row that was asked for, and sees no other supplier's
its_row : row_at gamma.gln (after joins_asked) ≡ Some gamma
its_row = refl

keys_seen : (view gamma.gln (after joins_asked)).keys ≡ record { supplier = gamma.gln; key = gamma.key } ∷ []
keys_seen = refl

others_keys_seen : (view beta.gln (after joins_asked)).keys ≡ record { supplier = beta.gln; key = beta.key } ∷ []
others_keys_seen = refl
