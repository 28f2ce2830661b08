-- Shows by example why prefixes must not overlap: two suppliers, one of whose prefixes begins with the other's,
-- announce pallets with the same SSCC.
use Rattle.std.specs.Prelude.{ℕ, Bool, List, [], ◌∷◌, ◌++◌, codes}
use Rattle.hub_parties.specs.declared.row.SupplierRow.{SupplierRow}
use Rattle.hub_parties.specs.Rows.{RegisterRows}
use Rattle.hub_tables.specs.Register.{founded}
use Rattle.hub_tables.specs.Tables.{Tables}
use Rattle.hub_law.specs.Machine.{Inputs}
use Rattle.hub_law.specs.Mark.{Whole}
use Rattle.hub_law.specs.Widths.{line}
use Rattle.hub_requests.specs.declared.reply.Outcome.TheVariants.{Done}
use Rattle.hub_requests.specs.declared.reply.Reply.{Reply}
use Rattle.hub_requests.specs.declared.request.Input.{Input}
use Rattle.hub_requests.specs.declared.request.Request.TheVariants as requests

abbrev pub long_supplier : SupplierRow
long_supplier = record { gln = codes "4012345500004"; prefixes = codes "40123455" ∷ []; key = codes "alpha-key-1" }

abbrev pub short_supplier : SupplierRow
short_supplier = record { gln = codes "8712345000004"; prefixes = codes "4012345" ∷ []; key = codes "beta-key-1" }

abbrev pub retailer : List ℕ
retailer = codes "5412345000013"

abbrev pub overlapping_register : RegisterRows
overlapping_register = record {
  hub = codes "5412345000006";
  retailer = retailer;
  retailer_key = codes "retail-key";
  suppliers = short_supplier ∷ long_supplier ∷ [];
}

-- the tables that have only this register's rows
abbrev pub overlapping : Tables
overlapping = founded overlapping_register

abbrev pub upload_input : List ℕ → List ℕ → List ℕ → Input
upload_input caller key bytes =
    record { moment = 1_748_942_400; caller = caller; key = key; request = requests.Upload bytes }

-- an order of the retailer for a supplier
abbrev pub order_for : List ℕ → List ℕ → Input
order_for supplier reference = upload_input retailer (codes "retail-key") (
    codes "UNB+UNOC:3+5412345000013:14+5412345000006:14+250603:0915+" ++ reference
    ++ codes "'UNH+1+ORDERS:D:01B:UN'BGM+220+128576+9'DTM+137:20250603:102'NAD+BY+5412345000013::9'NAD+SU+"
    ++ supplier ++ codes "::9'LIN+1++4000862141404:SRV'QTY+21:48'UNS+S'UNT+9+1'UNZ+1+" ++ reference ++ codes "'")

-- a supplier's advice of a pallet
abbrev pub advice_of : SupplierRow → Input
advice_of s = upload_input s.gln s.key (
    codes "UNB+UNOC:3+" ++ s.gln ++ codes ":14+5412345000006:14+250604:0800+S2'"
    ++ codes "UNH+1+DESADV:D:01B:UN'BGM+351+DA1+9'DTM+137:20250604:102'RFF+ON:128576'NAD+SU+"
    ++ s.gln ++ codes "::9'CPS+1'GIN+BJ+340123455000000012'LIN+1++4000862141404:SRV'QTY+12:12'UNT+10+1'UNZ+1+S2'")

-- one order for each supplier
abbrev pub orders : Inputs
orders = (order_for short_supplier.gln (codes "1001"), Whole) ∷ (order_for long_supplier.gln (codes "1002"), Whole) ∷ []

-- then each supplier sends its advice, first the one with the short prefix
abbrev pub both_announce : Inputs
both_announce = orders ++ (advice_of short_supplier, Whole) ∷ (advice_of long_supplier, Whole) ∷ []

-- or only the supplier with the long prefix sends its advice
abbrev pub one_announces : Inputs
one_announces = orders ++ (advice_of long_supplier, Whole) ∷ []

-- the reply to the advice of the supplier with the long prefix
abbrev pub advice_reply : Bool → List (List ℕ) → Reply
advice_reply refused words = record {
  outcome = Done;
  refused = refused;
  body =
      line (codes "interchange" ∷ codes "S2" ∷ codes "messages" ∷ codes "1" ∷ [])
      ++ line (codes "1" ∷ codes "DESADV" ∷ words);
}
