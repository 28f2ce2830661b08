-- Tries rows of each kind at their limits and just past them, and cells that no row of the code has.
use Rattle.std.proofs.Common.{◌≡◌, ℕ, true, false, List, [], ◌∷◌, ◌++◌, codes, refl}
use Rattle.std.specs.List.{list_all, list_any}
use Rattle.gs1_ids.specs.Digits.{is_key}
use Rattle.gs1_ids.specs.Gln.{is_gln}
use Rattle.hub_tables.specs.Cases.{answer_letter, side_letter, kind_letter, arrival_number, truth_number}
use Rattle.hub_tables.specs.Tables.{Tables, empty}
use Rattle.hub_tables.specs.declared.cases.LineState.TheVariants.{Waiting, Accepted, NotAccepted, Changed}
use Rattle.hub_tables.specs.declared.cases.Side.TheVariants.{Retailer, Supplier, Cancellation}
use Rattle.hub_tables.specs.declared.cases.MailKind.TheVariants.{Orders, Receipt}
use Rattle.hub_tables.specs.declared.cases.Arrival.TheVariants.{Announced, Received, Replaced}
use Rattle.hub_tables.specs.declared.rows.HubRow.{HubRow}
use Rattle.hub_tables.specs.declared.rows.KeyRow.{KeyRow}
use Rattle.hub_tables.specs.declared.rows.PrefixRow.{PrefixRow}
use Rattle.hub_tables.specs.declared.rows.OrderRow.{OrderRow}
use Rattle.hub_tables.specs.declared.rows.LineRow.{LineRow}
use Rattle.hub_tables.specs.declared.rows.AdviceRow.{AdviceRow}
use Rattle.hub_tables.specs.declared.rows.PalletRow.{PalletRow}
use Rattle.hub_tables.specs.declared.rows.ContentRow.{ContentRow}
use Rattle.hub_tables.specs.declared.rows.ReceiptRow.{ReceiptRow}
use Rattle.hub_tables.specs.declared.rows.RememberedRow.{RememberedRow}
use Rattle.hub_tables.specs.declared.rows.MailRow.{MailRow}
use Rattle.hub_store.specs.Clean.{clean_hub, clean_key, clean_prefix}
use Rattle.hub_store.specs.Clean.{clean_order, clean_line, clean_advice, clean_pallet, clean_content, clean_receipt}
use Rattle.hub_store.specs.Clean.{clean_remembered, clean_mail, are_clean}

-- keys with the right check digit, and keys with a wrong one

right_gln : is_gln (codes "4012345500004") ≡ true
right_gln = refl

wrong_gln : is_gln (codes "4012345500005") ≡ false
wrong_gln = refl

right_gtin : is_key 14 (codes "04000862141404") ≡ true
right_gtin = refl

wrong_gtin : is_key 14 (codes "04000862141405") ≡ false
wrong_gtin = refl

right_sscc : is_key 18 (codes "340123455000000012") ≡ true
right_sscc = refl

wrong_sscc : is_key 18 (codes "340123455000000013") ≡ false
wrong_sscc = refl

-- 14 and 35 bytes, and one more
abbrev bytes_14 : List ℕ
bytes_14 = codes "12345678901234"

abbrev bytes_15 : List ℕ
bytes_15 = codes "123456789012345"

abbrev bytes_35 : List ℕ
bytes_35 = codes "12345678901234567890123456789012345"

abbrev bytes_36 : List ℕ
bytes_36 = codes "123456789012345678901234567890123456"

-- cells that hold neither a text nor a number
abbrev no_text : List ℕ
no_text = 256 ∷ []

abbrev no_number : ℕ
no_number = 18_446_744_073_709_551_616

text_as_a_key : is_gln no_text ≡ false
text_as_a_key = refl

-- Rows with such keys, whichever the keys are.

module _ (gln no_gln item no_item sscc no_sscc : List ℕ)
    (right_g : is_gln gln ≡ true) (wrong_g : is_gln no_gln ≡ false) (right_i : is_key 14 item ≡ true)
    (wrong_i : is_key 14 no_item ≡ false) (right_s : is_key 18 sscc ≡ true) (wrong_s : is_key 18 no_sscc ≡ false) where
  abbrev hub : HubRow
  hub = record { hub = gln; retailer = gln; key = codes "retail-key" }

  hubs_within : clean_hub hub ≡ true
  hubs_within = simp (right_g) refl

  hubs_past :
      list_any clean_hub (
      record hub { hub = no_gln } ∷ record hub { retailer = no_gln } ∷ record hub { key = codes "short" } ∷ []) ≡ false
  hubs_past = simp (right_g, wrong_g) refl

  abbrev key : KeyRow
  key = record { supplier = gln; key = codes "alpha-key-1" }

  keys_within : clean_key key ≡ true
  keys_within = simp (right_g) refl

  keys_past : list_any clean_key (record key { supplier = no_gln } ∷ record key { key = bytes_14 ++ 32 ∷ [] } ∷ []) ≡ false
  keys_past = simp (right_g, wrong_g) refl

  abbrev prefix : PrefixRow
  prefix = record { prefix = codes "40123455"; supplier = gln }

  prefixes_within : clean_prefix prefix ≡ true
  prefixes_within = simp (right_g) refl

  prefixes_past :
      list_any clean_prefix (
      record prefix { supplier = no_gln } ∷ record prefix { prefix = codes "401" } ∷ record prefix { prefix = codes "401x" }
      ∷ record prefix { prefix = codes "4012345678901" } ∷ []) ≡ false
  prefixes_past = simp (right_g, wrong_g) refl

  abbrev order : OrderRow
  order = record { supplier = gln; number = codes "128576" }

  orders_within : list_all clean_order
      (order ∷ record order { number = bytes_35 } ∷ record order { number = 32 ∷ 126 ∷ [] } ∷ []) ≡ true
  orders_within = simp right_g refl

  orders_past :
      list_any clean_order (
      record order { supplier = no_gln } ∷ record order { number = [] }
      ∷ record order { number = bytes_36 } ∷ record order { number = 31 ∷ [] } ∷ record order { number = 127 ∷ [] }
      ∷ record order { number = no_text } ∷ []) ≡ false
  orders_past = simp (right_g, wrong_g) refl

  abbrev line : LineRow
  line = record {
    supplier = gln;
    number = codes "128576";
    line = 1;
    gtin = item;
    ordered = 48;
    open_qty = 12;
    refused = 24;
    cancelled = 12;
    answer = answer_letter Changed;
  }

  lines_within :
      list_all clean_line (
      line ∷ record line { number = bytes_35 } ∷ record line { line = 999_999 } ∷ record line { open_qty = 0 }
      ∷ record line { ordered = 1; open_qty = 0; refused = 0; cancelled = 1 } ∷ record line { ordered = 999_999_999 }
      ∷ record line { answer = answer_letter Waiting } ∷ record line { answer = answer_letter Accepted }
      ∷ record line { answer = answer_letter NotAccepted } ∷ []) ≡ true
  lines_within = simp (right_g, right_i) refl

  lines_past :
      list_any clean_line (
      record line { supplier = no_gln } ∷ record line { number = [] } ∷ record line { number = bytes_36 }
      ∷ record line { line = 0 } ∷ record line { line = 1_000_000 } ∷ record line { gtin = no_item }
      ∷ record line { ordered = 0; open_qty = 0; refused = 0; cancelled = 0 } ∷ record line { ordered = 1_000_000_000 }
      ∷ record line { open_qty = 13 } ∷ record line { refused = 25 } ∷ record line { cancelled = 13 }
      ∷ record line { open_qty = no_number } ∷ record line { refused = no_number }
      ∷ record line { cancelled = no_number }
      ∷ record line { answer = 0 } ∷ record line { answer = no_number } ∷ []) ≡ false
  lines_past = simp (right_g, wrong_g, right_i, wrong_i) refl

  abbrev advice : AdviceRow
  advice = record { supplier = gln; number = codes "DES1" }

  advices_within : list_all clean_advice (advice ∷ record advice { number = bytes_35 } ∷ []) ≡ true
  advices_within = simp right_g refl

  advices_past : list_any clean_advice
      (record advice { supplier = no_gln } ∷ record advice { number = [] } ∷ record advice { number = bytes_36 }
      ∷ []) ≡ false
  advices_past = simp (right_g, wrong_g) refl

  abbrev pallet : PalletRow
  pallet = record { sscc = sscc; supplier = gln; advice = codes "DES1"; received = arrival_number Announced }

  pallets_within : list_all clean_pallet
      (pallet ∷ record pallet { advice = bytes_35 } ∷ record pallet { received = arrival_number Received }
      ∷ record pallet { received = arrival_number Replaced } ∷ []) ≡ true
  pallets_within = simp (right_g, right_s) refl

  pallets_past :
      list_any clean_pallet (
      record pallet { sscc = no_sscc } ∷ record pallet { supplier = no_gln } ∷ record pallet { advice = [] }
      ∷ record pallet { advice = bytes_36 } ∷ record pallet { received = 3 } ∷ []) ≡ false
  pallets_past = simp (right_g, wrong_g, right_s, wrong_s) refl

  abbrev content : ContentRow
  content = record { sscc = sscc; place = 1; number = codes "128576"; line = 1; quantity = 1 }

  contents_within :
      list_all clean_content (
      content ∷ record content { place = 999_999 } ∷ record content { number = bytes_35 }
      ∷ record content { line = 999_999 }
      ∷ record content { quantity = 999_999_999 } ∷ []) ≡ true
  contents_within = simp right_s refl

  contents_past :
      list_any clean_content (
      record content { sscc = no_sscc } ∷ record content { place = 0 } ∷ record content { place = 1_000_000 }
      ∷ record content { number = [] } ∷ record content { number = bytes_36 } ∷ record content { line = 0 }
      ∷ record content { line = 1_000_000 } ∷ record content { quantity = 0 }
      ∷ record content { quantity = 1_000_000_000 } ∷ []) ≡ false
  contents_past = simp (right_s, wrong_s) refl

  abbrev receipt : ReceiptRow
  receipt = record { sscc = sscc; gtin = item; accepted = 0; returned = 0; destroyed = 0 }

  receipts_within :
      list_all clean_receipt (
      receipt ∷ record receipt { accepted = 999_999_999 } ∷ record receipt { returned = 999_999_999 }
      ∷ record receipt { destroyed = 999_999_999 } ∷ []) ≡ true
  receipts_within = simp (right_i, right_s) refl

  receipts_past :
      list_any clean_receipt (
      record receipt { sscc = no_sscc } ∷ record receipt { gtin = no_item }
      ∷ record receipt { accepted = 1_000_000_000 }
      ∷ record receipt { returned = 1_000_000_000 } ∷ record receipt { destroyed = 1_000_000_000 } ∷ []) ≡ false
  receipts_past = simp (right_i, wrong_i, right_s, wrong_s) refl

  abbrev remembered : RememberedRow
  remembered = record {
    supplier = gln;
    side = side_letter Retailer;
    control = codes "1001";
    message = codes "7";
    content = 0 ∷ 255 ∷ [];
  }

  -- a cancellation, which has no message reference
  abbrev cancellation : RememberedRow
  cancellation = record remembered { side = side_letter Cancellation; message = [] }

  remembered_within :
      list_all clean_remembered (
      remembered ∷ record remembered { side = side_letter Supplier } ∷ record remembered { control = bytes_14 }
      ∷ record remembered { message = bytes_14 } ∷ record remembered { content = [] } ∷ cancellation ∷ []) ≡ true
  remembered_within = simp right_g refl

  remembered_past :
      list_any clean_remembered (
      record remembered { supplier = no_gln } ∷ record remembered { side = 0 } ∷ record remembered { control = [] }
      ∷ record remembered { control = bytes_15 } ∷ record remembered { message = [] }
      ∷ record remembered { message = bytes_15 }
      ∷ record remembered { content = no_text } ∷ record cancellation { message = codes "7" }
      ∷ record cancellation { message = no_text } ∷ []) ≡ false
  remembered_past = simp (right_g, wrong_g) refl

  abbrev entry : MailRow
  entry = record {
    supplier = gln;
    number = 1;
    moment = 0;
    decimal = 46;
    kind = kind_letter Orders;
    document = codes "128576";
    body = 0 ∷ 255 ∷ [];
    taken = truth_number false;
  }

  mail_within :
      list_all clean_mail (
      entry ∷ record entry { number = 99_999_999_999_999 } ∷ record entry { moment = 4_102_444_799 }
      ∷ record entry { decimal = 44 }
      ∷ record entry { kind = kind_letter Receipt } ∷ record entry { document = bytes_35 } ∷ record entry { body = [] }
      ∷ record entry { taken = truth_number true } ∷ []) ≡ true
  mail_within = simp right_g refl

  mail_past :
      list_any clean_mail (
      record entry { supplier = no_gln } ∷ record entry { number = 0 } ∷ record entry { number = 100_000_000_000_000 }
      ∷ record entry { moment = 4_102_444_800 } ∷ record entry { decimal = 45 } ∷ record entry { kind = 0 }
      ∷ record entry { document = [] } ∷ record entry { document = bytes_36 } ∷ record entry { body = no_text }
      ∷ record entry { taken = 2 } ∷ []) ≡ false
  mail_past = simp (right_g, wrong_g) refl

  -- one row of each kind
  abbrev tables : Tables
  tables = record {
    hubs = hub ∷ [];
    keys = key ∷ [];
    prefixes = prefix ∷ [];
    orders = order ∷ [];
    lines = line ∷ [];
    advices = advice ∷ [];
    pallets = pallet ∷ [];
    contents = content ∷ [];
    receipts = receipt ∷ [];
    remembered = remembered ∷ [];
    mail = entry ∷ [];
  }

  tables_clean : list_all are_clean (empty ∷ tables ∷ []) ≡ true
  tables_clean = simp (right_g, right_i, right_s) refl

  -- a malformed row after a clean one is found, in each kind
  tables_not_clean :
      list_any are_clean (
      record tables { hubs = hub ∷ record hub { key = [] } ∷ [] }
      ∷ record tables { keys = key ∷ record key { key = [] } ∷ [] }
      ∷ record tables { prefixes = prefix ∷ record prefix { prefix = [] } ∷ [] }
      ∷ record tables { orders = order ∷ record order { number = [] } ∷ [] }
      ∷ record tables { lines = line ∷ record line { line = 0 } ∷ [] }
      ∷ record tables { advices = advice ∷ record advice { number = [] } ∷ [] }
      ∷ record tables { pallets = pallet ∷ record pallet { received = 3 } ∷ [] }
      ∷ record tables { contents = content ∷ record content { place = 0 } ∷ [] }
      ∷ record tables { receipts = receipt ∷ record receipt { gtin = no_item } ∷ [] }
      ∷ record tables { remembered = remembered ∷ record remembered { side = 0 } ∷ [] }
      ∷ record tables { mail = entry ∷ record entry { number = 0 } ∷ [] } ∷ []) ≡ false
  tables_not_clean = simp (right_g, right_i, wrong_i, right_s) refl
