-- Defines when the facts given to a judge agree with a state, as far as the judge reads them.
use Rattle.std.specs.Prelude.{◌≡◌, ℕ, Bool, true, false, None, List, [], length, map, option_map}
use Rattle.std.specs.List.{AllByRecursion, list_any}
use Rattle.edi_orders.specs.declared.order.Order.{Order}
use Rattle.edi_orders.specs.declared.response.Response.{Response}
use Rattle.edi_goods.specs.declared.despatch.Despatch.{Despatch}
use Rattle.edi_goods.specs.declared.despatch.Unit.{Unit}
use Rattle.edi_goods.specs.declared.receipt.Receipt.{Receipt}
use Rattle.hub_tables.specs.Rows.{same}
use Rattle.hub_tables.specs.State.{knows_order, knows_advice, lines_of, despatched, pallet_of, remembered_content}
use Rattle.hub_tables.specs.Tables.{Tables, has_pallet}
use Rattle.hub_tables.specs.declared.cases.Side.{Side}
use Rattle.hub_tables.specs.declared.cases.Side.TheVariants.{Retailer, Supplier, Cancellation}
use Rattle.hub_order_lines.specs.Book.{Orders, has_order, lines_in, rows}
use Rattle.hub_rules.specs.declared.cancel.Cancel.{Cancel}
use Rattle.hub_rules.specs.declared.incoming.IncomingMessage.{IncomingMessage}
use Rattle.hub_judges.specs.declared.known.Known.{Known}

-- whether this is the content remembered for a side under two references agrees
abbrev pub TellsRemembered : Known → Side → List ℕ → List ℕ → List ℕ → Tables → Type 0
TellsRemembered known side control message content state =
    option_map (λ there. same there content) (remembered_content state side control message) ≡ known.remembered

-- whether the order exists agrees
abbrev pub TellsOrder : Known → Tables → List ℕ → Type 0
TellsOrder known state order = knows_order state order ≡ has_order known.orders order

-- the lines of the order agree
abbrev pub TellsLines : Tables → Orders → List ℕ → Type 0
TellsLines state orders order = lines_of state order ≡ rows (lines_in orders order)

-- the despatched quantity of each line of the order agrees
abbrev pub TellsDespatched : Tables → Orders → List ℕ → Type 0
TellsDespatched state orders order = AllByRecursion (λ line. despatched state line.row ≡ line.despatched) (lines_in orders order)

-- the facts for an ORDERS agree; if its references are already remembered, those of its number and of the mailbox need
-- not
pub record TellsForOrder (known : Known) (incoming : IncomingMessage) (order : Order) (state : Tables) : Type 0 where
  pub remembered : TellsRemembered known Retailer incoming.control incoming.message incoming.content state
  pub number : known.remembered ≡ None → knows_order state order.number ≡ known.number_known
  pub mails : known.remembered ≡ None → length state.mail ≡ known.mails

-- the facts of the answered order agree
pub record TellsAnswered (known : Known) (number : List ℕ) (state : Tables) : Type 0 where
  pub order : TellsOrder known state number
  pub lines : TellsLines state known.orders number
  pub despatched : TellsDespatched state known.orders number

-- the facts for an ORDRSP agree; if its references are already remembered, those of the order need not
pub record TellsForResponse (known : Known) (incoming : IncomingMessage) (response : Response)
    (state : Tables) : Type 0 where
  pub remembered : TellsRemembered known Supplier incoming.control incoming.message incoming.content state
  pub answered : known.remembered ≡ None → TellsAnswered known response.order state

-- whether some line of the advice names the order
abbrev pub names_order : List Unit → List ℕ → Bool
names_order units order = list_any (λ unit. list_any (λ line. same line.order order) unit.lines) units

-- the facts of a DESADV's units agree, and those of the orders that they name
pub record TellsUnits (known : Known) (used : List ℕ → Bool) (units : List Unit) (state : Tables) : Type 0 where
  pub used_told : map (λ unit. used unit.sscc) units ≡ known.used
  pub orders : (order : List ℕ) → names_order units order ≡ true → TellsOrder known state order
  pub lines : (order : List ℕ) → names_order units order ≡ true → TellsLines state known.orders order

-- The facts for a DESADV agree. Whether an SSCC is used is known for each unit, and is true whenever the state has the
-- pallet. If its references are already remembered, or its number is known, those of the units need not agree.
pub record TellsForDespatch (known : Known) (used : List ℕ → Bool) (incoming : IncomingMessage) (despatch : Despatch)
    (state : Tables) : Type 0 where
  pub remembered : TellsRemembered known Supplier incoming.control incoming.message incoming.content state
  pub number : knows_advice state despatch.number ≡ known.number_known
  pub used_there : (sscc : List ℕ) → has_pallet state sscc ≡ true → used sscc ≡ true
  pub units : known.remembered ≡ None → known.number_known ≡ false → TellsUnits known used despatch.units state

-- the facts for a RECADV agree; if its references are already remembered, those of the mailbox and of the pallets need
-- not
pub record TellsForReceipt (known : Known) (incoming : IncomingMessage) (receipt : Receipt)
    (state : Tables) : Type 0 where
  pub remembered : TellsRemembered known Retailer incoming.control incoming.message incoming.content state
  pub mails : known.remembered ≡ None → length state.mail ≡ known.mails
  pub pallets : known.remembered ≡ None → map (λ unit. pallet_of state unit.sscc) receipt.units ≡ known.pallets

-- the facts for a cancellation agree; if its reference is already remembered, those of the order need not
pub record TellsForCancel (known : Known) (content : List ℕ) (cancel : Cancel) (state : Tables) : Type 0 where
  pub remembered : TellsRemembered known Cancellation cancel.reference [] content state
  pub order : known.remembered ≡ None → TellsOrder known state cancel.order
  pub lines : known.remembered ≡ None → TellsLines state known.orders cancel.order
