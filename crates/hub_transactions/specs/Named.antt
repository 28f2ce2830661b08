-- Defines when a message names orders whose lines cannot be used.
use Rattle.std.specs.Prelude.{◌≡◌, ◌⊎◌, ℕ, true, List, [], Ok}
use Rattle.edi_base.specs.Seen.{is_among}
use Rattle.edi_envelope.specs.declared.interchange.RawMessage.{RawMessage}
use Rattle.edi_orders.specs.Response.{response_of}
use Rattle.edi_orders.specs.declared.response.Response.{Response}
use Rattle.edi_goods.specs.Despatch.{despatch_of}
use Rattle.edi_goods.specs.declared.despatch.Despatch.{Despatch}
use Rattle.edi_goods.specs.declared.despatch.Unit.{Unit}
use Rattle.hub_tables.specs.State.{knows_order, lines_of}
use Rattle.hub_tables.specs.Tables.{Tables}
use Rattle.hub_order_lines.specs.Book.{Orders}
use Rattle.hub_order_lines.specs.KnownLines.{AreUnclean}
use Rattle.hub_order_lines.specs.KnownOrders.{AddsOrder}
use Rattle.hub_store.specs.Lines.{lines_at}
use Rattle.hub_judges.specs.Known.{names_order}
use Rattle.hub_naming.specs.Lines.{NamesByNumber}

-- the lines of one of these orders cannot be used
pub record SomeUnclean (numbers : List (List ℕ)) (state : Tables) : Type 0 where
  pub order : List ℕ
  pub among : is_among order numbers ≡ true
  pub lines : AreUnclean (lines_of state order)

-- the units name an order whose lines cannot be used
pub record NamedUnclean (units : List Unit) (state : Tables) : Type 0 where
  pub order : List ℕ
  pub named : names_order units order ≡ true
  pub lines : AreUnclean (lines_of state order)

-- the message is an ORDRSP, and the lines of its order cannot be used
pub record ResponseUnclean (message : RawMessage) (state : Tables) : Type 0 where
  pub response : Response
  pub read : response_of message ≡ Ok response
  pub lines : AreUnclean (lines_of state response.order)

-- the message is a DESADV, and it names an order whose lines cannot be used
pub record DespatchUnclean (message : RawMessage) (state : Tables) : Type 0 where
  pub despatch : Despatch
  pub read : despatch_of message ≡ Ok despatch
  pub lines : NamedUnclean despatch.units state

-- the message is one of these
abbrev pub MessageUnclean : RawMessage → Tables → Type 0
MessageUnclean message state = ResponseUnclean message state ⊎ DespatchUnclean message state

-- an order is known by only those lines that the answer names, each by its number
pub record NamedLines (response : Response) (state : Tables) (orders : Orders) : Type 0 where
  pub numbers : List ℕ
  pub by_number : NamesByNumber numbers response.answer
  pub known : AddsOrder response.order (knows_order state response.order) (lines_at state response.order numbers) [] orders
