-- Defines what look-ups have to find for the rules to decide as they would over all rows.
use Rattle.std.specs.Prelude.{ℕ, List, map}
use Rattle.std.specs.Borrow.{Bor}
use Rattle.std.specs.List.{AllByRecursion}
use Rattle.edi_goods.specs.declared.despatch.Despatch.{Despatch}
use Rattle.edi_goods.specs.declared.despatch.Unit.{Unit}
use Rattle.edi_orders.specs.declared.response.Response.{Response}
use Rattle.hub_tables.specs.Tables.{Tables, view, has_pallet}
use Rattle.hub_order_lines.specs.Book.{Orders}
use Rattle.hub_rules.specs.Rules.{judge_despatch, judge_response}
use Rattle.hub_rules.specs.Sound.{Kept}
use Rattle.hub_rules.specs.declared.incoming.IncomingMessage.{IncomingMessage}
use Rattle.hub_judges.specs.Known.{TellsDespatched, TellsForDespatch, TellsForResponse, TellsLines, TellsOrder}
use Rattle.hub_judges.specs.declared.known.Known.{Known}
use Rattle.hub_naming.specs.Lines.{LinesOfOrders, NamesLines, names_line}
use Rattle.hub_transactions.specs.Orders.{KeepsAsked, TellsAlike}

-- whether an order exists, its lines and, if the rows are kept, what was despatched of them are as in the state
pub record KnowsOrder (known : Known) (state : Tables) (order : List ℕ) : Type 0 where
  pub there : TellsOrder known state order
  pub lines : TellsLines state known.orders order
  pub despatched : Kept state → TellsDespatched state known.orders order

-- what is known decides an ORDRSP as the supplier's rows do
abbrev pub KnowsForResponse : IncomingMessage → Response → List ℕ → Tables → Known → Type 0
KnowsForResponse incoming response supplier t known =
    TellsAlike (TellsForResponse known incoming response)
    (λ retailer row. judge_response retailer row incoming response) (view supplier t)

-- what is known decides a DESADV as the supplier's rows and the SSCCs of all pallets do
abbrev pub KnowsForDespatch : IncomingMessage → Despatch → List ℕ → Tables → Known → Type 0
KnowsForDespatch incoming despatch supplier t known =
    TellsAlike (TellsForDespatch known (has_pallet t) incoming despatch)
    (λ retailer row. judge_despatch retailer row (has_pallet t) incoming despatch) (view supplier t)

-- the orders are known as the supplier's rows have them; those in `apart` only by the lines that an advice names
abbrev pub KeepsNamed : LinesOfOrders → Orders → List (Bor (List ℕ)) → List ℕ → Tables → Type 0
KeepsNamed named orders apart supplier t =
    KeepsAsked (names_line named) orders (map (λ number. number.now) apart) (view supplier t)

-- the orders are known as the supplier's rows have them, or by all lines of them that the units name
pub record KnowsNamed (units : List Unit) (orders : Orders) (apart : List (Bor (List ℕ))) (supplier : List ℕ) (t : Tables)
    : Type 0 where
  pub named : LinesOfOrders
  pub lines : AllByRecursion (λ unit. NamesLines named unit.lines) units
  pub keeps : KeepsNamed named orders apart supplier t
