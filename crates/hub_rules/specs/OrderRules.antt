-- Defines the rules of ORDERS (B04, and B16 of MailboxRules).
use Rattle.std.specs.Prelude.{ℕ, List, ◌∷◌, length, map}
use Rattle.edi_documents.specs.EdiOrders.declared.order.Order.{Order}
use Rattle.edi_documents.specs.EdiOrders.declared.order.OrderLine.{OrderLine}
use Rattle.hub_tables.specs.Cases.{answer_letter}
use Rattle.hub_tables.specs.State.{knows_order}
use Rattle.hub_tables.specs.declared.cases.LineState.TheVariants.{Waiting}
use Rattle.hub_tables.specs.declared.cases.MailKind.TheVariants as kinds
use Rattle.hub_tables.specs.declared.change.Change.{Change}
use Rattle.hub_tables.specs.declared.change.Change.TheVariants.{AddOrder, AddLine}
use Rattle.hub_rules.specs.Judging.{Judge, refuse_if}
use Rattle.hub_rules.specs.MailboxRules.{is_full, new_mail}
use Rattle.hub_rules.specs.declared.code.Code.TheVariants.{OrderKnown, MailboxFull}
use Rattle.hub_rules.specs.declared.incoming.IncomingMessage.{IncomingMessage}
use Rattle.hub_rules.specs.declared.verdict.Verdict.TheVariants.{Accept}

-- a new order line: all of its quantity is open, and it waits for an answer
abbrev pub new_line : List ℕ → List ℕ → OrderLine → Change
new_line supplier number line = AddLine (record {
  supplier = supplier;
  number = number;
  line = line.line;
  gtin = line.gtin;
  ordered = line.quantity;
  open_qty = line.quantity;
  refused = 0;
  cancelled = 0;
  answer = answer_letter Waiting;
})

-- B04, B16; then the mailbox entry, the order and its lines
abbrev pub judge_new_order : List ℕ → IncomingMessage → List ℕ → Order → Judge
judge_new_order supplier incoming body order state =
    refuse_if (knows_order state order.number) OrderKnown (
    refuse_if (is_full (length state.mail)) MailboxFull (
    Accept (
    new_mail supplier state incoming kinds.Orders order.number body
    ∷ AddOrder (record { supplier = supplier; number = order.number })
    ∷ map (new_line supplier order.number) order.lines)))
