-- Shows which supplier a message that was read names.
use Rattle.std.proofs.Common.{◌≡◌, Option, Some, None, Ok, ap}
use Rattle.edi_envelope.specs.declared.interchange.RawMessage.{RawMessage}
use Rattle.edi_messages.specs.Fault.{unless}
use Rattle.edi_messages.specs.declared.fault.MessageFault.{MessageFault}
use Rattle.edi_orders.specs.Order as orders
use Rattle.edi_orders.specs.declared.order.Order.{Order}
use Rattle.edi_goods.specs.Receipt as receipts
use Rattle.edi_goods.specs.declared.receipt.Receipt.{Receipt}
use Rattle.hub_law.specs.Messages.{named}

content_of : {X : Type 0} (fault : Option MessageFault) (content right : X) → unless fault content ≡ Ok right → content ≡ right
content_of None content right e = cc
content_of (Some fault) content right e = cc

pub order_names : (message : RawMessage) (order : Order) → orders.order_of message ≡ Ok order → named message ≡ order.supplier
unfolding orders.order_of
order_names message order e = ap (λ order. order.supplier) (content_of _ (orders.contents_of message.segments) order e)

pub receipt_names : (message : RawMessage) (receipt : Receipt) → receipts.receipt_of message ≡ Ok receipt → named message ≡ receipt.supplier
unfolding receipts.receipt_of
receipt_names message receipt e = ap (λ receipt. receipt.supplier) (content_of _ (receipts.contents_of message.segments) receipt e)
