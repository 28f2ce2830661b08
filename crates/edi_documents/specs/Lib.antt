pub use Rattle.edi_orders.specs as EdiOrders
pub use Rattle.edi_goods.specs as EdiGoods
pub mod Document
