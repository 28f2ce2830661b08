pub mod Book
pub mod ArticleIndex
pub mod Key
pub mod KnownLines
pub mod KnownOrders
pub mod Changed
