pub mod KeyChange
