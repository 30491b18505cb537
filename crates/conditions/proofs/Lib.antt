pub mod Bits
pub mod Words
pub mod Picking
pub mod AnyWidth
