pub mod FieldBytes
pub mod Firsts
pub mod Shaped
pub mod Listed
pub mod Decoded
mod Oversized
mod Readback
pub mod Claimed
mod Elements
mod Encoded
mod Flat
mod Lent
mod Limits
mod Puts
mod Widths
mod Writes
