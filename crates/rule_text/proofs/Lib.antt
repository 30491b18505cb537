mod Accepts
mod Answered
mod Alike
mod Bracketed
pub mod Claimed
mod Emitted
mod Fitting
mod Grown
pub mod Once
mod Parts
mod Pieces
mod Spelled
mod Stands
mod Steps
mod Verdict
