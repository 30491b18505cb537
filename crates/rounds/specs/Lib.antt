pub mod Rounds
pub mod Claims
pub mod Truth
