pub mod Entries
pub mod Listed
pub mod Judging
pub mod Playing
