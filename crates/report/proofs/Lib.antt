pub mod Adding
pub mod Judged
pub mod Listing
pub mod Reporting
pub mod Once
