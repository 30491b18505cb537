pub mod Networks
pub mod Worked
