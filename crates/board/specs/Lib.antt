pub mod Entries
pub mod Tables
pub mod Possible
pub mod Boards
pub mod Fitting
pub mod Answers
pub mod Judged
pub mod Played
