pub mod Verdicts
pub mod Rehearsals
pub mod Shutting
pub mod Once
