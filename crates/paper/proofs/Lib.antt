pub mod Fitting
pub mod Histories
pub mod Lines
pub mod Once
pub mod Some
