pub mod Net
pub mod Routes
pub mod Rules
pub mod Bindings
pub mod Refusals
pub mod Fitting
pub mod Sites
