pub mod Sets
pub mod WordSets
