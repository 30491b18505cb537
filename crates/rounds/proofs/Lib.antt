pub mod Tests
pub mod Truth
pub mod Settle
pub mod Walks
pub mod Exact
pub mod Every
pub mod Decide
