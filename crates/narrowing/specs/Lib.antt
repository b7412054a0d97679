pub mod Terms
pub mod Covering
pub mod Needed
pub mod Holding
pub mod Beside
pub mod Narrowed
pub mod Reaching
pub mod Whereabouts
