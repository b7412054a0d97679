pub mod FirstBytes
pub mod Found
