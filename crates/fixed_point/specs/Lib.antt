pub mod AtEnd
pub mod Canonical
pub mod Decimal
pub mod Digits
pub mod Laws
pub mod Sizes
