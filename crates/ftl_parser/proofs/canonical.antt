pub mod TextLengths
pub mod TextNumbers
pub mod TextReads
pub mod TextShapes
pub mod TextTokens
pub mod TextValues
