-- what is promised
pub mod Example
pub mod Fault
pub mod Grammar
pub mod Lawful
pub mod Marks
pub mod Number
pub mod Order
pub mod Piece
pub mod Sizes
pub mod Text
pub mod TextLaws
pub mod Tree
pub mod Words
-- how it is done
pub mod inner
