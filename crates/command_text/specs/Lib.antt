-- what is promised
pub mod FirstWord
pub mod Grammar
pub mod GrammarLaws
pub mod Journal
pub mod Line
pub mod Parts
pub mod Piece
pub mod Ranges
pub mod Refusals
pub mod Shape
pub mod Sizes
pub mod Text
pub mod TextLaws
pub mod Tree
-- how it is done
pub mod inner
