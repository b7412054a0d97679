pub mod JournalParts
pub mod LineParts
pub mod Query
pub mod Reading
pub mod Standing
pub mod Tests
