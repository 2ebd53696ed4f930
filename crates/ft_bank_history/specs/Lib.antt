pub mod LastContents
pub mod Marks
pub mod Numbering
pub mod SoFar
