pub mod LastContents
pub mod NumberedEntries
pub mod ReversedLists
pub mod Replies
pub mod RightMarks
pub mod ToldLists
pub mod Walked
pub mod SoFar
