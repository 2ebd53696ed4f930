pub mod WordLaws
pub mod ContentLaws
pub mod Powers
pub mod PartLaws
pub mod FieldLaws
pub mod TableLaws
pub mod LiveLaws
pub mod KindLaws
mod KeyedLists
mod FollowLaws
mod ListTableLaws
mod Readers
mod PutLaws
mod WordsFollow
