pub mod WordPlaces
pub mod KnownTableWords
pub mod Running
pub mod BoxLoads
mod Walking
mod SearchEnds
pub mod LoadedLooks
pub mod LookSteps
pub mod SeenNames
mod BoxReads
mod RaisedReads
pub mod Rounding
pub mod Asking
pub mod FoundInContents
pub mod ReadMidst
pub mod Lengths
pub mod Changing
pub mod Deletions
pub mod Puts
pub mod Boxing
pub mod Unboxing
pub mod Owning
pub mod Overs
pub mod ValueLoads
pub mod Keeping
pub mod NamedEntries
pub mod Exchanging
pub mod SearchedReads
pub mod ReadyCommits
pub mod Laws
pub mod Spotting
pub mod Calling
pub mod OtherValues
pub mod SameValues
mod Costing
pub mod IndexWordsStay
mod Bounding
pub mod Spending
pub mod LookMoments
pub mod Undisturbed
