pub mod CallersOnline
pub mod AwaitedNotes
