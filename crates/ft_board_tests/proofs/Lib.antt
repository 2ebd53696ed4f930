pub mod MakerNotes
