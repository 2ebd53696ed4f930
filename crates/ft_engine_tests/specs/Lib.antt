pub mod TestCallers
