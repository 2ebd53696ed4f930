pub mod TwoDicts
