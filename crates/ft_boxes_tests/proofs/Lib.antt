pub mod SeenItems
pub mod SharedBoxes
pub mod StillPasses
pub mod Stores
