pub mod Placing
pub mod Internal
pub mod Fresh
pub mod KeyGrowth
pub mod HeldKeys
pub mod Moving
