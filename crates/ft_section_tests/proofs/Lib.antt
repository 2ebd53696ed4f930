pub mod StackDepths
