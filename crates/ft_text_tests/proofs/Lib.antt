pub mod StartWorlds
