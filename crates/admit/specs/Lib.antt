-- Admit steps as the rules do.
pub mod Admits
