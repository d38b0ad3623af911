-- Leave steps as the rules do.
pub mod Leaves
