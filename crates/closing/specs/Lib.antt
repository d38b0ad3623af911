-- A Wait's slots as closure takes them.
pub mod Slots
