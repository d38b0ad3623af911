-- The opening: what it leaves in the arrays, and that events may be given to them.
pub mod OpensRows
pub mod OpensNobody
pub mod Opens
