-- The commits, in their order, and the memories that they left.
pub mod Memories
