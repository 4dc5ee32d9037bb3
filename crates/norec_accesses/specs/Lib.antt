pub mod KeptFrames
pub mod WholeReads
