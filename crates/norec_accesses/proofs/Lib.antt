pub mod Common
pub mod KeptFrames
pub mod WriteReplies
pub mod CopyCalls
pub mod ReadCalls
