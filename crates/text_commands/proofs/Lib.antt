pub mod WorkedScripts
pub mod Judged
pub mod ReadTexts
pub mod WrittenTexts
