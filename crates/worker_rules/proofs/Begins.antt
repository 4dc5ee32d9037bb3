pub mod OutsideCalls
pub mod OutermostBegins
